-- The formulas of clauses are closed, and are all true where the clauses are met.
use Rattle.std.proofs.Common.{List, get_or, map, ap, ◌∙◌, subst, arith}
use Rattle.std.specs.List.{All, Contains}
use Rattle.std.proofs.lemmas.List.{length-map, get_or-map}
use Rattle.std.proofs.lemmas.List.Elements.{All-map, All-contains, Contains-get_or}
use Rattle.dai_model.specs.Protocol.{Protocol}
use Rattle.dai_model.specs.Value.{Satisfies}
use Rattle.dai_model.specs.WellSorted.{IsWellSorted, closed_scope}
use Rattle.dai_model.specs.Clause.{Clause}
use Rattle.dai_model.specs.Template.{Bounds, IsTemplate}
use Rattle.dai_template.specs.ClauseFormulas.{formula_of_clause}
use Rattle.dai_template.proofs.ClauseFormula.{formula_says}
use Rattle.dai_template.specs.declared.clause.Clause.{Clause as Own}
use Rattle.dai_template.specs.declared.space.Space.{Space}
use Rattle.dai_template.specs.Spaces.{clause_of}
use Rattle.dai_template.specs.Lists.{clauses_of}
use Rattle.dai_weaken.specs.Questions.{ArePremises}
use Rattle.dai_judge.specs.Premises.{AreFormulasOf}
use Rattle.dai_judge.proofs.Sorted.{formula_sorted}

-- a mapped member
mapped_at : {X : Type 0} (Q : X → Type 0) {Y : Type 0} (f : Y → X) (ys : List Y) (y : Y) → All Q (map f ys) → Contains ys y → Q (f y)
mapped_at Q f ys y all there =
    let long = length-map ys f in
    let below = there.1 in
    subst Q (get_or-map f ys there.0 y (f y) there.1 ∙ ap f there.2) (all there.0 (f y) (omega (arith, long, below)))

pub are_formulas : (P : Protocol) (B : Bounds) (clauses : List Clause) → ((c : Clause) → Contains clauses c → IsTemplate P B c) → AreFormulasOf P clauses (map (formula_of_clause P) clauses)
are_formulas P B clauses templates = record {
  closed = All-map (IsWellSorted P closed_scope) (formula_of_clause P) clauses (λ k d below. formula_sorted P B (get_or clauses k d) (templates (get_or clauses k d) (Contains-get_or clauses k d below)));
  exact = λ s structure. (
    λ all c there. (formula_says P B c s (templates c there)).0 (mapped_at (Satisfies s) (formula_of_clause P) clauses c all there),
    λ met. All-map (Satisfies s) (formula_of_clause P) clauses (λ k d below.
        let c = get_or clauses k d in
        let there = Contains-get_or clauses k d below in
        (formula_says P B c s (templates c there)).1 (met c there)),
  );
}

-- premises are templates
pub templates : (P : Protocol) (space : Space) (clauses : List Own) (own : ArePremises P space clauses) (c : Clause) → Contains (clauses_of space clauses) c → IsTemplate P own.bounds c
templates P space clauses own c there =
    All-contains (IsTemplate P own.bounds) (clauses_of space clauses) c
    (All-map (IsTemplate P own.bounds) (clause_of space) clauses (λ k d below. (own.each (get_or clauses k d) (Contains-get_or clauses k d below)).template)) there
