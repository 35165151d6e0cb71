use Rattle.std.proofs.Common.{◌≡◌, ◌↔◌, ◌≤◌, ℕ, List, length, map, sum, sym, ◌∙◌, ap, subst, arith}
use Rattle.dai_template.specs.Atoms.{atom_of}
use Rattle.dai_template.specs.ClauseFormulas.{for_all, formula_of_clause, IsWritable}
use Rattle.dai_template.proofs.Flat.{types_length}
use Rattle.dai_template.proofs.Clauses.{clause_writable, formula_built}
use Rattle.dai_template.proofs.ClauseFormula.{formula_says}
use Rattle.std.proofs.lemmas.Result.{IfOk-weaker}
use Rattle.dai_model.specs.Protocol.{Protocol}
use Rattle.dai_model.specs.Template.{Bounds}
use Rattle.dai_model.specs.Clause.{Meets}
use Rattle.dai_model.specs.Value.{Satisfies}
use Rattle.dai_logic.specs.declared.protocol.Formula.{Formula as Tree}
use Rattle.dai_logic.specs.declared.protocol.Formula.TheVariants.{Any}
use Rattle.dai_logic.specs.Trees.{formula_of}
use Rattle.dai_template.specs.Spaces.{IsClauseOf, clause_of}
use Rattle.dai_template.proofs.space.Space.formula.Goals as goal

pub clashes-requires-clause-few : goal.clashes-requires-clause-few
clashes-requires-clause-few c =
    let w = clause_writable c.requires.protocol c.requires.bounds c.args.self.now c.args.clause.now c.index-shape.result.now c.requires.is c.index-shape.ensures in
    subst (λ (xs : List ℕ). sum xs ≤ 32) (sym c.deref-2.ensures.value) w.few_variables

pub add_literals-requires : goal.add_literals-requires
add_literals-requires c =
    subst (λ (xs : List ℕ). IsWritable c.index-shape.result.now.counts.items (map atom_of c.index-shape.result.now.atoms.items) xs) (sym c.as_slice.ensures.value)
    (clause_writable c.requires.protocol c.requires.bounds c.args.self.now c.args.clause.now c.index-shape.result.now c.requires.is c.index-shape.ensures)

pub for_all-requires-clause-few : goal.for_all-requires-clause-few
for_all-requires-clause-few c =
    let w = clause_writable c.requires.protocol c.requires.bounds c.args.self.now c.args.clause.now c.index-shape.result.now c.requires.is c.index-shape.ensures in
    let a = ap (λ (xs : List ℕ). length xs) (c.deref-4.ensures.value ∙ c.in_ok-sorts.ensures) in
    let b = types_length 0 c.deref-3.result.now in
    let d = ap sum c.deref-3.ensures.value in
    let few = w.few_variables in
    omega (arith, a, b, d, few)

built : (c : goal.After-drop-sorts) (P : Protocol) (B : Bounds) (f : Tree) → IsClauseOf P B c.args.self.now c.args.clause.now → formula_of f ≡ for_all c.deref-4.result.now 0 (formula_of (Any c.add_literals.new.parts)) → formula_of f ≡ formula_of_clause P (clause_of c.args.self.now c.args.clause.now)
built c P B f h e =
    formula_built P B c.args.self.now c.args.clause.now c.index-shape.result.now c.deref.result.now c.deref-2.result.now c.deref-3.result.now c.as_slice.result.now c.deref-4.result.now c.in_ok-parts.parts.items c.add_literals.new.parts (formula_of f) h c.index-shape.ensures c.deref.ensures.value c.deref-2.ensures.value c.deref-3.ensures.value c.as_slice.ensures.value
    (c.deref-4.ensures.value ∙ c.in_ok-sorts.ensures) c.in_ok-parts.ensures c.in_ok-add_literals.ensures e

pub returns-clause-tree : goal.returns-clause-tree
returns-clause-tree c = IfOk-weaker c.for_all.result _ _ (λ f e P B h. built c P B f h e) c.for_all.ensures

pub returns-clause-value : goal.returns-clause-value
returns-clause-value c =
    IfOk-weaker c.for_all.result _ _
    (λ f e P B s h. subst (λ g. Satisfies s g ↔ Meets P s (clause_of c.args.self.now c.args.clause.now)) (sym (built c P B f h e)) (formula_says P B (clause_of c.args.self.now c.args.clause.now) s h.template))
    c.for_all.ensures
