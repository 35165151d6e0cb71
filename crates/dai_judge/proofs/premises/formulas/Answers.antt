use Rattle.std.proofs.Common.{◌≡◌, ◌<◌, ◌+◌, ◌++◌, ℕ, List, [], ◌∷◌, length, get_or, map, take, ap, sym, ◌∙◌}
use Rattle.std.proofs.lemmas.List.{take_more, map-append}
use Rattle.dai_logic.specs.Trees.{formula_of}
use Rattle.dai_template.specs.declared.clause.Clause.{Clause}
use Rattle.dai_template.specs.ClauseFormulas.{formula_of_clause}
use Rattle.dai_template.specs.Spaces.{clause_of}
use Rattle.dai_template.proofs.Written.{mapped_all}
use Rattle.dai_judge.proofs.premises.formulas.Goals as goal

-- one more
mapped_more : {X Y Z : Type 0} (f : Y → Z) (g : X → Z) (xs : List X) (ys zs : List Y) (i : ℕ) (x : X) (y : Y) → i < length xs → x ≡ get_or xs i x → zs ≡ ys ++ y ∷ [] → map f ys ≡ map g (take i xs) → f y ≡ g x → map f zs ≡ map g (take (i + 1) xs)
mapped_more f g xs ys zs i x y below is pushed old here =
    let more = take_more xs i x below in
    let last : map g (take (i + 1) xs) ≡ map g (take i xs) ++ g x ∷ [] = ap (map g) more ∙ (map-append g (take i xs) (get_or xs i x ∷ []) ∙ ap (λ w. map g (take i xs) ++ g w ∷ []) (sym is)) in
    let first : map f zs ≡ map f ys ++ f y ∷ [] = ap (map f) pushed ∙ map-append f ys (y ∷ []) in
    first ∙ (ap (λ ws. ws ++ f y ∷ []) old ∙ (ap (λ w. map g (take i xs) ++ w ∷ []) here ∙ sym last))

pub formula-requires : goal.formula-requires
formula-requires c = record {
  protocol = c.requires.0;
  bounds = c.requires.1.bounds;
  is = c.requires.1.each c.clause-item.result (c.loop-clause.clause-index, c.loop-clause-test.true, sym c.clause-item.is);
}

pub loop-clause-preserved : goal.loop-clause-preserved
loop-clause-preserved c = λ P are.
    let item = c.clause-item.result in
    mapped_more formula_of (λ (d : Clause). formula_of_clause P (clause_of c.args.space.now d)) c.args.clauses.now c.loop-clause.formulas.items c.push.new.self.items c.loop-clause.clause-index item c.in_ok-formula.field-0 c.loop-clause-test.true c.clause-item.is c.in_ok-push.ensures.items (c.loop-clause.invariant P are)
    (c.in_ok-formula.ensures.tree P are.bounds (are.each item (c.loop-clause.clause-index, c.loop-clause-test.true, sym c.clause-item.is)))

pub returns : goal.returns
returns c = λ P are.
    c.loop-clause.invariant P are ∙ mapped_all (formula_of_clause P) (clause_of c.args.space.now) c.args.clauses.now c.loop-clause.clause-index c.loop-clause-test.false
