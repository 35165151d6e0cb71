use Rattle.std.proofs.Common.{◌≡◌, ◌<◌, ◌+◌, ◌-◌, ◌∷◌, ◌∙◌, ap, sym, take, get_or, arith, subst}
use Rattle.std.specs.Prelude.{reverse}
use Rattle.std.specs.List.{All}
use Rattle.std.proofs.lemmas.List.Elements.{All-head, All-tail}
use Rattle.dai_logic.specs.Trees.{formula_of}
use Rattle.dai_sorts.specs.Formulas.{over, over_one}
use Rattle.dai_sorts.proofs.Walking.{last_over}
use Rattle.dai_sorts.proofs.formulas.quantified.Goals as goal

pub overflow_cast-variable : goal.overflow_cast-variable
overflow_cast-variable c =
    let vs = c.args.variables.now in
    let k = c.loop-place.place - 1 in
    let place : k + 1 ≡ c.loop-place.place = omega arith in
    let last : reverse (take c.loop-place.place vs) ≡ get_or vs k 0 ∷ reverse (take k vs) = ap (λ n. reverse (take n vs)) (sym place) ∙ last_over vs k (omega arith) in
    record { fits = All-head (λ v. v < 256) (get_or vs k 0) (reverse (take k vs)) (subst (All (λ v. v < 256)) last c.loop-place.invariant.few) }

pub loop-place-preserved : goal.loop-place-preserved
loop-place-preserved c =
    let vs = c.args.variables.now in
    let k = c.loop-place.place - 1 in
    let place : k + 1 ≡ c.loop-place.place = omega arith in
    let last : reverse (take c.loop-place.place vs) ≡ get_or vs k 0 ∷ reverse (take k vs) = ap (λ n. reverse (take n vs)) (sym place) ∙ last_over vs k (omega arith) in
    let types = c.args.types.now in
    let around = over c.args.universal types in
    record {
      within = omega arith;
      few = All-tail (λ v. v < 256) (get_or vs k 0) (reverse (take k vs)) (subst (All (λ v. v < 256)) last c.loop-place.invariant.few);
      rest =
          ap (around (reverse (take k vs))) (c.in_ok-whole.ensures ∙ ap (λ t. over_one c.args.universal (get_or vs k 0) t (formula_of c.loop-place.whole)) c.type_at.ensures)
          ∙ ap (λ l. around l (formula_of c.loop-place.whole)) (sym last) ∙ c.loop-place.invariant.rest;
    }
