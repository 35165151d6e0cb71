use Rattle.std.proofs.Common.{◌≡◌, ◌≤◌, ◌<◌, ◌+◌, ◌^◌, ℕ, List, get_or, length, map, sym, ◌∙◌, ap, arith}
use Rattle.std.specs.Prelude.{[], ◌∷◌, ◌++◌}
use Rattle.std.proofs.lemmas.List.{length-map, map_push}
use Rattle.std.proofs.Math.Nat.{pow-le-pow_right}
use Rattle.dai_model.specs.Clause.{numbers_below}
use Rattle.dai_model.specs.Shapes.{clause_count}
use Rattle.dai_model.proofs.Folds.{numbers_below-length, numbers_more}
use Rattle.dai_template.proofs.Counts.{clause_count-step, clause_count-no_atoms, clause_count-le, counts_at}
use Rattle.dai_template.proofs.counting.clause_counts.Goals as goal

-- the count with one literal less over so many atoms, where it stands
fewer_at : (literals i : ℕ) (items : List ℕ) → items ≡ map (clause_count literals) (numbers_below 65) → i < length items → (i < 65) × (get_or items i 0 ≡ clause_count literals i)
fewer_at literals i items e below =
    let long = ap length e ∙ (length-map (numbers_below 65) (clause_count literals) ∙ numbers_below-length 65) in
    let inside : i < 65 = omega (arith, long, below) in
    (inside, ap (λ (xs : List ℕ). get_or xs i 0) e ∙ counts_at literals 65 i 0 inside)

small : (literals i : ℕ) → i < 65 → clause_count literals i ≤ 3 ^ 64
small literals i h =
    let k = clause_count-le literals i in
    let up : 3 ^ i ≤ 3 ^ 64 = pow-le-pow_right {n = 3} (omega arith) {i = i} {j = 64} (omega arith) in
    omega (arith, k, up)

pub loop-fewer-init : goal.loop-fewer-init
loop-fewer-init c = record {
  clauses = sym (clause_count-no_atoms (c.loop-literals._literals + 1));
  more = c.in_ok-more.ensures.items;
}

pub overflow_mul-clauses : goal.overflow_mul-clauses
overflow_mul-clauses c =
    let at = fewer_at c.loop-literals._literals c.loop-fewer.fewer-index c.deref-fewer-items.result.now (c.deref-fewer-items.ensures.value ∙ c.loop-literals.invariant) c.loop-fewer-test.true in
    let is = at.1 in
    let k = small c.loop-literals._literals c.loop-fewer.fewer-index at.0 in
    omega (arith, is, k)

pub overflow_add-clauses : goal.overflow_add-clauses
overflow_add-clauses c =
    let at = fewer_at c.loop-literals._literals c.loop-fewer.fewer-index c.deref-fewer-items.result.now (c.deref-fewer-items.ensures.value ∙ c.loop-literals.invariant) c.loop-fewer-test.true in
    let is = at.1 in
    let k = small c.loop-literals._literals c.loop-fewer.fewer-index at.0 in
    let now = c.loop-fewer.invariant.clauses in
    let l = small (c.loop-literals._literals + 1) c.loop-fewer.fewer-index at.0 in
    omega (arith, is, k, now, l)

pub loop-fewer-preserved : goal.loop-fewer-preserved
loop-fewer-preserved c =
    let at = fewer_at c.loop-literals._literals c.loop-fewer.fewer-index c.deref-fewer-items.result.now (c.deref-fewer-items.ensures.value ∙ c.loop-literals.invariant) c.loop-fewer-test.true in
    let is = at.1 in
    let step = clause_count-step c.loop-literals._literals c.loop-fewer.fewer-index in
    let now = c.loop-fewer.invariant.clauses in
    let f = clause_count (c.loop-literals._literals + 1) in
    record {
      clauses = omega (arith, is, step, now);
      more =
          c.in_ok-push.ensures.items
          ∙ (ap (λ (xs : List ℕ). xs ++ c.loop-fewer.clauses ∷ []) c.loop-fewer.invariant.more
          ∙ (ap (λ (n : ℕ). map f (numbers_below c.loop-fewer.fewer-index) ++ n ∷ []) now
          ∙ (sym (map_push f (numbers_below c.loop-fewer.fewer-index) c.loop-fewer.fewer-index)
          ∙ ap (map f) (sym (numbers_more c.loop-fewer.fewer-index)))));
    }

pub loop-literals-preserved : goal.loop-literals-preserved
loop-literals-preserved c =
    let long = ap length (c.deref-fewer-items.ensures.value ∙ c.loop-literals.invariant) ∙ (length-map (numbers_below 65) (clause_count c.loop-literals._literals) ∙ numbers_below-length 65) in
    let all : c.loop-fewer.fewer-index ≡ 65 = let past = c.loop-fewer-test.false in let most = c.loop-fewer.auto in omega (arith, long, past, most) in
    c.loop-fewer.invariant.more ∙ ap (λ (n : ℕ). map (clause_count (c.loop-literals._literals + 1)) (numbers_below n)) all

pub returns : goal.returns
returns c =
    let all : c.loop-literals._literals ≡ c.args.lits = let past = c.loop-literals-test.false in let most = c.loop-literals.auto in omega (arith, past, most) in
    c.loop-literals.invariant ∙ ap (λ (n : ℕ). map (clause_count n) (numbers_below 65)) all
