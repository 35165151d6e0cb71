-- In a universal formula each bound variable is universal in force.
use Rattle.std.proofs.Common.{◌≡◌, ℕ, ◌||◌, Bool, true, false, not, List, [], ◌∷◌, ◌++◌, length, sym, ◌∙◌, ap, refl, arith, length-append}
use Rattle.dai_model.specs.Formula.{Formula, truth, relates, same, less, less_or_same, negation, conjunction, disjunction, implication, equivalence, universal, existential, Formulas, no_formulas, with_formula}
use Rattle.dai_model.specs.Profile.{has_quantifier, some_have_quantifier, is_universal, are_universal, witnesses, witnesses_of_each, bound_variables, bound_variables_of_each}
use Rattle.dai_model.specs.Sizes.{bound_sorts, bound_sorts_of_each}
use Rattle.dai_model.proofs.Typed.{and_left, and_right}

or_none_left : (a b : Bool) → (a || b) ≡ false → a ≡ false
or_none_left true b h = h
or_none_left false b h = refl

or_none_right : (a b : Bool) → (a || b) ≡ false → b ≡ false
or_none_right true b h = absurd (let k : ⊥ = cc in k)
or_none_right false b h = h

none_from_not : (b : Bool) → not b ≡ true → b ≡ false
none_from_not true h = absurd (let k : ⊥ = cc in k)
none_from_not false h = refl

append-nil-nil : (xs ys : List ℕ) → xs ≡ [] → ys ≡ [] → xs ++ ys ≡ []
append-nil-nil xs ys h k = ap (λ zs. zs ++ ys) h ∙ k

mutual
  none_witnessed : (even : Bool) (f : Formula) → has_quantifier f ≡ false → witnesses even f ≡ []
  none_witnessed even (truth b) h = refl
  none_witnessed even (relates r ts) h = refl
  none_witnessed even (same a b) h = refl
  none_witnessed even (less a b) h = refl
  none_witnessed even (less_or_same a b) h = refl
  none_witnessed even (negation f) h = none_witnessed (not even) f h
  none_witnessed even (conjunction fs) h = none_witnessed_each even fs h
  none_witnessed even (disjunction fs) h = none_witnessed_each even fs h
  none_witnessed even (implication f g) h = append-nil-nil _ _ (none_witnessed (not even) f (or_none_left _ _ h)) (none_witnessed even g (or_none_right (has_quantifier f) _ h))
  none_witnessed even (equivalence fs) h = none_witnessed_each even fs h
  none_witnessed even (universal v sort f) h = absurd (let k : ⊥ = cc in k)
  none_witnessed even (existential v sort f) h = absurd (let k : ⊥ = cc in k)

  none_witnessed_each : (even : Bool) (fs : Formulas) → some_have_quantifier fs ≡ false → witnesses_of_each even fs ≡ []
  none_witnessed_each even no_formulas h = refl
  none_witnessed_each even (with_formula f fs) h = append-nil-nil _ _ (none_witnessed even f (or_none_left _ _ h)) (none_witnessed_each even fs (or_none_right (has_quantifier f) _ h))

mutual
  none_bound : (f : Formula) → has_quantifier f ≡ false → bound_sorts f ≡ []
  none_bound (truth b) h = refl
  none_bound (relates r ts) h = refl
  none_bound (same a b) h = refl
  none_bound (less a b) h = refl
  none_bound (less_or_same a b) h = refl
  none_bound (negation f) h = none_bound f h
  none_bound (conjunction fs) h = none_bound_each fs h
  none_bound (disjunction fs) h = none_bound_each fs h
  none_bound (implication f g) h = append-nil-nil _ _ (none_bound f (or_none_left _ _ h)) (none_bound g (or_none_right (has_quantifier f) _ h))
  none_bound (equivalence fs) h = none_bound_each fs h
  none_bound (universal v sort f) h = absurd (let k : ⊥ = cc in k)
  none_bound (existential v sort f) h = absurd (let k : ⊥ = cc in k)

  none_bound_each : (fs : Formulas) → some_have_quantifier fs ≡ false → bound_sorts_of_each fs ≡ []
  none_bound_each no_formulas h = refl
  none_bound_each (with_formula f fs) h = append-nil-nil _ _ (none_bound f (or_none_left _ _ h)) (none_bound_each fs (or_none_right (has_quantifier f) _ h))

append-both : (a b c d : List ℕ) → a ≡ b → c ≡ d → a ++ c ≡ b ++ d
append-both a b c d h k = ap (λ xs. xs ++ c) h ∙ ap (λ xs. b ++ xs) k

mutual
  pub all_universal : (even : Bool) (f : Formula) → is_universal even f ≡ true → witnesses (not even) f ≡ bound_sorts f
  all_universal even (truth b) h = refl
  all_universal even (relates r ts) h = refl
  all_universal even (same a b) h = refl
  all_universal even (less a b) h = refl
  all_universal even (less_or_same a b) h = refl
  all_universal even (negation f) h = all_universal (not even) f h
  all_universal even (conjunction fs) h = each_universal even fs h
  all_universal even (disjunction fs) h = each_universal even fs h
  all_universal even (implication f g) h = append-both _ _ _ _ (all_universal (not even) f (and_left _ _ h)) (all_universal even g (and_right (is_universal (not even) f) _ h))
  all_universal even (equivalence fs) h = none_witnessed_each (not even) fs (none_from_not _ h) ∙ sym (none_bound_each fs (none_from_not _ h))
  all_universal true (universal v sort f) h = ap (λ xs. sort ∷ xs) (all_universal true f h)
  all_universal false (universal v sort f) h = absurd (let k : ⊥ = cc in k)
  all_universal true (existential v sort f) h = absurd (let k : ⊥ = cc in k)
  all_universal false (existential v sort f) h = ap (λ xs. sort ∷ xs) (all_universal false f h)

  each_universal : (even : Bool) (fs : Formulas) → are_universal even fs ≡ true → witnesses_of_each (not even) fs ≡ bound_sorts_of_each fs
  each_universal even no_formulas h = refl
  each_universal even (with_formula f fs) h = append-both _ _ _ _ (all_universal even f (and_left _ _ h)) (each_universal even fs (and_right (is_universal even f) _ h))

as_long : (a c : List ℕ) (b d : List ℕ) → length a ≡ length b → length c ≡ length d → length (a ++ c) ≡ length (b ++ d)
as_long a c b d h k = let x = length-append a c in let y = length-append b d in omega (arith, x, y, h, k)

one_longer : (x y : ℕ) (xs ys : List ℕ) → length xs ≡ length ys → length (x ∷ xs) ≡ length (y ∷ ys)
one_longer x y xs ys h = omega (arith, h)

mutual
  pub bound_sorts-length : (f : Formula) → length (bound_sorts f) ≡ length (bound_variables f)
  bound_sorts-length (truth b) = refl
  bound_sorts-length (relates r ts) = refl
  bound_sorts-length (same a b) = refl
  bound_sorts-length (less a b) = refl
  bound_sorts-length (less_or_same a b) = refl
  bound_sorts-length (negation f) = bound_sorts-length f
  bound_sorts-length (conjunction fs) = bound_sorts_of_each-length fs
  bound_sorts-length (disjunction fs) = bound_sorts_of_each-length fs
  bound_sorts-length (implication f g) = as_long (bound_sorts f) (bound_sorts g) (bound_variables f) (bound_variables g) (bound_sorts-length f) (bound_sorts-length g)
  bound_sorts-length (equivalence fs) = bound_sorts_of_each-length fs
  bound_sorts-length (universal v sort f) = one_longer sort v (bound_sorts f) (bound_variables f) (bound_sorts-length f)
  bound_sorts-length (existential v sort f) = one_longer sort v (bound_sorts f) (bound_variables f) (bound_sorts-length f)

  bound_sorts_of_each-length : (fs : Formulas) → length (bound_sorts_of_each fs) ≡ length (bound_variables_of_each fs)
  bound_sorts_of_each-length no_formulas = refl
  bound_sorts_of_each-length (with_formula f fs) = as_long (bound_sorts f) (bound_sorts_of_each fs) (bound_variables f) (bound_variables_of_each fs) (bound_sorts-length f) (bound_sorts_of_each-length fs)
