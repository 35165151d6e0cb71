-- How relativised values depend on the ranges of the quantifiers.
use Rattle.std.proofs.Common.{◌≡◌, ◌<◌, ℕ, zero, suc, ◌&&◌, ◌||◌, Bool, true, false, not, sym, ◌∙◌, ap, refl, arith}
use Rattle.dai_model.specs.Formula.{Formula, truth, relates, same, less, less_or_same, negation, conjunction, disjunction, implication, equivalence, universal, existential, Formulas, no_formulas, with_formula}
use Rattle.dai_model.specs.Structure.{Structure, size_of}
use Rattle.dai_model.specs.Value.{Environment, bind, every, some, implies, value_of, all_hold, some_holds, all_agree}
use Rattle.dai_model.specs.Profile.{has_quantifier, some_have_quantifier, is_universal, are_universal, is_exists_forall, are_exists_forall}
use Rattle.dai_model.proofs.Frame.{or_false_left, or_false_right, every_same, some_same}
use Rattle.dai_model.proofs.Typed.{and_left, and_right}
use Rattle.dai_cut.specs.Among.{Ranges, range_of_every, range_of_some, value_among, all_hold_among, some_holds_among, all_agree_among}

pub from_not : (b : Bool) → not b ≡ true → b ≡ false
from_not true h = sym h
from_not false h = refl

-- without quantifiers the ranges don't matter
mutual
  pub free_same : (s : Structure) (R : Ranges) (even : Bool) (env : Environment) (f : Formula) → has_quantifier f ≡ false → value_among s R even env f ≡ value_of s env f
  free_same s R even env (truth b) h = refl
  free_same s R even env (relates r ts) h = refl
  free_same s R even env (same a b) h = refl
  free_same s R even env (less a b) h = refl
  free_same s R even env (less_or_same a b) h = refl
  free_same s R even env (negation f) h = ap not (free_same s R (not even) env f h)
  free_same s R even env (conjunction fs) h = (free_same_each s R even env fs h).0
  free_same s R even env (disjunction fs) h = (free_same_each s R even env fs h).1
  free_same s R even env (implication f g) h =
      let i = free_same s R (not even) env f (or_false_left (has_quantifier f) (has_quantifier g) h) in
      let k = free_same s R even env g (or_false_right (has_quantifier f) (has_quantifier g) h) in
      cc
  free_same s R even env (equivalence fs) h = (free_same_each s R even env fs h).2
  free_same s R even env (universal v sort f) h = absurd (let k : ⊥ = cc in k)
  free_same s R even env (existential v sort f) h = absurd (let k : ⊥ = cc in k)

  pub free_same_each : (s : Structure) (R : Ranges) (even : Bool) (env : Environment) (fs : Formulas) → some_have_quantifier fs ≡ false → (all_hold_among s R even env fs ≡ all_hold s env fs) × (some_holds_among s R even env fs ≡ some_holds s env fs) × (all_agree_among s R even env fs ≡ all_agree s env fs)
  free_same_each s R even env no_formulas h = (refl, refl, refl)
  free_same_each s R even env (with_formula f fs) h =
      let i = free_same s R even env f (or_false_left (has_quantifier f) (some_have_quantifier fs) h) in
      let k = free_same_each s R even env fs (or_false_right (has_quantifier f) (some_have_quantifier fs) h) in
      (cc, cc, cc)

-- a universal formula is also an exists-forall one, and the negation of one is too
mutual
  pub universal_in_profile : (even : Bool) (f : Formula) → is_universal even f ≡ true → is_exists_forall even f ≡ true
  universal_in_profile even (truth b) h = refl
  universal_in_profile even (relates r ts) h = refl
  universal_in_profile even (same a b) h = refl
  universal_in_profile even (less a b) h = refl
  universal_in_profile even (less_or_same a b) h = refl
  universal_in_profile even (negation f) h = universal_in_profile (not even) f h
  universal_in_profile even (conjunction fs) h = universal_in_profile_each even fs h
  universal_in_profile even (disjunction fs) h = universal_in_profile_each even fs h
  universal_in_profile even (implication f g) h =
      let i = universal_in_profile (not even) f (and_left (is_universal (not even) f) (is_universal even g) h) in
      let k = universal_in_profile even g (and_right (is_universal (not even) f) (is_universal even g) h) in
      cc
  universal_in_profile even (equivalence fs) h = h
  universal_in_profile true (universal v sort f) h = h
  universal_in_profile false (universal v sort f) h = absurd (let k : ⊥ = cc in k)
  universal_in_profile true (existential v sort f) h = absurd (let k : ⊥ = cc in k)
  universal_in_profile false (existential v sort f) h = h

  pub universal_in_profile_each : (even : Bool) (fs : Formulas) → are_universal even fs ≡ true → are_exists_forall even fs ≡ true
  universal_in_profile_each even no_formulas h = refl
  universal_in_profile_each even (with_formula f fs) h =
      let i = universal_in_profile even f (and_left (is_universal even f) (are_universal even fs) h) in
      let k = universal_in_profile_each even fs (and_right (is_universal even f) (are_universal even fs) h) in
      cc

mutual
  pub negated_in_profile : (even : Bool) (f : Formula) → is_universal (not even) f ≡ true → is_exists_forall even f ≡ true
  negated_in_profile even (truth b) h = refl
  negated_in_profile even (relates r ts) h = refl
  negated_in_profile even (same a b) h = refl
  negated_in_profile even (less a b) h = refl
  negated_in_profile even (less_or_same a b) h = refl
  negated_in_profile even (negation f) h = negated_in_profile (not even) f h
  negated_in_profile even (conjunction fs) h = negated_in_profile_each even fs h
  negated_in_profile even (disjunction fs) h = negated_in_profile_each even fs h
  negated_in_profile even (implication f g) h =
      let i = negated_in_profile (not even) f (and_left (is_universal (not (not even)) f) (is_universal (not even) g) h) in
      let k = negated_in_profile even g (and_right (is_universal (not (not even)) f) (is_universal (not even) g) h) in
      cc
  negated_in_profile even (equivalence fs) h = h
  negated_in_profile true (universal v sort f) h = absurd (let k : ⊥ = cc in k)
  negated_in_profile false (universal v sort f) h = negated_in_profile false f h
  negated_in_profile true (existential v sort f) h = negated_in_profile true f h
  negated_in_profile false (existential v sort f) h = absurd (let k : ⊥ = cc in k)

  pub negated_in_profile_each : (even : Bool) (fs : Formulas) → are_universal (not even) fs ≡ true → are_exists_forall even fs ≡ true
  negated_in_profile_each even no_formulas h = refl
  negated_in_profile_each even (with_formula f fs) h =
      let i = negated_in_profile even f (and_left (is_universal (not even) f) (are_universal (not even) fs) h) in
      let k = negated_in_profile_each even fs (and_right (is_universal (not even) f) (are_universal (not even) fs) h) in
      cc

-- the value of a universal formula where what is universal in force ranges over all elements
abbrev RangesOverAll : Ranges → Type 0
RangesOverAll R = (sort e : ℕ) → R.universal sort e ≡ true

implied_by_true : (p b : Bool) → p ≡ true → implies p b ≡ b
implied_by_true true b h = refl
implied_by_true false b h = absurd (let k : ⊥ = cc in k)

and_by_true : (p b : Bool) → p ≡ true → (p && b) ≡ b
and_by_true true b h = refl
and_by_true false b h = absurd (let k : ⊥ = cc in k)

mutual
  pub universal_same : (s : Structure) (R : Ranges) (even : Bool) (env : Environment) (f : Formula) → RangesOverAll R → is_universal even f ≡ true → value_among s R even env f ≡ value_of s env f
  universal_same s R even env (truth b) all h = refl
  universal_same s R even env (relates r ts) all h = refl
  universal_same s R even env (same a b) all h = refl
  universal_same s R even env (less a b) all h = refl
  universal_same s R even env (less_or_same a b) all h = refl
  universal_same s R even env (negation f) all h = ap not (universal_same s R (not even) env f all h)
  universal_same s R even env (conjunction fs) all h = (universal_same_each s R even env fs all h).0
  universal_same s R even env (disjunction fs) all h = (universal_same_each s R even env fs all h).1
  universal_same s R even env (implication f g) all h =
      let i = universal_same s R (not even) env f all (and_left (is_universal (not even) f) (is_universal even g) h) in
      let k = universal_same s R even env g all (and_right (is_universal (not even) f) (is_universal even g) h) in
      cc
  universal_same s R even env (equivalence fs) all h = (free_same_each s R even env fs (from_not (some_have_quantifier fs) h)).2
  universal_same s R true env (universal v sort f) all h =
      every_same (size_of s sort) (λ e. implies (R.universal sort e) (value_among s R true (bind env v e) f)) (λ e. value_of s (bind env v e) f)
      (λ e. implied_by_true (R.universal sort e) (value_among s R true (bind env v e) f) (all sort e) ∙ universal_same s R true (bind env v e) f all h)
  universal_same s R false env (universal v sort f) all h = absurd (let k : ⊥ = cc in k)
  universal_same s R true env (existential v sort f) all h = absurd (let k : ⊥ = cc in k)
  universal_same s R false env (existential v sort f) all h =
      some_same (size_of s sort) (λ e. R.universal sort e && value_among s R false (bind env v e) f) (λ e. value_of s (bind env v e) f)
      (λ e. and_by_true (R.universal sort e) (value_among s R false (bind env v e) f) (all sort e) ∙ universal_same s R false (bind env v e) f all h)

  pub universal_same_each : (s : Structure) (R : Ranges) (even : Bool) (env : Environment) (fs : Formulas) → RangesOverAll R → are_universal even fs ≡ true → (all_hold_among s R even env fs ≡ all_hold s env fs) × (some_holds_among s R even env fs ≡ some_holds s env fs)
  universal_same_each s R even env no_formulas all h = (refl, refl)
  universal_same_each s R even env (with_formula f fs) all h =
      let i = universal_same s R even env f all (and_left (is_universal even f) (are_universal even fs) h) in
      let k = universal_same_each s R even env fs all (and_right (is_universal even f) (are_universal even fs) h) in
      (cc, cc)

-- ranges that make more true: a wider one for what is existential in force, a narrower one for what is universal
pub record Favours (s : Structure) (R T : Ranges) : Type 0 where
  pub wider : (sort e : ℕ) → e < size_of s sort → R.existential sort e ≡ true → T.existential sort e ≡ true
  pub narrower : (sort e : ℕ) → e < size_of s sort → T.universal sort e ≡ true → R.universal sort e ≡ true

-- from the first value to the second, or back under an odd number of negations
abbrev pub Grows : Bool → Bool → Bool → Type 0
Grows true a b = a ≡ true → b ≡ true
Grows false a b = b ≡ true → a ≡ true

grows_same : (even a b : Bool) → a ≡ b → Grows even a b
grows_same true a b h = λ k. sym h ∙ k
grows_same false a b h = λ k. h ∙ k

turned : (a b : Bool) → (a ≡ true → b ≡ true) → not b ≡ true → not a ≡ true
turned true b h k = let e = h refl in absurd (let n : ⊥ = cc in n)
turned false b h k = refl

grows_not : (even a b : Bool) → Grows (not even) a b → Grows even (not a) (not b)
grows_not true a b h = turned b a h
grows_not false a b h = turned a b h

and_more : (a b c d : Bool) → (a ≡ true → b ≡ true) → (c ≡ true → d ≡ true) → (a && c) ≡ true → (b && d) ≡ true
and_more true b c d h k e = let first = h refl in let second = k e in cc
and_more false b c d h k e = absurd (let n : ⊥ = cc in n)

or_more : (a b c d : Bool) → (a ≡ true → b ≡ true) → (c ≡ true → d ≡ true) → (a || c) ≡ true → (b || d) ≡ true
or_more true b c d h k e = let first = h refl in cc
or_more false true c d h k e = refl
or_more false false c d h k e = k e

implies_more : (a b c d : Bool) → (b ≡ true → a ≡ true) → (c ≡ true → d ≡ true) → implies a c ≡ true → implies b d ≡ true
implies_more a false c d h k e = refl
implies_more true true c d h k e = k e
implies_more false true c d h k e = let n = h refl in absurd (let m : ⊥ = cc in m)

grows_and : (even a b c d : Bool) → Grows even a b → Grows even c d → Grows even (a && c) (b && d)
grows_and true a b c d h k = and_more a b c d h k
grows_and false a b c d h k = and_more b a d c h k

grows_or : (even a b c d : Bool) → Grows even a b → Grows even c d → Grows even (a || c) (b || d)
grows_or true a b c d h k = or_more a b c d h k
grows_or false a b c d h k = or_more b a d c h k

grows_implies : (even a b c d : Bool) → Grows (not even) a b → Grows even c d → Grows even (implies a c) (implies b d)
grows_implies true a b c d h k = implies_more a b c d h k
grows_implies false a b c d h k = implies_more b a d c h k

every_grows : (even : Bool) (n : ℕ) (p q : ℕ → Bool) → ((e : ℕ) → e < n → Grows even (p e) (q e)) → Grows even (every n p) (every n q)
every_grows even zero p q h = grows_same even true true refl
every_grows even (suc n) p q h = grows_and even (every n p) (every n q) (p n) (q n) (every_grows even n p q (λ e below. h e (omega arith))) (h n (omega arith))

some_grows : (even : Bool) (n : ℕ) (p q : ℕ → Bool) → ((e : ℕ) → e < n → Grows even (p e) (q e)) → Grows even (some n p) (some n q)
some_grows even zero p q h = grows_same even false false refl
some_grows even (suc n) p q h = grows_or even (some n p) (some n q) (p n) (q n) (some_grows even n p q (λ e below. h e (omega arith))) (h n (omega arith))

every_range : (s : Structure) (R T : Ranges) (even : Bool) (sort e : ℕ) → Favours s R T → e < size_of s sort → Grows (not even) (range_of_every R even sort e) (range_of_every T even sort e)
every_range s R T true sort e more below = more.narrower sort e below
every_range s R T false sort e more below = more.wider sort e below

some_range : (s : Structure) (R T : Ranges) (even : Bool) (sort e : ℕ) → Favours s R T → e < size_of s sort → Grows even (range_of_some R even sort e) (range_of_some T even sort e)
some_range s R T true sort e more below = more.wider sort e below
some_range s R T false sort e more below = more.narrower sort e below

body_of_universal : (even : Bool) (v sort : ℕ) (f : Formula) → is_exists_forall even (universal v sort f) ≡ true → is_exists_forall even f ≡ true
body_of_universal true v sort f h = universal_in_profile true f h
body_of_universal false v sort f h = h

body_of_existential : (even : Bool) (v sort : ℕ) (f : Formula) → is_exists_forall even (existential v sort f) ≡ true → is_exists_forall even f ≡ true
body_of_existential true v sort f h = h
body_of_existential false v sort f h = universal_in_profile false f h

mutual
  pub value_grows : (s : Structure) (R T : Ranges) (even : Bool) (env : Environment) (f : Formula) → Favours s R T → is_exists_forall even f ≡ true → Grows even (value_among s R even env f) (value_among s T even env f)
  value_grows s R T even env (truth b) more h = grows_same even _ _ refl
  value_grows s R T even env (relates r ts) more h = grows_same even _ _ refl
  value_grows s R T even env (same a b) more h = grows_same even _ _ refl
  value_grows s R T even env (less a b) more h = grows_same even _ _ refl
  value_grows s R T even env (less_or_same a b) more h = grows_same even _ _ refl
  value_grows s R T even env (negation f) more h = grows_not even _ _ (value_grows s R T (not even) env f more h)
  value_grows s R T even env (conjunction fs) more h = (values_grow s R T even env fs more h).0
  value_grows s R T even env (disjunction fs) more h = (values_grow s R T even env fs more h).1
  value_grows s R T even env (implication f g) more h =
      grows_implies even _ _ _ _
      (value_grows s R T (not even) env f more (and_left (is_exists_forall (not even) f) (is_exists_forall even g) h))
      (value_grows s R T even env g more (and_right (is_exists_forall (not even) f) (is_exists_forall even g) h))
  value_grows s R T even env (equivalence fs) more h =
      let free = from_not (some_have_quantifier fs) h in
      grows_same even _ _ ((free_same_each s R even env fs free).2 ∙ sym (free_same_each s T even env fs free).2)
  value_grows s R T even env (universal v sort f) more h =
      every_grows even (size_of s sort) _ _
      (λ e below. grows_implies even _ _ _ _ (every_range s R T even sort e more below) (value_grows s R T even (bind env v e) f more (body_of_universal even v sort f h)))
  value_grows s R T even env (existential v sort f) more h =
      some_grows even (size_of s sort) _ _
      (λ e below. grows_and even _ _ _ _ (some_range s R T even sort e more below) (value_grows s R T even (bind env v e) f more (body_of_existential even v sort f h)))

  pub values_grow : (s : Structure) (R T : Ranges) (even : Bool) (env : Environment) (fs : Formulas) → Favours s R T → are_exists_forall even fs ≡ true → Grows even (all_hold_among s R even env fs) (all_hold_among s T even env fs) × Grows even (some_holds_among s R even env fs) (some_holds_among s T even env fs)
  values_grow s R T even env no_formulas more h = (grows_same even true true refl, grows_same even false false refl)
  values_grow s R T even env (with_formula f fs) more h =
      let i = value_grows s R T even env f more (and_left (is_exists_forall even f) (are_exists_forall even fs) h) in
      let k = values_grow s R T even env fs more (and_right (is_exists_forall even f) (are_exists_forall even fs) h) in
      (grows_and even _ _ _ _ i k.0, grows_or even _ _ _ _ i k.1)
