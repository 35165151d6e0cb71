-- The fault that is told is the first of all.
use Rattle.std.proofs.Common.{◌≡◌, ℕ, ◌<◌, ◌≤◌, Bool, true, false, ◌||◌, ◌&&◌, List, [], ◌∷◌, Option, None, Some, sym, ◌∙◌, refl, subst, nat_eq, nat_lt, arith, inl, inr, ⊎_elim, if◌then◌else◌}
use Rattle.std.specs.Prelude.{◌⊎◌, MatchOption}
use Rattle.std.specs.List.{Contains}
use Rattle.std.proofs.lemmas.Bool.Decides.{nat_tests}
use Rattle.dai_rules.specs.declared.first.Fault.{Fault}
use Rattle.dai_rules.specs.First.{comes_before, noting_all}
use Rattle.dai_rules.specs.Faults.{ComesFirst}
use Rattle.dai_rules.proofs.Members.{not_in_nil, in_head, in_tail, in_cases}

abbrev pub Precedes : Fault → Fault → Type 0
Precedes f g = ComesFirst f.number f.at g.number g.at

lt_by : (a b : ℕ) → nat_lt a b ≡ true → a < b
lt_by a b h = grind (arith, nat_tests, h)

ge_by : (a b : ℕ) → nat_lt a b ≡ false → b ≤ a
ge_by a b h = grind (arith, nat_tests, h)

eq_by : (a b : ℕ) → nat_eq a b ≡ true → a ≡ b
eq_by a b h = grind (arith, nat_tests, h)

lt_from : (a b : ℕ) → nat_lt a b ≡ false → nat_eq a b ≡ false → b < a
lt_from a b h k = grind (arith, nat_tests, h, k)

pub itself : (f : Fault) → Precedes f f
itself f = inr (refl, omega arith)

before_if : (f g : Fault) (x y : Bool) → nat_lt f.at g.at ≡ x → nat_eq f.at g.at ≡ y → (x || (y && nat_lt f.number g.number)) ≡ true → Precedes f g
before_if f g true y ex ey h = inl (lt_by f.at g.at ex)
before_if f g false true ex ey h = inr (eq_by f.at g.at ey, let k = lt_by f.number g.number h in omega (arith, k))
before_if f g false false ex ey h = absurd (let k : ⊥ = cc in k)

precedes_if : (f g : Fault) → comes_before f g ≡ true → Precedes f g
precedes_if f g h = before_if f g (nat_lt f.at g.at) (nat_eq f.at g.at) refl refl h

after_if : (f g : Fault) (x y : Bool) → nat_lt f.at g.at ≡ x → nat_eq f.at g.at ≡ y → (x || (y && nat_lt f.number g.number)) ≡ false → Precedes g f
after_if f g true y ex ey h = absurd (let k : ⊥ = cc in k)
after_if f g false true ex ey h = inr (sym (eq_by f.at g.at ey), ge_by f.number g.number h)
after_if f g false false ex ey h = inl (lt_from f.at g.at ex ey)

follows_if : (f g : Fault) → comes_before f g ≡ false → Precedes g f
follows_if f g h = after_if f g (nat_lt f.at g.at) (nat_eq f.at g.at) refl refl h

pub precedes_both : (f g h : Fault) → Precedes f g → Precedes g h → Precedes f h
precedes_both f g h p q =
    ⊎_elim
    (λ a. ⊎_elim (λ b. inl (omega (arith, a, b))) (λ b. let e = b.0 in inl (omega (arith, a, e))) q)
    (λ a. let d = a.0 in ⊎_elim (λ b. inl (omega (arith, d, b))) (λ b. let x = a.1 in let y = b.1 in inr (d ∙ b.0, omega (arith, x, y))) q)
    p

-- the least of the faults, and where it is from
pub record IsLeast (f : Fault) (fs : List Fault) (g : Fault) : Type 0 where
  pub among : (f ≡ g) ⊎ Contains fs g
  pub before : Precedes g f
  pub least : (h : Fault) → Contains fs h → Precedes g h

least_by : (x f : Fault) (xs : List Fault) (b : Bool) → comes_before x f ≡ b → ((y : Fault) → (g : Fault) × (noting_all (Some y) xs ≡ Some g) × IsLeast y xs g) → (g : Fault) × (noting_all (if b then Some x else Some f) xs ≡ Some g) × IsLeast f (x ∷ xs) g
least_by x f xs true e further =
    let w = further x in
    let g = w.0 in
    let l = w.2 in (
      g,
      w.1,
      record {
        among = inr (⊎_elim (λ s. subst (Contains (x ∷ xs)) s (in_head x xs)) (λ k. in_tail x xs g k) l.among);
        before = precedes_both g x f l.before (precedes_if x f e);
        least = λ h k. ⊎_elim (λ s. subst (Precedes g) s l.before) (λ m. l.least h m) (in_cases x xs h k);
      },
    )
least_by x f xs false e further =
    let w = further f in
    let g = w.0 in
    let l = w.2 in (
      g,
      w.1,
      record {
        among = ⊎_elim (λ s. inl s) (λ k. inr (in_tail x xs g k)) l.among;
        before = l.before;
        least = λ h k. ⊎_elim (λ s. subst (Precedes g) s (precedes_both g f x l.before (follows_if x f e))) (λ m. l.least h m) (in_cases x xs h k);
      },
    )

pub least_of : (f : Fault) (fs : List Fault) → (g : Fault) × (noting_all (Some f) fs ≡ Some g) × IsLeast f fs g
least_of f [] = (f, refl, record { among = inl refl; before = itself f; least = λ h k. absurd (not_in_nil h k) })
least_of f (x ∷ xs) = least_by x f xs (comes_before x f) refl (λ y. least_of y xs)

abbrev pub IsFirstOf : List Fault → Fault → Type 0
IsFirstOf fs f = Contains fs f × ((g : Fault) → Contains fs g → Precedes f g)

abbrev pub AreNone : List Fault → Type 0
AreNone fs = fs ≡ []

pub first_of : (fs : List Fault) (o : Option Fault) → o ≡ noting_all None fs → MatchOption o (AreNone fs) (IsFirstOf fs)
first_of [] o e = let none : AreNone [] = refl in subst (λ p. MatchOption p (AreNone []) (IsFirstOf [])) (sym e) none
first_of (x ∷ xs) o e =
    let w = least_of x xs in
    let g = w.0 in
    let l = w.2 in
    subst (λ p. MatchOption p (AreNone (x ∷ xs)) (IsFirstOf (x ∷ xs))) (sym (e ∙ w.1)) (
      ⊎_elim (λ s. subst (Contains (x ∷ xs)) s (in_head x xs)) (λ k. in_tail x xs g k) l.among,
      λ h k. ⊎_elim (λ s. subst (Precedes g) s l.before) (λ m. l.least h m) (in_cases x xs h k),
    )
