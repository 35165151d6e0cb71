use Rattle.std.proofs.Common.{◌≡◌, ◌<◌, ◌+◌, ◌/◌, ◌%◌, ◌⊎◌, ℕ, Bool, List, [], ◌∷◌, ◌++◌, length, get_or, refl, ap, sym, ◌∙◌, subst, arith, inl, inr}
use Rattle.std.proofs.lemmas.Bool.{cases_eq, cases_lt}
use Rattle.std.proofs.lemmas.List.{get_or_append_left, get_or_push, length_push}
use Rattle.dai_trail.specs.declared.trail.Trail.{Trail}
use Rattle.dai_trail.specs.declared.marks.Marks.{Marks}
use Rattle.dai_trail.specs.Formula.{Formula, AreMetBy, value_at}
use Rattle.dai_trail.specs.Codes.{digit, Agrees}
use Rattle.dai_trail.specs.Trail.{value_in, code_at, IsTrueIn, IsFalseIn, IsTrail}
use Rattle.dai_trail.specs.Marks.{IsMarked, AreListed, MarksRefute, IsImplied, AgreesWithAll}
use Rattle.dai_trail.proofs.Forces.{agrees_at}
use Rattle.dai_trail.proofs.Encodings.{digit_lt}

-- a clause of the negation of `last` and the first n marked literals that are kept
pub record Gathered (m : Marks) (learned : List ℕ) (last n : ℕ) : Type 0 where
  pub some : 0 < length learned
  pub variable : get_or learned 0 0 / 2 ≡ last / 2
  pub sign : get_or learned 0 0 % 2 + last % 2 ≡ 1
  pub gathered : (k : ℕ) → k < n → IsMarked m (get_or m.marked.items k 0 / 2) → (get_or m.marked.items k 0 / 2 ≡ last / 2) ⊎ ((j : ℕ) × (j < length learned) × (get_or learned j 0 ≡ get_or m.marked.items k 0))

pub gather_push : (m : Marks) (learned : List ℕ) (last n x : ℕ) → x ≡ get_or m.marked.items n 0 → Gathered m learned last n → Gathered m (learned ++ x ∷ []) last (n + 1)
gather_push m learned last n x e g =
    let len = length_push learned x in
    let first : get_or (learned ++ x ∷ []) 0 0 ≡ get_or learned 0 0 = get_or_append_left learned (x ∷ []) 0 0 g.some in
    record {
      some = omega (arith, g.some);
      variable = ap (λ q. q / 2) first ∙ g.variable;
      sign = ap (λ q. q % 2 + last % 2) first ∙ g.sign;
      gathered = λ k kl marked.
          elim (cases_lt k n) [
            | inl low ↦ elim (g.gathered k low marked) [
              | inl s ↦ inl s
              | inr w ↦ inr (w.0, (let l = w.1 in omega arith), get_or_append_left learned (x ∷ []) 0 w.0 w.1 ∙ w.2)
            ]
            | inr high ↦
                let at : k ≡ n = omega arith in
                inr (length learned, omega arith, get_or_push learned x 0 (length learned) refl ∙ e ∙ ap (λ i. get_or m.marked.items i 0) (sym at))
          ];
    }

pub gather_skip : (m : Marks) (learned : List ℕ) (last n : ℕ) → (IsMarked m (get_or m.marked.items n 0 / 2) → get_or m.marked.items n 0 / 2 ≡ last / 2) → Gathered m learned last n → Gathered m learned last (n + 1)
gather_skip m learned last n skip g = record {
  some = g.some;
  variable = g.variable;
  sign = g.sign;
  gathered = λ k kl marked.
      elim (cases_lt k n) [
        | inl low ↦ g.gathered k low marked
        | inr high ↦
            let at : n ≡ k = omega arith in
            let P : ℕ → Type 0 = λ i. IsMarked m (get_or m.marked.items i 0 / 2) → get_or m.marked.items i 0 / 2 ≡ last / 2 in
            inl (subst P at skip marked)
      ];
}

-- where the false literal of a variable is false, the true one is true
agrees_from_denied : (t : Trail) (bits : List Bool) (q code : ℕ) → q / 2 ≡ code / 2 → IsFalseIn t q → IsTrueIn t code → (Agrees bits q → ⊥) → Agrees bits code
agrees_from_denied t bits q code e lost holds deny =
    let same : value_in t (q / 2) ≡ value_in t (code / 2) = ap (λ v. value_in t v) e in
    let bit : digit (value_at bits (q / 2)) ≡ digit (value_at bits (code / 2)) = ap (λ v. digit (value_at bits v)) e in
    let small = digit_lt (value_at bits (q / 2)) in
    elim (cases_eq (digit (value_at bits (q / 2))) (q % 2)) [
      | inl agree ↦ absurd (deny agree)
      | inr differs ↦ omega arith
    ]

-- the whole clause is met by each model
pub gathered_implied : (f : Formula) (t : Trail) (m : Marks) (learned : List ℕ) (place last : ℕ) → IsTrail t → AreListed m t → MarksRefute f t m → m.named.items ≡ [] → place < t.len → last ≡ code_at t place → Gathered m learned last (length m.marked.items) → IsImplied f learned
gathered_implied f t m learned place last trail listed refute unnamed within here g = record {
  implies = λ bits model deny. refute.refutes bits model (λ k kl. absurd (omega (arith, ap length unnamed))) (λ i il marked.
      let w = listed.listed (code_at t i / 2) marked in
      let holds = trail.mirror.holding i il in
      let P : ℕ → Type 0 = λ v. IsMarked m v in
      elim (g.gathered w.0 w.1 (subst P (sym w.2) marked)) [
        | inl s ↦
            let top : IsTrueIn t (code_at t place) = trail.mirror.holding place within in
            let Q : ℕ → Type 0 = λ q. IsTrueIn t q in
            let true_last : IsTrueIn t last = subst Q (sym here) top in
            let var = g.variable in
            let sign = g.sign in
            let val : value_in t (get_or learned 0 0 / 2) ≡ value_in t (last / 2) = ap (λ v. value_in t v) var in
            let lost : IsFalseIn t (get_or learned 0 0) = omega arith in
            let e : get_or learned 0 0 / 2 ≡ code_at t i / 2 = var ∙ sym s ∙ w.2 in
            agrees_from_denied t bits (get_or learned 0 0) (code_at t i) e lost holds (deny 0 g.some)
        | inr j ↦
            agrees_from_denied t bits (get_or m.marked.items w.0 0) (code_at t i) w.2 w.3 holds (λ a. deny j.0 j.1 (agrees_at bits (get_or m.marked.items w.0 0) (get_or learned j.0 0) (sym j.2) a))
      ]);
}

pub gather_none : (m : Marks) (learned : List ℕ) (last x : ℕ) → learned ≡ x ∷ [] → x / 2 ≡ last / 2 → x % 2 + last % 2 ≡ 1 → Gathered m learned last 0
gather_none m learned last x e var sign =
    let first : get_or learned 0 0 ≡ x = ap (λ xs. get_or xs 0 0) e in
    let len : length learned ≡ 1 = ap length e in
    record {
      some = omega arith;
      variable = ap (λ q. q / 2) first ∙ var;
      sign = ap (λ q. q % 2 + last % 2) first ∙ sign;
      gathered = λ k kl marked. absurd (omega arith);
    }

-- what is left of an analysis with no mark
pub names_refute : (f : Formula) (t : Trail) (m : Marks) → MarksRefute f t m → ((i : ℕ) → i < t.len → IsMarked m (code_at t i / 2) → ⊥) → (bits : List Bool) → AreMetBy f bits → AgreesWithAll bits m.named.items → ⊥
names_refute f t m refute none bits model named = refute.refutes bits model named (λ i il marked. absurd (none i il marked))
