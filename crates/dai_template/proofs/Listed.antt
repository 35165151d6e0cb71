-- The shapes with a given sum, from the front of the ways.
use Rattle.std.proofs.Common.{◌≡◌, ◌≢◌, ◌<◌, ◌+◌, ℕ, Bool, true, false, cond, List, [], ◌∷◌, ◌++◌, get_or, length, take, map, sym, ◌∙◌, ap}
use Rattle.std.specs.Prelude.{nat_eq, sum}
use Rattle.std.proofs.lemmas.List.{append-nil, append_assoc, map_push}
use Rattle.std.proofs.lemmas.List.Elements.{filter_more}
use Rattle.std.proofs.lemmas.Bool.{eq-eqb}
use Rattle.std.proofs.lemmas.Bool.Decides.{eqb_tells}
use Rattle.std.proofs.Common.{◌⊎◌, inl, inr}
use Rattle.dai_model.specs.Shapes.{with_sum}
use Rattle.dai_template.specs.declared.clause.Shape.{Shape}
use Rattle.dai_template.specs.Atoms.{counts_of}

chosen : (ls : List (List ℕ)) (i n : ℕ) (z : List ℕ) (b : Bool) → i < length ls → z ≡ get_or ls i z → nat_eq (sum z) n ≡ b → with_sum (take (i + 1) ls) n ≡ with_sum (take i ls) n ++ cond b (z ∷ []) []
chosen ls i n z b below is test =
    filter_more (λ (counts : List ℕ). nat_eq (sum counts) n) ls i z below
    ∙ (ap (λ (y : List ℕ). with_sum (take i ls) n ++ cond (nat_eq (sum y) n) (y ∷ []) []) (sym is)
    ∙ ap (λ (c : Bool). with_sum (take i ls) n ++ cond c (z ∷ []) []) test)

pub listed : (ls : List (List ℕ)) (i n total : ℕ) (z : List ℕ) (start : List (List ℕ)) (xs ys : List Shape) (x : Shape) → ys ≡ xs ++ x ∷ [] → i < length ls → z ≡ get_or ls i z → counts_of x ≡ z → total ≡ sum z → total ≡ n → map counts_of xs ≡ start ++ with_sum (take i ls) n → map counts_of ys ≡ start ++ with_sum (take (i + 1) ls) n
listed ls i n total z start xs ys x e below is same h k before =
    let more = chosen ls i n z true below is (eq-eqb (sum z) n (sym h ∙ k)) in
    ap (map counts_of) e
    ∙ (map_push counts_of xs x
    ∙ (ap (λ (vs : List (List ℕ)). vs ++ counts_of x ∷ []) before
    ∙ (ap (λ (v : List ℕ). (start ++ with_sum (take i ls) n) ++ v ∷ []) same
    ∙ (append_assoc start (with_sum (take i ls) n) (z ∷ [])
    ∙ ap (λ (vs : List (List ℕ)). start ++ vs) (sym more)))))

unequal : (a b : ℕ) → a ≢ b → nat_eq a b ≡ false
unequal a b ne = unequal_by (eqb_tells a b)
  where
    unequal_by : ((nat_eq a b ≡ true) × (a ≡ b)) ⊎ ((nat_eq a b ≡ false) × (a ≢ b)) → nat_eq a b ≡ false
    unequal_by (inl h) = absurd (ne h.1)
    unequal_by (inr h) = h.0

pub passed : (ls : List (List ℕ)) (i n total : ℕ) (z : List ℕ) (start : List (List ℕ)) (xs ys : List Shape) → ys ≡ xs → i < length ls → z ≡ get_or ls i z → total ≡ sum z → total ≢ n → map counts_of xs ≡ start ++ with_sum (take i ls) n → map counts_of ys ≡ start ++ with_sum (take (i + 1) ls) n
passed ls i n total z start xs ys e below is h ne before =
    let none = chosen ls i n z false below is (unequal (sum z) n (λ k. ne (h ∙ k))) in
    ap (map counts_of) e ∙ (before ∙ ap (λ (vs : List (List ℕ)). start ++ vs) (sym (append-nil (with_sum (take i ls) n)) ∙ sym none))
