-- Of the renamings of a clause one alone is canonical.
use Rattle.std.proofs.Common.{◌≡◌, ◌≢◌, ◌<◌, ℕ, List, [], ◌∷◌, sym, ap, refl, arith}
use Rattle.std.specs.Prelude.{sum}
use Rattle.std.specs.Ordering.{nat_cmp, ordering_then, ordering_reverse, MatchOrdering}
use Rattle.std.specs.Cmp.Lexicographic.{slice_cmp}
use Rattle.std.specs.declared.cmp.Ordering.{Ordering}
use Rattle.std.specs.declared.cmp.Ordering.TheVariants.{Less, Equal, Greater}
use Rattle.std.proofs.lemmas.Cmp.{ranked, nat_list_cmp_total}
use Rattle.dai_model.specs.Protocol.{Protocol}
use Rattle.dai_model.specs.Clause.{Clause}
use Rattle.dai_model.specs.Template.{Bounds, IsTemplate}
use Rattle.dai_model.specs.Subsumption.{compare_literals, IsRenaming, IsCanonical}
use Rattle.dai_model.specs.Weakening.{rank_of}
use Rattle.dai_model.proofs.Ranks.{below_again}

pub same_rank : (P : Protocol) (c d : Clause) → IsRenaming P c d → rank_of c ≡ rank_of d
same_rank P c d r = let a = ap sum r.same_shape in let b = r.as_many_literals in omega (arith, a, b)

pub renamed_back : (P : Protocol) (B : Bounds) (c d : Clause) → IsTemplate P B c → IsTemplate P B d → IsRenaming P c d → IsRenaming P d c
renamed_back P B c d t u r = record {
  same_shape = sym r.same_shape;
  as_many_literals = sym r.as_many_literals;
  permuted = below_again P B c d t u r.permuted (let e = same_rank P c d r in omega (arith, e));
}

neither_greater : (one other : Ordering) → one ≡ ordering_reverse other → one ≢ Greater → other ≢ Greater → one ≡ Equal
neither_greater Less Less e p q = absurd (let none : ⊥ = cc in none)
neither_greater Less Equal e p q = absurd (let none : ⊥ = cc in none)
neither_greater Less Greater e p q = absurd (q refl)
neither_greater Equal other e p q = refl
neither_greater Greater other e p q = absurd (p refl)

-- numbers and lists of numbers that are not told apart are one
same_number : (m n : ℕ) (o : Ordering) → MatchOrdering o (m < n) (m ≡ n) (n < m) → o ≡ Equal → m ≡ n
same_number m n Less h e = absurd (let none : ⊥ = cc in none)
same_number m n Equal h e = h
same_number m n Greater h e = absurd (let none : ⊥ = cc in none)

first_tied : (o p : Ordering) → ordering_then o p ≡ Equal → (o ≡ Equal) × (p ≡ Equal)
first_tied Less p e = absurd (let none : ⊥ = cc in none)
first_tied Equal p e = (refl, e)
first_tied Greater p e = absurd (let none : ⊥ = cc in none)

same_numbers : (xs ys : List ℕ) → slice_cmp nat_cmp xs ys ≡ Equal → xs ≡ ys
same_numbers [] [] e = refl
same_numbers [] (y ∷ ys) e = absurd (let none : ⊥ = cc in none)
same_numbers (x ∷ xs) [] e = absurd (let none : ⊥ = cc in none)
same_numbers (x ∷ xs) (y ∷ ys) e =
    let both = first_tied (nat_cmp x y) (slice_cmp nat_cmp xs ys) e in
    let head = same_number x y (nat_cmp x y) (ranked x y (nat_cmp x y) refl) both.0 in
    let tail = same_numbers xs ys both.1 in
    λ i. head i ∷ tail i

pub one_canonical : (P : Protocol) (B : Bounds) (c d : Clause) → IsTemplate P B c → IsTemplate P B d → IsRenaming P c d → IsCanonical P B c → IsCanonical P B d → c ≡ d
one_canonical P B c d t u r least_c least_d =
    let tied = neither_greater (compare_literals c d) (compare_literals d c) (nat_list_cmp_total.antisymm c.literals d.literals) (least_c d u r) (least_d c t (renamed_back P B c d t u r)) in
    let counts = r.same_shape in
    let literals = same_numbers c.literals d.literals tied in
    λ i. record { counts = counts i; literals = literals i }
