-- A clause that is below another one of greater rank is so through one of its immediate weakenings.
use Rattle.std.proofs.Common.{◌≡◌, ◌<◌, ◌≤◌, ◌+◌, ℕ, zero, suc, length, sym, ◌∙◌, arith, inl, inr, ◌⊎◌}
use Rattle.std.proofs.lemmas.Bool.{cases_lt, cases_eq}
use Rattle.dai_model.specs.Protocol.{Protocol}
use Rattle.dai_model.specs.Clause.{Clause}
use Rattle.dai_model.specs.Template.{Bounds, IsTemplate}
use Rattle.dai_model.specs.Subsumption.{Subsumes}
use Rattle.dai_model.specs.Weakening.{rank_of, IsCovered}
use Rattle.dai_model.proofs.Below.{below-refl, below-trans}
use Rattle.dai_model.proofs.Counting.{less_somewhere}
use Rattle.dai_model.proofs.Ranks.{literals_no_fewer}
use Rattle.dai_model.proofs.FewerLiterals.{IsNextBelow, fewer_literals}
use Rattle.dai_model.proofs.FewerVariables.{fewer_variables}

next_below : (P : Protocol) (B : Bounds) (c d : Clause) → IsTemplate P B c → IsTemplate P B d → Subsumes P c d → rank_of c < rank_of d → (between : Clause) × IsNextBelow P B c d between
next_below P B c d t u sub less = by_literals (cases_lt (length c.literals) (length d.literals))
  where
    by_literals : (length c.literals < length d.literals) ⊎ (length d.literals ≤ length c.literals) → (between : Clause) × IsNextBelow P B c d between
    by_literals (inl fewer) = fewer_literals P B c d t u sub fewer
    by_literals (inr many) =
        let few = literals_no_fewer P B c d t u sub in
        let even : length c.literals ≡ length d.literals = omega (arith, few, many) in
        let w = less_somewhere c.counts d.counts (t.one_count_each ∙ sym u.one_count_each) (omega (arith, less, even)) in
        fewer_variables P B c d t u sub even w.0 w.1

-- down from the clause above, one variable or literal at a time
down : (n : ℕ) (P : Protocol) (B : Bounds) (c d : Clause) → rank_of d ≤ rank_of c + n → IsTemplate P B c → IsTemplate P B d → Subsumes P c d → rank_of c < rank_of d → IsCovered P B c d
down zero P B c d near t u sub less = absurd (omega (arith, near, less))
down (suc n) P B c d near t u sub less = by_rank (cases_eq (rank_of d) (rank_of c + 1)) (λ e k near2 less2. down n P B c e near2 t k.template k.above less2)
  where
    by_rank : (rank_of d ≡ rank_of c + 1) ⊎ (rank_of d ≡ rank_of c + 1 → ⊥) → ((e : Clause) → IsNextBelow P B c d e → rank_of e ≤ rank_of c + n → rank_of c < rank_of e → IsCovered P B c e) → IsCovered P B c d
    by_rank (inl next) further = record { between = d; weakening = record { template = u; below = sub; one_more = next }; below = below-refl P B d u }
    by_rank (inr later) further =
        let w = next_below P B c d t u sub less in
        let one = w.1.one_less in
        let covered = further w.0 w.1 (omega (arith, near, one)) (omega (arith, less, later, one)) in
        record { between = covered.between; weakening = covered.weakening; below = below-trans P B covered.between w.0 d covered.weakening.template covered.below w.1.below }

pub weakenings_cover : (P : Protocol) (B : Bounds) (c d : Clause) → IsTemplate P B c → IsTemplate P B d → Subsumes P c d → rank_of c < rank_of d → IsCovered P B c d
weakenings_cover P B c d t u sub less = down (rank_of d) P B c d (omega arith) t u sub less
