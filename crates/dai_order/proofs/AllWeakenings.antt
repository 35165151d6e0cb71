-- The weakenings with a literal more and those with a variable more of each type are all.
use Rattle.std.proofs.Common.{◌≡◌, ◌<◌, ◌≤◌, ◌+◌, ℕ, List, [], ◌∷◌, length, sym, ap, ◌∙◌, refl, subst, arith, inl, inr, ◌⊎◌}
use Rattle.std.specs.List.{Contains}
use Rattle.std.proofs.lemmas.Bool.{cases_lt}
use Rattle.std.proofs.lemmas.List.{length-map}
use Rattle.dai_model.specs.Protocol.{Protocol, Sort}
use Rattle.dai_model.specs.Clause as Model
use Rattle.dai_model.specs.Template.{Bounds, IsTemplate}
use Rattle.dai_model.specs.Subsumption.{IsCanonical}
use Rattle.dai_model.specs.Weakening.{IsImmediateWeakening}
use Rattle.dai_model.proofs.Below.{Each, count_within}
use Rattle.dai_model.proofs.Counting.{less_somewhere}
use Rattle.dai_model.proofs.Ranks.{literals_no_fewer}
use Rattle.dai_model.proofs.OneCanonical.{one_canonical}
use Rattle.dai_template.specs.declared.clause.Clause.{Clause}
use Rattle.dai_template.specs.declared.space.Space.{Space}
use Rattle.dai_template.specs.Spaces.{IsClauseOf, clause_of}
use Rattle.dai_template.specs.Lists.{clauses_of, IsListed, IsPart}
use Rattle.dai_template.proofs.Within.{Among, contained}
use Rattle.dai_order.specs.Forms.{IsForm, AreForms, HasGained}
use Rattle.dai_order.specs.Weakenings.{IsWeakerByLiteral, IsWeakerByVariable}
use Rattle.dai_order.proofs.Gaining.{gained_as, gained_then, member_form}

-- with a literal more, or a variable more of one of the first types
abbrev pub IsWeakerBelow : Protocol → Bounds → Model.Clause → ℕ → Model.Clause → Type 0
IsWeakerBelow P B c types d = IsWeakerByLiteral P B c d ⊎ ((sort : ℕ) × (sort < types) × IsWeakerByVariable P B c sort d)

pub no_forms : (P : Protocol) (B : Bounds) (space : Space) → AreForms P B space []
no_forms P B space = record { each = tt; rising = tt }

module _ (P : Protocol) (B : Bounds) (space : Space) (c : Model.Clause) where
  pub type_next : (sort : ℕ) (old mid new : List Clause) → HasGained P B space (IsWeakerBelow P B c sort) old mid → HasGained P B space (IsWeakerByVariable P B c sort) mid new → HasGained P B space (IsWeakerBelow P B c (sort + 1)) old new
  type_next sort old mid new h k =
      gained_then P B space (IsWeakerBelow P B c sort) (IsWeakerByVariable P B c sort) (IsWeakerBelow P B c (sort + 1)) old mid new
      (λ d u q. wider d q)
      (λ d u q. inr (sort, omega arith, q))
      (λ d u q. split d q)
      h k
    where
      wider : (d : Model.Clause) → IsWeakerBelow P B c sort d → IsWeakerBelow P B c (sort + 1) d
      wider d (inl q) = inl q
      wider d (inr q) = inr (q.0, (let below = q.1 in omega (arith, below)), q.2)

      by_type : (d : Model.Clause) (n : ℕ) → n < sort + 1 → IsWeakerByVariable P B c n d → (n < sort) ⊎ (sort ≤ n) → IsWeakerBelow P B c sort d ⊎ IsWeakerByVariable P B c sort d
      by_type d n below q (inl before) = inl (inr (n, before, q))
      by_type d n below q (inr last) = inr (subst (λ k. IsWeakerByVariable P B c k d) (let same : n ≡ sort = omega (arith, below, last) in same) q)

      split : (d : Model.Clause) → IsWeakerBelow P B c (sort + 1) d → IsWeakerBelow P B c sort d ⊎ IsWeakerByVariable P B c sort d
      split d (inl q) = inl (inl q)
      split d (inr q) = by_type d q.0 q.1 q.2 (cases_lt q.0 sort)

  is_weaker : (types : ℕ) (d : Model.Clause) → IsTemplate P B c → types ≡ length c.counts → IsImmediateWeakening P B c d → IsWeakerBelow P B c types d
  is_weaker types d t all w = by_literals (cases_lt (length c.literals) (length d.literals))
    where
      by_literals : (length c.literals < length d.literals) ⊎ (length d.literals ≤ length c.literals) → IsWeakerBelow P B c types d
      by_literals (inl more) = inl (record { weakening = w; more = more })
      by_literals (inr many) =
          let few = literals_no_fewer P B c d t w.template w.below in
          let one = w.one_more in
          let s = less_somewhere c.counts d.counts (t.one_count_each ∙ sym w.template.one_count_each) (omega (arith, one, few, many)) in
          let there = s.1 in
          let known = count_within d.counts s.0 _ there (cases_lt s.0 (length d.counts)) in
          let a = t.one_count_each in
          let b = w.template.one_count_each in
          inr (s.0, omega (arith, known, a, b, all), record { weakening = w; more = there })

  either_weakening : (types : ℕ) (d : Model.Clause) → IsWeakerBelow P B c types d → IsImmediateWeakening P B c d
  either_weakening types d (inl q) = q.weakening
  either_weakening types d (inr q) = q.2.weakening

  pub all_types : (types : ℕ) (old new : List Clause) → IsTemplate P B c → types ≡ length c.counts → HasGained P B space (IsWeakerBelow P B c types) old new → HasGained P B space (IsImmediateWeakening P B c) old new
  all_types types old new t all h =
      gained_as P B space (IsWeakerBelow P B c types) (IsImmediateWeakening P B c) old new (λ d u q. either_weakening types d q) (λ d u w. is_weaker types d t all w) h

-- what an empty list has gained is the whole list
pub whole_list : (P : Protocol) (B : Bounds) (space : Space) (Q : Model.Clause → Type 0) (new : List Clause) → HasGained P B space Q [] new → IsPart P B space Q new
whole_list P B space Q new h = record {
  each = each_listed new h.forms.each (λ d a. gained d (h.only d (contained d _ a)));
  complete = λ d t canonical q.
      let f = h.gains d t q in
      let w = member_form P B space new f.form h.forms f.listed in
      let one : d ≡ f.form = one_canonical P B d f.form t (subst (IsTemplate P B) w.2 w.1.of_the_space.template) f.renaming canonical (subst (IsCanonical P B) w.2 w.1.canonical) in
      subst (Contains (clauses_of space new)) (sym one) f.listed;
  rising = h.forms.rising;
}
  where
    gained : (d : Model.Clause) → Contains (clauses_of space []) d ⊎ Q d → Q d
    gained d (inl k) = absurd (let below = k.1 in omega (arith, below))
    gained d (inr q) = q

    each_listed : (xs : List Clause) → Each (IsForm P B space) xs → ((d : Model.Clause) → Among d (clauses_of space xs) → Q d) → Each (IsListed P B space Q) xs
    each_listed [] each has = tt
    each_listed (x ∷ xs) each has = (record { of_the_space = each.0.of_the_space; canonical = each.0.canonical; has = has (clause_of space x) (inl refl) }, each_listed xs each.1 (λ d a. has d (inr a)))

-- a type for each order
pub many_types : (P : Protocol) (B : Bounds) (space : Space) (clause : Clause) → IsClauseOf P B space clause → length space.ordered.items ≡ length (clause_of space clause).counts
many_types P B space clause h =
    let a = ap length h.space_of.orders in
    let b = length-map P.sorts (λ (T : Sort). T.ordered) in
    let e = h.template.one_count_each in
    omega (arith, a, b, e)
