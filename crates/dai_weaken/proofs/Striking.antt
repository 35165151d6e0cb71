-- Which members a state strikes, one after the other.
use Rattle.std.proofs.Common.{inl, inr, ◌≡◌, ◌≢◌, ℕ, ◌<◌, ◌≤◌, ◌+◌, ◌++◌, ◌∷◌, Bool, true, false, List, [], length, subst, sym, ◌∙◌, ap, arith, get_or}
use Rattle.std.specs.Prelude.{◌⊎◌, slice_index_or, slice_set}
use Rattle.std.specs.List.{Contains}
use Rattle.std.proofs.lemmas.Bool.{cases_lt, false≢true}
use Rattle.std.proofs.lemmas.List.{get_or-set_same, get_or-set_other, get_or_default, length-set}
use Rattle.std.proofs.lemmas.List.Elements.{Contains-append_left, Contains-push, Contains-push_cases}
use Rattle.dai_model.specs.Protocol.{Protocol}
use Rattle.dai_model.specs.Clause as Model
use Rattle.dai_model.specs.Clause.{Meets}
use Rattle.dai_logic.specs.Tables.{structure_of, Fits}
use Rattle.dai_logic.specs.declared.structure.Structure.{Structure}
use Rattle.dai_template.specs.declared.clause.Clause.{Clause}
use Rattle.dai_template.specs.declared.space.Space.{Space}
use Rattle.dai_template.specs.Spaces.{clause_of, IsClauseOf}
use Rattle.dai_template.specs.Lists.{clauses_of}
use Rattle.dai_weaken.specs.Questions.{ArePremises}
use Rattle.dai_weaken.specs.Strikes.{IsStruckAt, AreStruckBelow, IsStruckOr, is_spared, is_struck}
use Rattle.dai_order.specs.Antichains.{member_at}
use Rattle.dai_weaken.proofs.Descending.{next_cases, member_is}

module _ (P : Protocol) (space : Space) (s : Structure) (members : List Clause) (old struck : List Bool) (n : ℕ) (c : Clause) (clauses : List Clause)
    (long : length struck ≡ length members) (below : n < length members) (is : c ≡ get_or members n c) (are : ArePremises P space members) (fits : Fits P s)
    (same : slice_index_or struck n false ≡ slice_index_or old n false) (h : AreStruckBelow P space s members old struck n clauses) where
  here : member_at space members n ≡ clause_of space c
  here = member_is space members n c below is

  of_the_space : IsClauseOf P are.bounds space c
  of_the_space = are.each c (n, below, sym (get_or_default members n c c below) ∙ sym is)

  spared : (slice_index_or old n false ≡ true) ⊎ Meets P (structure_of P s) (clause_of space c) → AreStruckBelow P space s members old struck (n + 1) clauses
  spared why = record {
    stay = h.stay;
    others_meet = λ k less none. meets k (next_cases k n less) none;
    each = λ d there. let at = h.each d there in let less = at.1 in (at.0, omega (arith, less), at.2, at.3);
    listed = λ k less was now. listed_at k (next_cases k n less) was now;
  }
    where
      meets_here : (slice_index_or old n false ≡ true) ⊎ Meets P (structure_of P s) (clause_of space c) → slice_index_or struck n false ≡ false → Meets P (structure_of P s) (clause_of space c)
      meets_here (inl was) none = absurd (false≢true (sym none ∙ same ∙ was))
      meets_here (inr met) none = met

      meets : (k : ℕ) → (k < n) ⊎ (k ≡ n) → slice_index_or struck k false ≡ false → Meets P (structure_of P s) (member_at space members k)
      meets k (inl less) none = h.others_meet k less none
      meets k (inr e) none =
          subst (λ (m : Model.Clause). Meets P (structure_of P s) m) (sym (ap (member_at space members) e ∙ here)) (meets_here why (ap (λ j. slice_index_or struck j false) (sym e) ∙ none))

      listed_at : (k : ℕ) → (k < n) ⊎ (k ≡ n) → slice_index_or old k false ≡ false → slice_index_or struck k false ≡ true → Contains (clauses_of space clauses) (member_at space members k)
      listed_at k (inl less) was now = h.listed k less was now
      listed_at k (inr e) was now = absurd (false≢true (sym was ∙ ap (λ j. slice_index_or old j false) e ∙ sym same ∙ ap (λ j. slice_index_or struck j false) (sym e) ∙ now))

  struck_too : (more : List Clause) → slice_index_or struck n false ≡ false → clauses_of space more ≡ clauses_of space clauses ++ clause_of space c ∷ [] → (Meets P (structure_of P s) (clause_of space c) → ⊥)
      → AreStruckBelow P space s members old (slice_set struck n true) (n + 1) more
  struck_too more was gained broken = record {
    stay = λ k before. stays k (cases k) (h.stay k before);
    others_meet = λ k less none. meets k (next_cases k n less) none;
    each = λ d there. each_of d (Contains-push_cases (clauses_of space clauses) (clause_of space c) d (subst (λ (cs : List Model.Clause). Contains cs d) gained there));
    listed = λ k less before now. subst (λ (cs : List Model.Clause). Contains cs (member_at space members k)) (sym gained) (listed_at k (next_cases k n less) before now);
  }
    where
      inside : n < length struck
      inside = let e = long in omega (arith, below, e)

      set_here : slice_index_or (slice_set struck n true) n false ≡ true
      set_here = get_or-set_same struck n true false inside

      set_there : (k : ℕ) → k ≢ n → slice_index_or (slice_set struck n true) k false ≡ slice_index_or struck k false
      set_there k apart = get_or-set_other struck n k true false apart

      cases : (k : ℕ) → (k ≡ n) ⊎ (k ≢ n)
      cases k = by (cases_lt k n) (cases_lt n k)
        where
          by : (k < n) ⊎ (n ≤ k) → (n < k) ⊎ (k ≤ n) → (k ≡ n) ⊎ (k ≢ n)
          by (inl less) other = inr (λ e. let f = e in omega (arith, less, f))
          by (inr most) (inl more) = inr (λ e. let f = e in omega (arith, more, f))
          by (inr most) (inr most_too) = inl (omega (arith, most, most_too))

      less_apart : (k : ℕ) → k < n → k ≢ n
      less_apart k less e = let f = e in omega (arith, less, f)

      stays : (k : ℕ) → (k ≡ n) ⊎ (k ≢ n) → slice_index_or struck k false ≡ true → slice_index_or (slice_set struck n true) k false ≡ true
      stays k (inl e) before = ap (λ j. slice_index_or (slice_set struck n true) j false) e ∙ set_here
      stays k (inr apart) before = set_there k apart ∙ before

      meets : (k : ℕ) → (k < n) ⊎ (k ≡ n) → slice_index_or (slice_set struck n true) k false ≡ false → Meets P (structure_of P s) (member_at space members k)
      meets k (inl less) none = h.others_meet k less (sym (set_there k (less_apart k less)) ∙ none)
      meets k (inr e) none = absurd (false≢true (sym none ∙ ap (λ j. slice_index_or (slice_set struck n true) j false) e ∙ set_here))

      each_of : (d : Model.Clause) → Contains (clauses_of space clauses) d ⊎ (clause_of space c ≡ d) → (k : ℕ) × (k < n + 1) × IsStruckAt P space s members old (slice_set struck n true) k × (member_at space members k ≡ d)
      each_of d (inl there) =
          let at = h.each d there in
          let less = at.1 in
          (at.0, omega (arith, less), record { was_not = at.2.was_not; is = stays at.0 (cases at.0) at.2.is; broken = at.2.broken }, at.3)
      each_of d (inr e) =
          (n, omega arith, record { was_not = sym same ∙ was; is = set_here; broken = λ met. broken (subst (λ (m : Model.Clause). Meets P (structure_of P s) m) here met) }, here ∙ e)

      listed_at : (k : ℕ) → (k < n) ⊎ (k ≡ n) → slice_index_or old k false ≡ false → slice_index_or (slice_set struck n true) k false ≡ true → Contains (clauses_of space clauses ++ clause_of space c ∷ []) (member_at space members k)
      listed_at k (inl less) before now = Contains-append_left (clauses_of space clauses) (clause_of space c ∷ []) (member_at space members k) (h.listed k less before (sym (set_there k (less_apart k less)) ∙ now))
      listed_at k (inr e) before now = subst (Contains (clauses_of space clauses ++ clause_of space c ∷ [])) (sym (ap (member_at space members) e ∙ here)) (Contains-push (clauses_of space clauses) (clause_of space c))

  pub struck_next : (new : List Bool) (more : List Clause) → IsStruckOr space s c n struck new clauses more → AreStruckBelow P space s members old new (n + 1) more
  struck_next new more (is_spared kept none why) =
      subst (λ (b : List Bool). AreStruckBelow P space s members old b (n + 1) more) (sym kept) (subst (λ (cs : List Clause). AreStruckBelow P space s members old struck (n + 1) cs) (sym none) (spared (why_here why)))
    where
      why_here : (slice_index_or struck n false ≡ true) ⊎ ((Q : Protocol) (B : _) → IsClauseOf Q B space c → Fits Q s → Meets Q (structure_of Q s) (clause_of space c)) → (slice_index_or old n false ≡ true) ⊎ Meets P (structure_of P s) (clause_of space c)
      why_here (inl before) = inl (sym same ∙ before)
      why_here (inr met) = inr (met P are.bounds of_the_space fits)
  struck_next new more (is_struck was set gained broken) =
      subst (λ (b : List Bool). AreStruckBelow P space s members old b (n + 1) more) (sym set) (struck_too more was gained (broken P are.bounds of_the_space fits))

-- the other flags are as they were
pub others_kept : (space : Space) (s : Structure) (c : Clause) (n : ℕ) (old struck new : List Bool) (clauses more : List Clause) → IsStruckOr space s c n struck new clauses more
    → ((k : ℕ) → n ≤ k → slice_index_or struck k false ≡ slice_index_or old k false) → (k : ℕ) → n + 1 ≤ k → slice_index_or new k false ≡ slice_index_or old k false
others_kept space s c n old struck new clauses more (is_spared kept none why) rest k past = ap (λ b. slice_index_or b k false) kept ∙ rest k (omega (arith, past))
others_kept space s c n old struck new clauses more (is_struck was set gained broken) rest k past =
    ap (λ b. slice_index_or b k false) set ∙ get_or-set_other struck n k true false (λ e. let f = e in omega (arith, past, f)) ∙ rest k (omega (arith, past))

pub as_long : (space : Space) (s : Structure) (c : Clause) (n : ℕ) (struck new : List Bool) (clauses more : List Clause) → IsStruckOr space s c n struck new clauses more → length new ≡ length struck
as_long space s c n struck new clauses more (is_spared kept none why) = ap length kept
as_long space s c n struck new clauses more (is_struck was set gained broken) = ap length set ∙ length-set struck n true

-- before the first member
pub struck_none : (P : Protocol) (space : Space) (s : Structure) (members : List Clause) (old : List Bool) → AreStruckBelow P space s members old old 0 []
struck_none P space s members old = record {
  stay = λ k h. h;
  others_meet = λ k less none. absurd (omega (arith, less));
  each = λ d there. let less = there.1 in absurd (omega (arith, less));
  listed = λ k less was now. absurd (omega (arith, less));
}
