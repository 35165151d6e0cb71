-- A round, member by member.
use Rattle.std.proofs.Common.{inl, inr, ◌≡◌, ℕ, ◌<◌, ◌≤◌, ◌+◌, ◌++◌, ◌∷◌, Bool, true, false, List, [], length, subst, sym, ◌∙◌, ap, refl, arith, append_assoc, Vec}
use Rattle.std.specs.declared.alloc.Global.{Global}
use Rattle.std.specs.Prelude.{◌⊎◌, slice_index_or}
use Rattle.std.specs.List.{Contains}
use Rattle.std.proofs.lemmas.Bool.{false≢true}
use Rattle.std.proofs.lemmas.List.{length-map}
use Rattle.std.proofs.lemmas.List.Elements.{Contains-append_left, Contains-append_right, Contains-append_cases, Contains-get_or}
use Rattle.dai_model.specs.Protocol.{Protocol}
use Rattle.dai_model.specs.Clause as Model
use Rattle.dai_model.specs.Clause.{Meets}
use Rattle.dai_model.specs.Classes.{Class}
use Rattle.dai_logic.specs.Tables.{structure_of}
use Rattle.dai_template.specs.declared.clause.Clause.{Clause}
use Rattle.dai_template.specs.declared.space.Space.{Space}
use Rattle.dai_template.specs.Spaces.{clause_of}
use Rattle.dai_template.specs.Lists.{clauses_of}
use Rattle.dai_weaken.specs.declared.judge.Counterexample.{Counterexample}
use Rattle.dai_weaken.specs.declared.rounds.Strike.{Strike}
use Rattle.dai_weaken.specs.Judging.{Holds, Refutes}
use Rattle.dai_weaken.specs.Strikes.{AreStruckBy, IsStrike, AreStrikes, struck_by, AreRoundStrikes, AreEachOnce, IsRoundTo}
use Rattle.dai_order.specs.Antichains.{member_at}
use Rattle.dai_weaken.proofs.Descending.{bool_cases, next_cases}

append_nil : {X : Type 0} (xs : List X) → xs ++ [] ≡ xs
append_nil [] = refl
append_nil (x ∷ xs) = ap (λ ys. x ∷ ys) (append_nil xs)

pub struck_more : (space : Space) (xs : List Strike) (x : Strike) → struck_by space (xs ++ x ∷ []) ≡ struck_by space xs ++ clauses_of space x.clauses.items
struck_more space [] x = append_nil (clauses_of space x.clauses.items)
struck_more space (y ∷ ys) x = ap (λ rest. clauses_of space y.clauses.items ++ rest) (struck_more space ys x) ∙ sym (append_assoc (clauses_of space y.clauses.items) (struck_by space ys) (clauses_of space x.clauses.items))

module _ (C : Class) (P : Protocol) (I : List Model.Clause) (space : Space) where
  pub strikes_more : (members seen : List Model.Clause) (xs : List Strike) (x : Strike) → AreStrikes C P I space members seen xs → IsStrike C P I space members (seen ++ struck_by space xs) x → AreStrikes C P I space members seen (xs ++ x ∷ [])
  strikes_more members seen [] x h one = (subst (λ (cs : List Model.Clause). IsStrike C P I space members cs x) (append_nil seen) one, tt)
  strikes_more members seen (y ∷ ys) x h one =
      (h.0, strikes_more members (seen ++ clauses_of space y.clauses.items) ys x h.1 (subst (λ (cs : List Model.Clause). IsStrike C P I space members cs x) (sym (append_assoc seen (clauses_of space y.clauses.items) (struck_by space ys))) one))

  module _ (members : List Clause) where
    pub round_first : (flags : List Bool) → length flags ≡ length members → ((k : ℕ) → slice_index_or flags k false ≡ false) → IsRoundTo C P I space members 0 flags []
    round_first flags long none = record {
      long = long;
      strikes_are = tt;
      flagged = λ k below is. absurd (false≢true (sym (none k) ∙ is));
      listed = λ c there. let less = there.1 in absurd (omega (arith, less));
      asked = λ k below is. absurd (omega (arith, below));
    }

    -- a member that is struck isn't asked, and one that was asked holds
    pub round_next : (n : ℕ) (flags : List Bool) (strikes : List Strike) → (slice_index_or flags n false ≡ false → Holds C P I (member_at space members n)) → IsRoundTo C P I space members n flags strikes → IsRoundTo C P I space members (n + 1) flags strikes
    round_next n flags strikes here h = record {
      long = h.long;
      strikes_are = h.strikes_are;
      flagged = h.flagged;
      listed = h.listed;
      asked = λ k below none. asked_at k (next_cases k n below) none;
    }
      where
        asked_at : (k : ℕ) → (k < n) ⊎ (k ≡ n) → slice_index_or flags k false ≡ false → Holds C P I (member_at space members k)
        asked_at k (inl less) none = h.asked k less none
        asked_at k (inr e) none = subst (λ j. Holds C P I (member_at space members j)) (sym e) (here (ap (λ j. slice_index_or flags j false) (sym e) ∙ none))

    module _ (once : AreEachOnce space members) (n : ℕ) (inside : n < length members) (flags new : List Bool) (strikes : List Strike) (by : Counterexample) (clauses : Vec Clause Global)
        (refuted : Refutes C P I (member_at space members n) by) (long : length new ≡ length members) (struck : AreStruckBy P space by.after members flags new clauses.items)
        (h : IsRoundTo C P I space members n flags strikes) where
      abbrev pub strike : Strike
      strike = record { by = by; clauses = clauses }

      listed_member : (k : ℕ) → k < length members → Contains (clauses_of space members) (member_at space members k)
      listed_member k below = let e = length-map members (clause_of space) in Contains-get_or (clauses_of space members) k (record { counts = []; literals = [] }) (omega (arith, e, below))

      is_strike : IsStrike C P I space (clauses_of space members) (struck_by space strikes) strike
      is_strike = record {
        transition = refuted.transition;
        origin = refuted.origin;
        are_members = λ c there. let at = struck.each c there in subst (Contains (clauses_of space members)) at.3 (listed_member at.0 at.1);
        were_not = λ c there before.
            let at = struck.each c there in
            let was = h.listed c before in
            let same : at.0 ≡ was.0 = once at.0 was.0 at.1 was.1 (at.3 ∙ sym was.3) in
            false≢true (sym at.2.was_not ∙ ap (λ k. slice_index_or flags k false) same ∙ was.2);
        broken = λ c there met. let at = struck.each c there in at.2.broken (subst (λ (m : Model.Clause). Meets P (structure_of P by.after) m) (sym at.3) met);
      }

      gained : struck_by space (strikes ++ strike ∷ []) ≡ struck_by space strikes ++ clauses_of space clauses.items
      gained = struck_more space strikes strike

      -- the one that was asked is struck
      asked_struck : slice_index_or new n false ≡ true
      asked_struck = by_flag (bool_cases (slice_index_or new n false))
        where
          by_flag : (slice_index_or new n false ≡ true) ⊎ (slice_index_or new n false ≡ false) → slice_index_or new n false ≡ true
          by_flag (inl is) = is
          by_flag (inr none) = absurd (refuted.broken (struck.others_meet n inside none))

      flagged_by : (k : ℕ) → k < length members → slice_index_or new k false ≡ true → (slice_index_or flags k false ≡ true) ⊎ (slice_index_or flags k false ≡ false) → Contains (struck_by space strikes ++ clauses_of space clauses.items) (member_at space members k)
      flagged_by k below is (inl before) = Contains-append_left (struck_by space strikes) (clauses_of space clauses.items) (member_at space members k) (h.flagged k below before)
      flagged_by k below is (inr not) = Contains-append_right (struck_by space strikes) (clauses_of space clauses.items) (member_at space members k) (struck.listed k below not is)

      listed_by : (c : Model.Clause) → Contains (struck_by space strikes) c ⊎ Contains (clauses_of space clauses.items) c → (k : ℕ) × (k < length members) × (slice_index_or new k false ≡ true) × (member_at space members k ≡ c)
      listed_by c (inl before) = let was = h.listed c before in (was.0, was.1, struck.stay was.0 was.2, was.3)
      listed_by c (inr there) = let at = struck.each c there in (at.0, at.1, at.2.is, at.3)

      was_unstruck : (k : ℕ) → slice_index_or new k false ≡ false → (slice_index_or flags k false ≡ true) ⊎ (slice_index_or flags k false ≡ false) → slice_index_or flags k false ≡ false
      was_unstruck k none (inl before) = absurd (false≢true (sym none ∙ struck.stay k before))
      was_unstruck k none (inr not) = not

      asked_by : (k : ℕ) → (k < n) ⊎ (k ≡ n) → slice_index_or new k false ≡ false → Holds C P I (member_at space members k)
      asked_by k (inl less) none = h.asked k less (was_unstruck k none (bool_cases (slice_index_or flags k false)))
      asked_by k (inr e) none = absurd (false≢true (sym none ∙ ap (λ j. slice_index_or new j false) e ∙ asked_struck))

      pub round_struck : IsRoundTo C P I space members (n + 1) new (strikes ++ strike ∷ [])
      round_struck = record {
        long = long;
        strikes_are = strikes_more (clauses_of space members) [] strikes strike h.strikes_are is_strike;
        flagged = λ k below is. subst (λ (cs : List Model.Clause). Contains cs (member_at space members k)) (sym gained) (flagged_by k below is (bool_cases (slice_index_or flags k false)));
        listed = λ c there. listed_by c (Contains-append_cases (struck_by space strikes) (clauses_of space clauses.items) c (subst (λ (cs : List Model.Clause). Contains cs c) gained there));
        asked = λ k below none. asked_by k (next_cases k n below) none;
      }

    pub round_whole : (n : ℕ) (flags : List Bool) (strikes : List Strike) → length members ≤ n → IsRoundTo C P I space members n flags strikes → AreRoundStrikes C P I space members flags strikes
    round_whole n flags strikes all h = record {
      long = h.long;
      strikes_are = h.strikes_are;
      flagged = h.flagged;
      listed = h.listed;
      others_hold = λ k below none. h.asked k (omega (arith, below, all)) none;
    }
