-- The states that meet the axioms, one after the other, and the steps by each action.
use Rattle.std.proofs.Common.{inl, inr, ◌≡◌, ◌++◌, ◌∷◌, ◌<◌, ◌+◌, ℕ, zero, suc, Bool, true, false, List, [], Some, length, get_or, subst, sym, ◌∙◌, ap, refl, arith, ⊎_elim, length-append}
use Rattle.std.specs.Prelude.{◌⊎◌, slice_get, slice_index_or}
use Rattle.std.specs.Option.{option_map}
use Rattle.std.specs.List.{Contains, flat_map}
use Rattle.std.proofs.lemmas.List.{get_or_push, get_or_append_left}
use Rattle.std.proofs.lemmas.Option.{slice_get-get_or}
use Rattle.std.proofs.lemmas.List.Elements.{Contains-push, Contains-append_left, Contains-append_cases}
use Rattle.dai_model.specs.Protocol.{Protocol, Action}
use Rattle.dai_model.specs.Value.{SatisfiesAxioms}
use Rattle.dai_logic.specs.declared.structure.BlockId.TheVariants.{Act}
use Rattle.dai_table.specs.declared.steps.Step.{Step}
use Rattle.dai_table.specs.Flags.{state, valuations, with_either}
use Rattle.dai_table.specs.Steps.{AreStatesOf, AreStatesSoFar, AddsState, left_out, put_in, state_at, IsBlockOf, AreSteps, AreActionSteps}
use Rattle.dai_table.proofs.Stepping.{next_cases}

in_head : {X : Type 0} (x : X) (xs : List X) → Contains (x ∷ xs) x
in_head x xs = (0, omega arith, refl)

in_tail : {X : Type 0} (x : X) (xs : List X) (y : X) → Contains xs y → Contains (x ∷ xs) y
in_tail x xs y h = let k = h.1 in (suc h.0, omega (arith, k), h.2)

pub in_cases : {X : Type 0} (x : X) (xs : List X) (y : X) → Contains (x ∷ xs) y → (x ≡ y) ⊎ Contains xs y
in_cases x xs y h = ⊎_elim (λ front. let less = front.1 in inl (one front.0 front.1 front.2)) (λ rest. inr rest) (Contains-append_cases (x ∷ []) xs y h)
  where
    one : (k : ℕ) → k < 1 → get_or (x ∷ []) k y ≡ y → x ≡ y
    one zero below is = is
    one (suc k) below is = absurd (omega (arith, below))

-- every list of so many truth values is a valuation, and each valuation has so many
either_long : (n : ℕ) (vs : List (List Bool)) → ((v : List Bool) → Contains vs v → length v ≡ n) → (v : List Bool) → Contains (flat_map with_either vs) v → length v ≡ suc n
either_long n [] h v there = absurd (let less = there.1 in omega (arith, less))
either_long n (w ∷ vs) h v there =
    let own = h w (in_head w vs) in
    ⊎_elim (λ e. sym (ap length e) ∙ ap suc own)
    (λ further. ⊎_elim (λ e. sym (ap length e) ∙ ap suc own) (λ rest. either_long n vs (λ u k. h u (in_tail w vs u k)) v rest) (in_cases (true ∷ w) (flat_map with_either vs) v further))
    (in_cases (false ∷ w) ((true ∷ w) ∷ flat_map with_either vs) v there)

pub valuations_long : (n : ℕ) (v : List Bool) → Contains (valuations n) v → length v ≡ n
valuations_long zero v there = ⊎_elim (λ e. sym (ap length e)) (λ rest. absurd (let less = rest.1 in omega (arith, less))) (in_cases [] [] v there)
valuations_long (suc n) v there = either_long n (valuations n) (valuations_long n) v there

with_first : (b : Bool) (vs : List (List Bool)) (v : List Bool) → Contains vs v → Contains (flat_map with_either vs) (b ∷ v)
with_first b [] v there = absurd (let less = there.1 in omega (arith, less))
with_first b (w ∷ vs) v there = ⊎_elim (λ e. subst (λ u. Contains (flat_map with_either (w ∷ vs)) (b ∷ u)) e (here b)) (λ rest. in_tail (false ∷ w) ((true ∷ w) ∷ flat_map with_either vs) (b ∷ v) (in_tail (true ∷ w) (flat_map with_either vs) (b ∷ v) (with_first b vs v rest))) (in_cases w vs v there)
  where
    here : (b : Bool) → Contains (flat_map with_either (w ∷ vs)) (b ∷ w)
    here false = in_head (false ∷ w) ((true ∷ w) ∷ flat_map with_either vs)
    here true = in_tail (false ∷ w) ((true ∷ w) ∷ flat_map with_either vs) (true ∷ w) (in_head (true ∷ w) (flat_map with_either vs))

pub valuations_all : (n : ℕ) (v : List Bool) → length v ≡ n → Contains (valuations n) v
valuations_all zero [] e = in_head [] []
valuations_all zero (b ∷ v) e = absurd (omega (arith, e))
valuations_all (suc n) [] e = absurd (omega (arith, e))
valuations_all (suc n) (b ∷ v) e = with_first b (valuations n) v (valuations_all n v (omega (arith, e)))

module _ (P : Protocol) (all : List (List Bool)) where
  pub none_so_far : AreStatesSoFar P all all []
  none_so_far = record {
    are_states = λ k below. absurd (omega (arith, below));
    axioms = λ k below. absurd (omega (arith, below));
    complete = λ flags there holds. inr there;
  }

  pub one_so_far : (flags : List Bool) (rest old new : List (List Bool)) → length flags ≡ length P.relations → AddsState P flags old new → AreStatesSoFar P all (flags ∷ rest) old → AreStatesSoFar P all rest new
  one_so_far flags rest old new long (left_out e fails) h = subst (AreStatesSoFar P all rest) (sym e) (record {
    are_states = h.are_states;
    axioms = h.axioms;
    complete = λ v there holds. ⊎_elim (λ before. inl before) (λ later. ⊎_elim (λ same. absurd (fails (subst (λ u. SatisfiesAxioms P (state P u)) (sym same) holds))) (λ behind. inr behind) (in_cases flags rest v later)) (h.complete v there holds);
  })
  one_so_far flags rest old new long (put_in e holds_here) h = subst (AreStatesSoFar P all rest) (sym e) (record {
    are_states = λ k below. long_at k (cases k below);
    axioms = λ k below. axioms_at k (cases k below);
    complete = λ v there holds. ⊎_elim (λ before. inl (Contains-append_left old (flags ∷ []) v before)) (λ later. ⊎_elim (λ same. inl (subst (Contains (old ++ flags ∷ [])) same (Contains-push old flags))) (λ behind. inr behind) (in_cases flags rest v later)) (h.complete v there holds);
  })
    where
      cases : (k : ℕ) → k < length (old ++ flags ∷ []) → (k < length old) ⊎ (k ≡ length old)
      cases k below = next_cases k (length old) (let l = length-append old (flags ∷ []) in omega (arith, below, l))

      long_at : (k : ℕ) → (k < length old) ⊎ (k ≡ length old) → length (slice_index_or (old ++ flags ∷ []) k []) ≡ length P.relations
      long_at k (inl less) = ap length (get_or_append_left old (flags ∷ []) [] k less) ∙ h.are_states k less
      long_at k (inr same) = ap length (get_or_push old flags [] k (sym same)) ∙ long

      axioms_at : (k : ℕ) → (k < length old) ⊎ (k ≡ length old) → SatisfiesAxioms P (state_at P (old ++ flags ∷ []) k)
      axioms_at k (inl less) = subst (λ v. SatisfiesAxioms P (state P v)) (sym (get_or_append_left old (flags ∷ []) [] k less)) (h.axioms k less)
      axioms_at k (inr same) = subst (λ v. SatisfiesAxioms P (state P v)) (sym (get_or_push old flags [] k (sym same))) holds_here

  pub all_so_far : (states : List (List Bool)) → ((v : List Bool) → length v ≡ length P.relations → Contains all v) → AreStatesSoFar P all [] states → AreStatesOf P states
  all_so_far states every h = record {
    are_states = h.are_states;
    axioms = h.axioms;
    all_states = λ v long holds. ⊎_elim (λ there. there) (λ none. absurd (let less = none.1 in omega (arith, less))) (h.complete v (every v long) holds);
  }

-- actions
pub action_block : (P : Protocol) (n : ℕ) → n < length P.actions → IsBlockOf P (Act n)
action_block P n below =
    let d : Action = record { name = []; block = P.init } in
    record { named = (get_or P.actions n d).block; is = ap (option_map (λ (a : Action). a.block)) (slice_get-get_or P.actions n d below) }

pub actions_none : (P : Protocol) (states : List (List Bool)) → AreActionSteps P states 0 []
actions_none P states = record { as_many = refl; each = λ k a below e. absurd (omega (arith, below)) }

pub actions_next : (P : Protocol) (states : List (List Bool)) (n : ℕ) (old new : List (List Step)) (steps : List Step) → new ≡ old ++ steps ∷ [] → ((a : Action) → slice_get P.actions n ≡ Some a → AreSteps P a.block states (length states) steps)
    → AreActionSteps P states n old → AreActionSteps P states (n + 1) new
actions_next P states n old new steps e own h = subst (AreActionSteps P states (n + 1)) (sym e) (record {
  as_many = (let l = length-append old (steps ∷ []) in let m = h.as_many in omega (arith, l, m));
  each = λ k a below is. at k a (next_cases k n below) is;
})
  where
    at : (k : ℕ) (a : Action) → (k < n) ⊎ (k ≡ n) → slice_get P.actions k ≡ Some a → AreSteps P a.block states (length states) (slice_index_or (old ++ steps ∷ []) k [])
    at k a (inl less) is = subst (AreSteps P a.block states (length states)) (sym (get_or_append_left old (steps ∷ []) [] k (let m = h.as_many in omega (arith, less, m)))) (h.each k a less is)
    at k a (inr same) is = subst (AreSteps P a.block states (length states)) (sym (get_or_push old steps [] k (h.as_many ∙ sym same))) (own a (ap (slice_get P.actions) (sym same) ∙ is))
