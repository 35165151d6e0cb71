-- The steps by a block, state by state.
use Rattle.std.proofs.Common.{inl, inr, ◌≡◌, ◌++◌, ◌∷◌, ◌<◌, ◌≤◌, ◌+◌, ℕ, Bool, List, [], Option, None, Some, length, subst, sym, ◌∙◌, ap, refl, arith}
use Rattle.std.specs.Prelude.{◌⊎◌, slice_get, slice_index_or}
use Rattle.std.specs.Option.{option_map}
use Rattle.std.specs.List.{Contains}
use Rattle.std.proofs.lemmas.Bool.{cases_lt}
use Rattle.std.proofs.lemmas.Option.{slice_get_within, get_or_from_slice_get}
use Rattle.std.proofs.lemmas.List.Elements.{Contains-push, Contains-push_cases, Contains-append_left}
use Rattle.dai_model.specs.Protocol.{Protocol, Block, Action}
use Rattle.dai_model.specs.Structure as Model
use Rattle.dai_model.specs.WellSorted.{IsProtocol, IsWellSortedBlock}
use Rattle.dai_model.specs.Execution.{executes}
use Rattle.dai_logic.specs.declared.structure.BlockId.{BlockId}
use Rattle.dai_logic.specs.declared.structure.BlockId.TheVariants.{Init, Act}
use Rattle.dai_logic.specs.declared.structure.Structure.{Structure}
use Rattle.dai_logic.specs.Protocols.{block_named}
use Rattle.dai_logic.specs.Execution.{IsCall}
use Rattle.dai_table.specs.declared.steps.Step.{Step}
use Rattle.dai_table.specs.Flags.{state}
use Rattle.dai_table.specs.Steps.{state_at, IsBlockOf, IsStepAt, IsListed, AreSteps, AddsStep, none_added, one_added}
use Rattle.dai_table.proofs.Fitting.{call_of}

pub some_is : {X : Type 0} (x y : X) → Some x ≡ Some y → x ≡ y
some_is x y e = cc

some_block : (o : Option Action) (b : Block) → option_map (λ (a : Action). a.block) o ≡ Some b → (a : Action) × (o ≡ Some a) × (a.block ≡ b)
some_block None b e = absurd (let z : ⊥ = cc in z)
some_block (Some a) b e = let same : a.block ≡ b = cc in (a, refl, same)

pub block_sorted : (P : Protocol) (block : BlockId) (b : Block) → IsProtocol P → block_named P block ≡ Some b → IsWellSortedBlock P b
block_sorted P Init b protocol e = let same : P.init ≡ b = cc in subst (IsWellSortedBlock P) same protocol.init
block_sorted P (Act n) b protocol e =
    let found = some_block (slice_get P.actions n) b e in
    let a = found.0 in
    let below = slice_get_within P.actions n a found.1 in
    let same = get_or_from_slice_get P.actions n a a found.1 in
    subst (IsWellSortedBlock P) (ap (λ (c : Action). c.block) same ∙ found.2) (protocol.actions n a below)

pub block_call : (P : Protocol) (block : BlockId) (s : Structure) → IsProtocol P → P.sorts ≡ [] → IsBlockOf P block → IsCall P block s [] []
block_call P block s protocol no_types h = call_of P block s h.named no_types (block_sorted P block h.named protocol h.is) h.is

pub next_cases : (k n : ℕ) → k < n + 1 → (k < n) ⊎ (k ≡ n)
next_cases k n h = by (cases_lt k n)
  where
    by : (k < n) ⊎ (n ≤ k) → (k < n) ⊎ (k ≡ n)
    by (inl less) = inl less
    by (inr most) = inr (omega (arith, h, most))

pub steps_none : (P : Protocol) (b : Block) (states : List (List Bool)) → AreSteps P b states 0 []
steps_none P b states = record { sound = λ step there. absurd (let less = there.1 in omega (arith, less)); complete = λ k below t e. absurd (omega (arith, below)) }

module _ (P : Protocol) (b : Block) (states : List (List Bool)) (n : ℕ) (before : List Bool) (old : List Step) (is : slice_index_or states n [] ≡ before) (h : AreSteps P b states n old) where
  here : state_at P states n ≡ state P before
  here = ap (state P) is

  still : (step : Step) → IsStepAt P b states n step → IsStepAt P b states (n + 1) step
  still step at = let inside = at.inside in record { inside = omega (arith, inside); long = at.long; leaves = at.leaves }

  kept : executes P b (state P before) [] [] ≡ None → AreSteps P b states (n + 1) old
  kept none = record { sound = λ step there. still step (h.sound step there); complete = λ k below t e. by k t (next_cases k n below) e }
    where
      by : (k : ℕ) (t : Model.Structure) → (k < n) ⊎ (k ≡ n) → executes P b (state_at P states k) [] [] ≡ Some t → IsListed P old k t
      by k t (inl less) e = h.complete k less t e
      by k t (inr same) e = absurd (let f = sym (ap (λ j. executes P b (state_at P states j) [] []) same ∙ ap (λ s. executes P b s [] []) here ∙ none) ∙ e in let z : ⊥ = cc in z)

  added : (step : Step) → step.from ≡ n → length step.after.items ≡ length P.relations → executes P b (state P before) [] [] ≡ Some (state P step.after.items) → AreSteps P b states (n + 1) (old ++ step ∷ [])
  added step from long leaves = record { sound = λ s there. sound_by s (Contains-push_cases old step s there); complete = λ k below t e. by k t (next_cases k n below) e }
    where
      at_here : executes P b (state_at P states n) [] [] ≡ Some (state P step.after.items)
      at_here = ap (λ s. executes P b s [] []) here ∙ leaves

      own : IsStepAt P b states (n + 1) step
      own = record { inside = (let e = from in omega (arith, e)); long = long; leaves = ap (λ j. executes P b (state_at P states j) [] []) from ∙ at_here }

      sound_by : (s : Step) → Contains old s ⊎ (step ≡ s) → IsStepAt P b states (n + 1) s
      sound_by s (inl there) = still s (h.sound s there)
      sound_by s (inr same) = subst (IsStepAt P b states (n + 1)) same own

      by : (k : ℕ) (t : Model.Structure) → (k < n) ⊎ (k ≡ n) → executes P b (state_at P states k) [] [] ≡ Some t → IsListed P (old ++ step ∷ []) k t
      by k t (inl less) e = let at = h.complete k less t e in record { step = at.step; listed = Contains-append_left old (step ∷ []) at.step at.listed; from_it = at.from_it; to_it = at.to_it }
      by k t (inr same) e =
          let f = sym (ap (λ j. executes P b (state_at P states j) [] []) same ∙ at_here) ∙ e in
          record { step = step; listed = Contains-push old step; from_it = from ∙ sym same; to_it = (let z : state P step.after.items ≡ t = cc in z) }

  pub steps_next : (new : List Step) → AddsStep P b n before old new → AreSteps P b states (n + 1) new
  steps_next new (none_added e none) = subst (AreSteps P b states (n + 1)) (sym e) (kept none)
  steps_next new (one_added step e from long leaves) = subst (AreSteps P b states (n + 1)) (sym e) (added step from long leaves)
