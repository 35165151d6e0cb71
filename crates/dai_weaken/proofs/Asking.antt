-- From the answers of a judge to what is said of a clause.
use Rattle.std.proofs.Common.{◌≡◌, ℕ, ◌<◌, ◌≤◌, ◌+◌, List, Some, length, subst, sym, ◌∙◌, ap, arith, inl, inr}
use Rattle.std.specs.Prelude.{slice_get, ◌⊎◌}
use Rattle.std.proofs.lemmas.Bool.{cases_lt}
use Rattle.std.proofs.lemmas.Option.{slice_get-get_or}
use Rattle.dai_model.specs.Protocol.{Protocol, Action}
use Rattle.dai_model.specs.Clause.{Clause}
use Rattle.dai_model.specs.Classes.{Class}
use Rattle.dai_logic.specs.declared.structure.BlockId.{BlockId}
use Rattle.dai_logic.specs.declared.structure.BlockId.TheVariants.{Init, Act}
use Rattle.dai_weaken.specs.declared.judge.Counterexample.{Counterexample}
use Rattle.dai_weaken.specs.Judging.{HoldsAtFirst, HoldsAfter, Holds, RefutesAtFirst, RefutesAfter, Refutes}

not_init : (n : ℕ) (b : BlockId) → b ≡ Init → b ≡ Act n → ⊥
not_init n b e f = let g : Init ≡ Act n = sym e ∙ f in cc

pub refutes_first : (C : Class) (P : Protocol) (premises : List Clause) (c : Clause) (x : Counterexample) → RefutesAtFirst C P c x → Refutes C P premises c x
refutes_first C P premises c x h = record { transition = h.transition; origin = λ number e. absurd (not_init number x.block h.init e); broken = h.broken }

pub refutes_later : (C : Class) (P : Protocol) (premises : List Clause) (number : ℕ) (c : Clause) (x : Counterexample) → RefutesAfter C P premises number c x → Refutes C P premises c x
refutes_later C P premises number c x h = record { transition = h.transition; origin = λ other e. h.premises_met; broken = h.broken }

-- the actions below a number, and one more
pub after_next : (C : Class) (P : Protocol) (premises : List Clause) (c : Clause) (number : ℕ)
    → ((k : ℕ) → k < number → (action : Action) → slice_get P.actions k ≡ Some action → HoldsAfter C P premises action c)
    → ((action : Action) → slice_get P.actions number ≡ Some action → HoldsAfter C P premises action c)
    → (k : ℕ) → k < number + 1 → (action : Action) → slice_get P.actions k ≡ Some action → HoldsAfter C P premises action c
after_next C P premises c number before here k below action is = by_place (cases_lt k number)
  where
    by_place : (k < number) ⊎ (number ≤ k) → HoldsAfter C P premises action c
    by_place (inl less) = before k less action is
    by_place (inr most) = let same : k ≡ number = omega (arith, below, most) in here action (subst (λ n. slice_get P.actions n ≡ Some action) same is)

-- all actions
pub holds_all : (C : Class) (P : Protocol) (premises : List Clause) (c : Clause) (number : ℕ) → length P.actions ≤ number → HoldsAtFirst C P c
    → ((k : ℕ) → k < number → (action : Action) → slice_get P.actions k ≡ Some action → HoldsAfter C P premises action c) → Holds C P premises c
holds_all C P premises c number all first after = record {
  at_first = first;
  after = λ action there. after there.0 (let below = there.1 in omega (arith, below, all)) action (slice_get-get_or P.actions there.0 action there.1 ∙ ap Some there.2);
}
