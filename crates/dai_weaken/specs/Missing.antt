-- Which invariants don't follow, one after the other.
use Rattle.std.specs.Prelude.{◌≡◌, ℕ, ◌<◌, List, [], ◌∷◌, ◌++◌, Some, slice_get}
use Rattle.std.specs.List.{Contains, AllPairs}
use Rattle.dai_model.specs.Protocol.{Protocol, Invariant}
use Rattle.dai_model.specs.Template.{Bounds}
use Rattle.dai_model.specs.Classes.{Class}
use Rattle.dai_model.specs.Answer.{IsEntailed}

-- the number comes to the others where the claim fails
pub data AddsMissing (claim : Type 0) (number : ℕ) (old new : List ℕ) : Type 0 where
  follows : new ≡ old → claim → AddsMissing claim number old new
  fails : new ≡ old ++ number ∷ [] → (claim → ⊥) → AddsMissing claim number old new

-- of the first so many invariants, the numbers of those that don't follow
pub record AreMissingBelow (C : Class) (P : Protocol) (B : Bounds) (n : ℕ) (missing : List ℕ) : Type 0 where
  pub in_order : AllPairs (λ i j. i < j) missing
  pub below : (i : ℕ) → Contains missing i → i < n
  pub refuted : (i : ℕ) → Contains missing i → (f : Invariant) × (slice_get P.invariants i ≡ Some f) × (IsEntailed C P B f.body → ⊥)
  pub others : (i : ℕ) (f : Invariant) → i < n → slice_get P.invariants i ≡ Some f → (Contains missing i → ⊥) → IsEntailed C P B f.body
