-- The answer over a class of structures: the canonical minimal clauses of the greatest inductive set, in print
-- order; and which invariants follow from that set. Both are relations, since membership in the set is no test that
-- computes.
use Rattle.std.specs.Prelude.{◌≡◌, ℕ, ◌<◌, List, Some, slice_get}
use Rattle.std.specs.List.{Contains, AllPairs}
use Rattle.std.specs.declared.cmp.Ordering.TheVariants.{Less}
use Rattle.dai_model.specs.Formula.{Formula}
use Rattle.dai_model.specs.Protocol.{Protocol, Invariant}
use Rattle.dai_model.specs.Structure.{Structure, IsStructure}
use Rattle.dai_model.specs.Value.{Satisfies, SatisfiesAxioms}
use Rattle.dai_model.specs.Clause.{Clause, Meets}
use Rattle.dai_model.specs.Template.{Bounds}
use Rattle.dai_model.specs.Subsumption.{StrictlySubsumes, IsCanonical, print_order}
use Rattle.dai_model.specs.Classes.{Class, Belongs}
use Rattle.dai_model.specs.Inductive.{IsInGreatest}

-- canonical, in the greatest inductive set, and no clause of the set lies strictly below
pub record IsMinimal (C : Class) (P : Protocol) (B : Bounds) (c : Clause) : Type 0 where
  pub greatest : IsInGreatest C P B c
  pub canonical : IsCanonical P B c
  pub least : (d : Clause) → IsInGreatest C P B d → StrictlySubsumes P d c → ⊥

pub record IsAnswer (C : Class) (P : Protocol) (B : Bounds) (answer : List Clause) : Type 0 where
  pub in_order : AllPairs (λ c d. print_order c d ≡ Less) answer
  pub sound : (c : Clause) → Contains answer c → IsMinimal C P B c
  pub complete : (c : Clause) → IsMinimal C P B c → Contains answer c

-- true in every structure of the class that meets the axioms and each clause of the greatest inductive set
abbrev pub IsEntailed : Class → Protocol → Bounds → Formula → Type 0
IsEntailed C P B f = (s : Structure) → Belongs C s → IsStructure P s → SatisfiesAxioms P s → ((c : Clause) → IsInGreatest C P B c → Meets P s c) → Satisfies s f

-- the numbers of the invariants that do not follow, in the order of the file
pub record AreMissing (C : Class) (P : Protocol) (B : Bounds) (missing : List ℕ) : Type 0 where
  pub in_order : AllPairs (λ i j. i < j) missing
  pub refuted : (i : ℕ) → Contains missing i → (f : Invariant) × (slice_get P.invariants i ≡ Some f) × (IsEntailed C P B f.body → ⊥)
  pub others : (i : ℕ) (f : Invariant) → slice_get P.invariants i ≡ Some f → (Contains missing i → ⊥) → IsEntailed C P B f.body
