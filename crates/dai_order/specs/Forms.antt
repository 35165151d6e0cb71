-- Lists of canonical clauses of a space, each once and in print order, and what is put into them.
use Rattle.std.specs.Prelude.{◌≡◌, ◌≢◌, ℕ, ◌<◌, ◌≤◌, List, length, slice_index_or, ◌⊎◌}
use Rattle.std.specs.List.{Contains}
use Rattle.std.specs.declared.cmp.Ordering.TheVariants.{Less}
use Rattle.dai_model.specs.Protocol.{Protocol}
use Rattle.dai_model.specs.Clause as Model
use Rattle.dai_model.specs.Template.{Bounds, IsTemplate}
use Rattle.dai_model.specs.Subsumption.{IsRenaming, IsCanonical, print_order}
use Rattle.dai_model.proofs.Below.{Each}
use Rattle.dai_model.proofs.Order.{Rising}
use Rattle.dai_template.specs.declared.clause.Clause.{Clause}
use Rattle.dai_template.specs.declared.space.Space.{Space}
use Rattle.dai_template.specs.Spaces.{IsClauseOf, clause_of}
use Rattle.dai_template.specs.Lists.{clauses_of, Comes}

-- a canonical clause of the space
pub record IsForm (P : Protocol) (B : Bounds) (space : Space) (c : Clause) : Type 0 where
  pub of_the_space : IsClauseOf P B space c
  pub canonical : IsCanonical P B (clause_of space c)

pub record AreForms (P : Protocol) (B : Bounds) (space : Space) (clauses : List Clause) : Type 0 where
  pub each : Each (IsForm P B space) clauses
  pub rising : Rising (Comes space) clauses

-- a renaming of the clause is among these
pub record HasFormAmong (P : Protocol) (members : List Model.Clause) (d : Model.Clause) : Type 0 where
  pub form : Model.Clause
  pub listed : Contains members form
  pub renaming : IsRenaming P d form

-- the canonical forms of the clauses with a property were put into the list
pub record HasGained (P : Protocol) (B : Bounds) (space : Space) (Q : Model.Clause → Type 0) (old new : List Clause) : Type 0 where
  pub forms : AreForms P B space new
  pub only : (d : Model.Clause) → Contains (clauses_of space new) d → Contains (clauses_of space old) d ⊎ Q d
  pub keeps : (d : Model.Clause) → Contains (clauses_of space old) d → Contains (clauses_of space new) d
  pub gains : (d : Model.Clause) → IsTemplate P B d → Q d → HasFormAmong P (clauses_of space new) d

-- a clause of the space beside such a list
pub record IsBesideForms (space : Space) (c : Clause) (clauses : List Clause) : Type 0 where
  pub protocol : Protocol
  pub bounds : Bounds
  pub is : IsClauseOf protocol bounds space c
  pub forms : AreForms protocol bounds space clauses

-- the clauses before the place come before this one, and none of the others does
pub record IsPlaceOf (space : Space) (clauses : List Clause) (c : Clause) (place : ℕ) : Type 0 where
  pub before : (k : ℕ) (d : Clause) → k < place → Comes space (slice_index_or clauses k d) c
  pub after : (k : ℕ) (d : Clause) → place ≤ k → k < length clauses → print_order (clause_of space (slice_index_or clauses k d)) (clause_of space c) ≢ Less

-- the clause stands at the place
abbrev pub StandsAt : Space → List Clause → Clause → ℕ → Type 0
StandsAt space clauses c place = (place < length clauses) × (clause_of space (slice_index_or clauses place c) ≡ clause_of space c)
