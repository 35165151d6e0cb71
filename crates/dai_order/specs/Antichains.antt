-- What a list of clauses stands for, and antichains: lists of canonical clauses none of which is below another.
use Rattle.std.specs.Prelude.{◌≡◌, ℕ, List, [], slice_index_or, ◌⊎◌}
use Rattle.std.specs.List.{Contains}
use Rattle.dai_model.specs.Protocol.{Protocol}
use Rattle.dai_model.specs.Clause as Model
use Rattle.dai_model.specs.Template.{Bounds, IsTemplate}
use Rattle.dai_model.specs.Subsumption.{Subsumes, IsRenaming}
use Rattle.dai_model.proofs.Below.{Each}
use Rattle.dai_model.proofs.Order.{Rising}
use Rattle.dai_template.specs.declared.clause.Clause.{Clause}
use Rattle.dai_template.specs.declared.space.Space.{Space}
use Rattle.dai_template.specs.Spaces.{IsSpaceOf, IsClauseOf}
use Rattle.dai_template.specs.Lists.{clauses_of}
use Rattle.dai_order.specs.Forms.{AreForms, HasFormAmong}

-- the clauses stand for a clause above one of them
pub record StandsFor (P : Protocol) (clauses : List Model.Clause) (d : Model.Clause) : Type 0 where
  pub member : Model.Clause
  pub listed : Contains clauses member
  pub below : Subsumes P member d

-- canonical clauses of the space in print order, none below another
pub record IsAntichain (P : Protocol) (B : Bounds) (space : Space) (clauses : List Clause) : Type 0 where
  pub space_of : IsSpaceOf P B space
  pub forms : AreForms P B space clauses
  pub apart : (c d : Model.Clause) → Contains (clauses_of space clauses) c → Contains (clauses_of space clauses) d → Subsumes P c d → c ≡ d

-- the same of some protocol and bounds
pub record IsAntichainOf (space : Space) (clauses : List Clause) : Type 0 where
  pub protocol : Protocol
  pub bounds : Bounds
  pub is : IsAntichain protocol bounds space clauses

-- clauses of a space
pub record AreClauses (P : Protocol) (B : Bounds) (space : Space) (clauses : List Clause) : Type 0 where
  pub space_of : IsSpaceOf P B space
  pub each : Each (IsClauseOf P B space) clauses

pub record AreClausesOf (space : Space) (clauses : List Clause) : Type 0 where
  pub protocol : Protocol
  pub bounds : Bounds
  pub are : AreClauses protocol bounds space clauses

-- they stand for the same templates
pub record StandForSame (P : Protocol) (B : Bounds) (clauses others : List Model.Clause) : Type 0 where
  pub wide : (d : Model.Clause) → IsTemplate P B d → StandsFor P clauses d → StandsFor P others d
  pub narrow : (d : Model.Clause) → IsTemplate P B d → StandsFor P others d → StandsFor P clauses d

-- the new ones stand for what the old ones do, but for the renamings of a clause
pub record StandForOthers (P : Protocol) (B : Bounds) (old : List Model.Clause) (gone : Model.Clause) (new : List Model.Clause) : Type 0 where
  pub from_old : (d : Model.Clause) → IsTemplate P B d → StandsFor P new d → StandsFor P old d
  pub not_gone : (d : Model.Clause) → IsTemplate P B d → StandsFor P new d → IsRenaming P gone d → ⊥
  pub all_others : (d : Model.Clause) → IsTemplate P B d → StandsFor P old d → (IsRenaming P gone d → ⊥) → StandsFor P new d

-- the clause's canonical form has come into the list, if no member was below it
pub record HasEntered (P : Protocol) (B : Bounds) (space : Space) (c : Model.Clause) (old new : List Clause) : Type 0 where
  pub forms : AreForms P B space new
  pub only : (d : Model.Clause) → Contains (clauses_of space new) d → Contains (clauses_of space old) d ⊎ (IsRenaming P c d × (StandsFor P (clauses_of space old) c → ⊥))
  pub keeps : (d : Model.Clause) → Contains (clauses_of space old) d → Contains (clauses_of space new) d
  pub stands : StandsFor P (clauses_of space new) c

-- none is below another
abbrev pub AreUnrelated : Protocol → List Model.Clause → Type 0
AreUnrelated P clauses = (c d : Model.Clause) → Contains clauses c → Contains clauses d → Subsumes P c d → c ≡ d

-- none of the first is below one of the second, but for renamings of it
abbrev pub AreBelowNone : Protocol → List Model.Clause → List Model.Clause → Type 0
AreBelowNone P clauses others = (c d : Model.Clause) → Contains clauses c → Contains others d → Subsumes P c d → Subsumes P d c

-- none is below one that comes earlier, but for renamings of it
abbrev pub AreInTurn : Protocol → List Model.Clause → Type 0
AreInTurn P clauses = Rising (λ c d. Subsumes P d c → Subsumes P c d) clauses

pub record IsRenamingOfOne (P : Protocol) (clauses : List Model.Clause) (d : Model.Clause) : Type 0 where
  pub clause : Model.Clause
  pub listed : Contains clauses clause
  pub renaming : IsRenaming P clause d

-- the canonical forms of the clauses came into the list one by one
pub record HaveEntered (P : Protocol) (B : Bounds) (space : Space) (clauses old new : List Clause) : Type 0 where
  pub forms : AreForms P B space new
  pub only : (d : Model.Clause) → Contains (clauses_of space new) d → Contains (clauses_of space old) d ⊎ IsRenamingOfOne P (clauses_of space clauses) d
  pub keeps : (d : Model.Clause) → Contains (clauses_of space old) d → Contains (clauses_of space new) d
  pub stands : (c : Model.Clause) → Contains (clauses_of space clauses) c → StandsFor P (clauses_of space new) c
  pub unrelated : AreUnrelated P (clauses_of space old) → AreBelowNone P (clauses_of space clauses) (clauses_of space old) → AreInTurn P (clauses_of space clauses) → AreUnrelated P (clauses_of space new)

-- clauses of a space beside a list of canonical clauses
pub record AreBesideForms (space : Space) (clauses members : List Clause) : Type 0 where
  pub protocol : Protocol
  pub bounds : Bounds
  pub each : Each (IsClauseOf protocol bounds space) clauses
  pub forms : AreForms protocol bounds space members

-- the canonical forms of the clauses, each once and in print order
pub record AreFormsOf (P : Protocol) (B : Bounds) (space : Space) (clauses forms : List Clause) : Type 0 where
  pub are : AreForms P B space forms
  pub only : (d : Model.Clause) → Contains (clauses_of space forms) d → IsRenamingOfOne P (clauses_of space clauses) d
  pub each : (c : Model.Clause) → Contains (clauses_of space clauses) c → HasFormAmong P (clauses_of space forms) c

abbrev pub no_clause : Model.Clause
no_clause = record { counts = []; literals = [] }

abbrev pub member_at : Space → List Clause → ℕ → Model.Clause
member_at space clauses place = slice_index_or (clauses_of space clauses) place no_clause
