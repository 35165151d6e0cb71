-- Clauses with one literal or one variable more.
use Rattle.std.specs.Prelude.{◌≡◌, ◌≢◌, ℕ, ◌/◌, ◌<◌, List, length, slice_index}
use Rattle.dai_model.specs.Protocol.{Protocol}
use Rattle.dai_model.specs.Clause as Model
use Rattle.dai_model.specs.Clause.{atoms_of}
use Rattle.dai_model.specs.Template.{Bounds}
use Rattle.dai_model.specs.Subsumption.{IsRenaming}
use Rattle.dai_model.specs.Weakening.{IsImmediateWeakening}
use Rattle.dai_template.specs.declared.clause.Clause.{Clause}
use Rattle.dai_template.specs.declared.space.Space.{Space}
use Rattle.dai_template.specs.Spaces.{IsClauseOf, clause_of}
use Rattle.dai_template.specs.Renamings.{put_in_order}
use Rattle.dai_order.specs.Forms.{AreForms}

-- the clause with this literal, in order
abbrev pub with_literal : Model.Clause → ℕ → Model.Clause
with_literal c literal = record { counts = c.counts; literals = put_in_order literal c.literals }

-- none of the literals is over the atom
abbrev pub IsNewAtom : List ℕ → ℕ → Type 0
IsNewAtom literals atom = (k : ℕ) → k < length literals → slice_index literals k / 2 ≢ atom

-- a renaming of the clause with one literal more, over this new atom
pub record HasLiteralOver (P : Protocol) (c : Model.Clause) (atom : ℕ) (d : Model.Clause) : Type 0 where
  pub literal : ℕ
  pub over : literal / 2 ≡ atom
  pub is_new : IsNewAtom c.literals atom
  pub renaming : IsRenaming P (with_literal c literal) d

-- the same over one of the atoms below a number
pub record HasLiteralBelow (P : Protocol) (c : Model.Clause) (atoms : ℕ) (d : Model.Clause) : Type 0 where
  pub atom : ℕ
  pub below : atom < atoms
  pub has : HasLiteralOver P c atom d

-- an immediate weakening with a literal more
pub record IsWeakerByLiteral (P : Protocol) (B : Bounds) (c d : Model.Clause) : Type 0 where
  pub weakening : IsImmediateWeakening P B c d
  pub more : length c.literals < length d.literals

-- an immediate weakening with a variable more of a type
pub record IsWeakerByVariable (P : Protocol) (B : Bounds) (c : Model.Clause) (sort : ℕ) (d : Model.Clause) : Type 0 where
  pub weakening : IsImmediateWeakening P B c d
  pub more : slice_index c.counts sort < slice_index d.counts sort

-- a clause of the space with room for a literal over an atom of its shape, beside a list of canonical clauses
pub record HasRoomFor (space : Space) (c : Clause) (atom : ℕ) (clauses : List Clause) : Type 0 where
  pub protocol : Protocol
  pub bounds : Bounds
  pub is : IsClauseOf protocol bounds space c
  pub forms : AreForms protocol bounds space clauses
  pub room : length c.lits.items < bounds.literals
  pub inside : atom < length (atoms_of protocol (clause_of space c).counts)
