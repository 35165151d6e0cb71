-- Protocols that have a truth table, and the structures that are its states.
use Rattle.std.specs.Prelude.{◌≡◌, ℕ, zero, suc, ◌*◌, ◌<◌, ◌≤◌, Bool, true, false, not, List, [], ◌∷◌, length, map, slice_index_or, if◌then◌else◌}
use Rattle.std.specs.List.{All, Contains, flat_map}
use Rattle.dai_template.specs.declared.clause.Clause.{Clause}
use Rattle.dai_model.specs.Protocol.{Protocol}
use Rattle.dai_logic.specs.declared.structure.Structure.{Structure}
use Rattle.dai_model.specs.Structure as Model
use Rattle.dai_model.specs.WellSorted.{IsProtocol}
use Rattle.dai_model.specs.Clause.{atom_number, is_negated}
use Rattle.dai_logic.specs.Tables.{structure_with, Fits}

-- it declares no type and at most ten flags
pub record IsTableOf (P : Protocol) : Type 0 where
  pub no_types : P.sorts ≡ []
  pub few_flags : length P.relations ≤ 10

-- a structure of a protocol that declares no type: its relations are flags
pub record IsFlags (P : Protocol) (s : Structure) : Type 0 where
  pub protocol : IsProtocol P
  pub no_types : P.sorts ≡ []
  pub structure : Fits P s

abbrev pub alone : Bool → List Bool
alone b = b ∷ []

-- the state in which the flags have these values
abbrev pub state : Protocol → List Bool → Model.Structure
state P flags = structure_with P [] (map alone flags) []

abbrev pub with_either : List Bool → List (List Bool)
with_either flags = (false ∷ flags) ∷ (true ∷ flags) ∷ []

-- each list of so many truth values
abbrev pub valuations : ℕ → List (List Bool)
valuations zero = [] ∷ []
valuations (suc n) = flat_map with_either (valuations n)

-- the value of a literal, which is twice the flag's number, plus 1 where it is negated
abbrev pub holds_in : List Bool → ℕ → Bool
holds_in flags literal = if is_negated literal then not (slice_index_or flags (atom_number literal) false) else slice_index_or flags (atom_number literal) false

-- the literals of the clause are of the first so many flags
abbrev pub IsWithin : ℕ → Clause → Type 0
IsWithin n c = All (λ l. l < 2 * n) c.lits.items

abbrev pub AreWithin : ℕ → List Clause → Type 0
AreWithin n clauses = (c : Clause) → Contains clauses c → IsWithin n c
