-- Clauses with one variable more: the larger shape, and the literals over it.
use Rattle.std.specs.Prelude.{◌≡◌, ℕ, ◌+◌, ◌*◌, ◌/◌, ◌%◌, ◌<◌, ◌≤◌, ◌^◌, List, [], length, map, slice_index, slice_index_or, slice_set}
use Rattle.std.specs.List.{All}
use Rattle.dai_model.specs.Protocol.{Protocol}
use Rattle.dai_model.specs.Clause.{Atom, no_atom}
use Rattle.dai_model.specs.Template.{Bounds}
use Rattle.dai_template.specs.declared.clause.Clause.{Clause}
use Rattle.dai_template.specs.declared.clause.Shape.{Shape}
use Rattle.dai_template.specs.declared.space.Space.{Space}
use Rattle.dai_template.specs.Atoms.{atom_of, counts_of}
use Rattle.dai_template.specs.Spaces.{IsClauseOf}
use Rattle.dai_template.specs.Renamings.{put_all_in_order}
use Rattle.dai_order.specs.Forms.{AreForms}
use Rattle.dai_order.specs.Sides.{AreStored, AtomMayGo}

abbrev pub counts_at : Space → ℕ → List ℕ
counts_at space shape = slice_index_or (map counts_of space.shapes.items) shape []

abbrev pub with_one_more : List ℕ → ℕ → List ℕ
with_one_more counts sort = slice_set counts sort (slice_index counts sort + 1)

-- few shapes, and few variables of each type, of which this is one
pub record AreFewCounts (space : Space) (sort shape : ℕ) : Type 0 where
  pub few_shapes : length space.shapes.items < 2 ^ 32
  pub inside : sort < length (counts_at space shape)
  pub few : All (λ n. n ≤ 4) (counts_at space shape)

-- a clause of the space beside a list of canonical clauses, and one of the types
pub record IsBesideFormsAt (space : Space) (c : Clause) (sort : ℕ) (clauses : List Clause) : Type 0 where
  pub protocol : Protocol
  pub bounds : Bounds
  pub is : IsClauseOf protocol bounds space c
  pub forms : AreForms protocol bounds space clauses
  pub known : sort < length protocol.sorts

-- the atom at the place is the image of this one under the new numbers
pub record IsImageAt (types : ℕ) (to : List ℕ) (atoms : List Atom) (a : Atom) (place : ℕ) : Type 0 where
  pub below : place < length atoms
  pub is : AtomMayGo types 0 to a (slice_index_or atoms place no_atom)

abbrev pub IsPlacedAmong : ℕ → List ℕ → List Atom → Atom → Type 0
IsPlacedAmong types to atoms a = (place : ℕ) × IsImageAt types to atoms a place

-- the literal goes to the other
pub record IsMovedTo (types : ℕ) (to : List ℕ) (from into : List Atom) (literal other : ℕ) : Type 0 where
  pub image : IsImageAt types to into (slice_index_or from (literal / 2) no_atom) (other / 2)
  pub sign : other % 2 ≡ literal % 2

-- each of the literals goes to one of the numbers, which are put in order
pub record AreMovedTo (types : ℕ) (to : List ℕ) (from into : List Atom) (literals others : List ℕ) : Type 0 where
  pub numbers : List ℕ
  pub as_many : length numbers ≡ length literals
  pub each : (k : ℕ) → k < length literals → IsMovedTo types to from into (slice_index literals k) (slice_index numbers k)
  pub ordered : others ≡ put_all_in_order numbers []

abbrev pub atoms_at : Space → ℕ → List Atom
atoms_at space shape = map atom_of (slice_index_or (map (λ (s : Shape). s.atoms.items) space.shapes.items) shape [])

abbrev pub AreMoved : Space → Clause → ℕ → List ℕ → List ℕ → Type 0
AreMoved space c larger to others = AreMovedTo (length (counts_at space c.shape)) to (atoms_at space c.shape) (atoms_at space larger) c.lits.items others

-- a clause with few literals over stored atoms, each of which has its image in the larger shape
pub record IsMovable (space : Space) (c : Clause) (larger : ℕ) (to : List ℕ) : Type 0 where
  pub shape : c.shape < length space.shapes.items
  pub larger_inside : larger < length space.shapes.items
  pub long : length to ≡ 32
  pub few_types : length (counts_at space c.shape) ≤ 8
  pub few_literals : length c.lits.items ≤ 8
  pub few_atoms : length (atoms_at space larger) ≤ 64
  pub stored : All AreStored (atoms_at space c.shape)
  pub literals : All (λ l. l < 2 * length (atoms_at space c.shape)) c.lits.items
  pub images : (k : ℕ) → k < length c.lits.items → IsPlacedAmong (length (counts_at space c.shape)) to (atoms_at space larger) (slice_index_or (atoms_at space c.shape) (slice_index c.lits.items k / 2) no_atom)
