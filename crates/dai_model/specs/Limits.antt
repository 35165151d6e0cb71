-- The numbers that are held against the limits, besides that of the templates.
use Rattle.std.specs.Prelude.{ℕ, ◌+◌, ◌*◌, ◌^◌, List, [], ◌∷◌, map, length, max, sum_by, slice_index}
use Rattle.dai_model.specs.Protocol.{Protocol, Relation, Individual, Action}
use Rattle.dai_model.specs.Clause.{atoms_of}
use Rattle.dai_model.specs.Template.{Bounds}
use Rattle.dai_model.specs.Sizes.{size_bounds}

-- the atoms of the largest shape
abbrev pub atom_count : Protocol → Bounds → ℕ
atom_count P B = length (atoms_of P B.variables)

abbrev pub product : List ℕ → ℕ
product [] = 1
product (n ∷ ns) = n * product ns

-- how many tuples a relation may have at these sizes
abbrev pub tuples_at : List ℕ → Relation → ℕ
tuples_at sizes R = product (map (slice_index sizes) R.arguments)

-- the tuples of all relations, and for each individual the elements of its type
abbrev pub ground_count : Protocol → List ℕ → ℕ
ground_count P sizes = sum_by (tuples_at sizes) P.relations + sum_by (λ (I : Individual). slice_index sizes I.sort) P.individuals

-- at the sizes that the questions need, or at this size where it is greater
abbrev pub ground_atoms : Protocol → List ℕ → ℕ → ℕ
ground_atoms P variables size = ground_count P (map (λ n. max n size) (size_bounds P variables))

abbrev pub moves_of : ℕ → Action → ℕ
moves_of size a = size ^ (length a.block.parameters + length a.block.choices)

-- the moves where each type has this size
abbrev pub move_count : Protocol → ℕ → ℕ
move_count P size = sum_by (moves_of size) P.actions
