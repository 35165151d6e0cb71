-- the atom goes to none of those so far
use Rattle.std.proofs.Common.{◌<◌, ◌-◌, ℕ, length, map, get_or}
use Rattle.dai_model.specs.Clause.{no_atom}
use Rattle.dai_template.specs.Atoms.{atom_of}
use Rattle.dai_order.specs.Sides.{AtomMayGo}
use Rattle.dai_order.proofs.variables.place_of_image.Given as goal

abbrev pub invariant-loop-place : goal.invariant-loop-place
invariant-loop-place l = (k : ℕ) → k < l.place → AtomMayGo l.types 0 l.to (atom_of l.atom) (get_or (map atom_of l.shape.atoms.items) k no_atom) → ⊥

abbrev pub decreases-loop-place : goal.decreases-loop-place
decreases-loop-place l = length l.shape.atoms.items - l.place
