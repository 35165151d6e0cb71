-- the image is that of no atom so far
use Rattle.std.proofs.Common.{◌<◌, ℕ, map, get_or}
use Rattle.dai_model.specs.Clause.{no_atom}
use Rattle.dai_template.specs.Atoms.{atom_of}
use Rattle.dai_order.specs.Sides.{AtomMayGo}
use Rattle.dai_order.proofs.parts.preimage.Given as goal

abbrev pub invariant-loop-place : goal.invariant-loop-place
invariant-loop-place l = (k : ℕ) → k < l.place → AtomMayGo l.types 0 l.to (get_or (map atom_of l.from.atoms.items) k no_atom) (atom_of l.image) → ⊥
