-- the literals so far have preimages
use Rattle.std.proofs.Common.{map, take}
use Rattle.dai_template.specs.Atoms.{atom_of}
use Rattle.dai_order.specs.Parts.{ArePreimages}
use Rattle.dai_order.proofs.parts.preimages.Given as goal

abbrev pub invariant-loop-literal : goal.invariant-loop-literal
invariant-loop-literal l = ArePreimages l.types l.to (map atom_of l.from.atoms.items) (map atom_of l.into.atoms.items) (take l.literal-index l.literals) l.found.items
