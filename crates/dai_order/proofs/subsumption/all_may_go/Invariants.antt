-- each literal so far may go to one of the others
use Rattle.std.proofs.Common.{◌<◌, ◌/◌, ℕ, map, get_or}
use Rattle.dai_model.specs.Clause.{no_atom}
use Rattle.dai_template.specs.Atoms.{atom_of}
use Rattle.dai_order.specs.Sides.{MayGoInto}
use Rattle.dai_order.proofs.subsumption.all_may_go.Given as goal

abbrev pub invariant-loop-literal : goal.invariant-loop-literal
invariant-loop-literal l = (k : ℕ) → k < l.literal-index → MayGoInto l.sort l.number l.to (map atom_of l.right.atoms.items) l.others (get_or (map atom_of l.left.atoms.items) (get_or l.literals k 0 / 2) no_atom) (get_or l.literals k 0)
