-- the literal may go to none of the others so far
use Rattle.std.proofs.Common.{◌≡◌, ◌<◌, ◌/◌, ◌%◌, ℕ, map, get_or}
use Rattle.dai_model.specs.Clause.{no_atom}
use Rattle.dai_template.specs.Atoms.{atom_of}
use Rattle.dai_order.specs.Sides.{AtomMayGo}
use Rattle.dai_order.proofs.subsumption.may_go_into.Given as goal

abbrev pub invariant-loop-other : goal.invariant-loop-other
invariant-loop-other l = (k : ℕ) → k < l.other-index → l.literal % 2 ≡ get_or l.others k 0 % 2 → AtomMayGo l.sort l.number l.to (atom_of l.atom) (get_or (map atom_of l.right.atoms.items) (get_or l.others k 0 / 2) no_atom) → ⊥
