-- the pieces before, and the guards against the others so far
use Rattle.std.proofs.Common.{◌≡◌, ◌++◌, map, take}
use Rattle.std.specs.Prelude.{codes}
use Rattle.dai_logic.specs.Protocols.{protocol_of}
use Rattle.dai_template.specs.Atoms.{lists_of}
use Rattle.dai_print.proofs.Pieces.{guard_of}
use Rattle.dai_print.proofs.guards.add_unequal_to.Given as goal

abbrev pub invariant-loop-other : goal.invariant-loop-other
invariant-loop-other l = lists_of l.pieces.items ≡ lists_of l.initial.pieces.items ++ map (guard_of (protocol_of l.protocol) (codes " ~= ") l.var) (take l.other-index l.others)
