-- the guards so far and those of the rest are all
use Rattle.std.proofs.Common.{◌≡◌, ◌++◌, ◌-◌, drop}
use Rattle.dai_logic.specs.Protocols.{protocol_of}
use Rattle.dai_template.specs.Atoms.{lists_of}
use Rattle.dai_print.proofs.Pieces.{increasing_from}
use Rattle.dai_print.proofs.guards.add_increasing.Given as goal

abbrev pub invariant-loop-next : goal.invariant-loop-next
invariant-loop-next l = lists_of l.pieces.items ++ increasing_from (protocol_of l.protocol) (drop (l.next - 1) l.vars) ≡ lists_of l.initial.pieces.items ++ increasing_from (protocol_of l.protocol) l.vars
