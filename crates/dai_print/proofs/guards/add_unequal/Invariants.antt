-- the guards so far and those of the rest are all
use Rattle.std.proofs.Common.{◌≡◌, ◌++◌, drop}
use Rattle.dai_logic.specs.Protocols.{protocol_of}
use Rattle.dai_template.specs.Atoms.{lists_of}
use Rattle.dai_print.proofs.Pieces.{unequal_from}
use Rattle.dai_print.proofs.guards.add_unequal.Given as goal

abbrev pub invariant-loop-first : goal.invariant-loop-first
invariant-loop-first l = lists_of l.pieces.items ++ unequal_from (protocol_of l.protocol) (drop l.first l.vars) ≡ lists_of l.initial.pieces.items ++ unequal_from (protocol_of l.protocol) l.vars
