use Rattle.std.proofs.Common.{◌≡◌, map, take}
use Rattle.dai_logic.specs.Counts.{tuple_count}
use Rattle.dai_logic.specs.Protocols.{protocol_of, arguments_in}
use Rattle.dai_picture.proofs.lengths.tables.Given as goal

abbrev pub invariant-loop-relation : goal.invariant-loop-relation
invariant-loop-relation l = l.lengths.items ≡ take l.relation-index (map (tuple_count l.slots) (arguments_in (protocol_of l.protocol)))
