use Rattle.std.proofs.Common.{◌≡◌, map, take}
use Rattle.dai_logic.specs.Protocols.{protocol_of, arguments_in}
use Rattle.dai_logic.specs.Strides.{counts_of, rows_of}
use Rattle.dai_logic.proofs.layout.Layout.of.Given as goal

-- the rows so far are those of the first relations
abbrev pub invariant-loop-relation : goal.invariant-loop-relation
invariant-loop-relation l =
    record {
      sorts : rows_of l.sorts ≡ take l.relation-index (arguments_in (protocol_of l.protocol));
      counts : rows_of l.counts ≡ take l.relation-index (map (counts_of l.sizes) (arguments_in (protocol_of l.protocol)));
    }
