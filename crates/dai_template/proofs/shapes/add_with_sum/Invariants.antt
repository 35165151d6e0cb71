-- the shapes before, and those with this sum so far
use Rattle.std.proofs.Common.{◌≡◌, ◌++◌, map, take}
use Rattle.std.specs.List.{All}
use Rattle.dai_model.specs.Shapes.{with_sum}
use Rattle.dai_logic.specs.Protocols.{protocol_of}
use Rattle.dai_template.specs.Atoms.{counts_of, lists_of, IsShape}
use Rattle.dai_template.proofs.shapes.add_with_sum.Given as goal

abbrev pub invariant-loop-counts : goal.invariant-loop-counts
invariant-loop-counts l = record {
  order : map counts_of l.shapes.items ≡ map counts_of l.initial.shapes.items ++ with_sum (take l.counts-index (lists_of l.ways)) l.variables;
  atoms : All (IsShape (protocol_of l.protocol)) l.initial.shapes.items → All (IsShape (protocol_of l.protocol)) l.shapes.items;
}
