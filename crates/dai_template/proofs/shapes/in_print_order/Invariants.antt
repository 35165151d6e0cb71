-- the shapes with fewer variables
use Rattle.std.proofs.Common.{◌≡◌, map}
use Rattle.std.specs.List.{All, flat_map}
use Rattle.dai_model.specs.Clause.{numbers_below}
use Rattle.dai_model.specs.Shapes.{with_sum}
use Rattle.dai_logic.specs.Protocols.{protocol_of}
use Rattle.dai_template.specs.Atoms.{counts_of, lists_of, IsShape}
use Rattle.dai_template.proofs.shapes.in_print_order.Given as goal

abbrev pub invariant-loop-variables : goal.invariant-loop-variables
invariant-loop-variables l = record {
  order : map counts_of l.shapes.items ≡ flat_map (with_sum (lists_of l.ways)) (numbers_below l.variables);
  atoms : All (IsShape (protocol_of l.protocol)) l.shapes.items;
}
