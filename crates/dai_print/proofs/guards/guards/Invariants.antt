-- the guards of the types so far
use Rattle.std.proofs.Common.{◌≡◌}
use Rattle.std.specs.List.{flat_map}
use Rattle.dai_model.specs.Clause.{numbers_below}
use Rattle.dai_model.specs.Report.{guards_of_sort}
use Rattle.dai_logic.specs.Protocols.{protocol_of}
use Rattle.dai_template.specs.Atoms.{lists_of}
use Rattle.dai_print.proofs.guards.guards.Given as goal

abbrev pub invariant-loop-sort : goal.invariant-loop-sort
invariant-loop-sort l = lists_of l.pieces.items ≡ flat_map (guards_of_sort (protocol_of l.protocol) l.counts) (numbers_below l.sort)
