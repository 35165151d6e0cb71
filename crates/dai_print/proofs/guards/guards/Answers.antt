use Rattle.std.proofs.Common.{refl}
use Rattle.dai_model.specs.Report.{guards_of_sort}
use Rattle.dai_model.proofs.Folds.{appended_number}
use Rattle.dai_logic.specs.Protocols.{protocol_of}
use Rattle.dai_template.specs.Atoms.{lists_of}
use Rattle.dai_print.proofs.guards.guards.Goals as goal

pub loop-sort-preserved : goal.loop-sort-preserved
loop-sort-preserved c =
    appended_number (guards_of_sort (protocol_of c.args.protocol.now) c.args.counts.now) c.loop-sort.sort (lists_of c.loop-sort.pieces.items) (lists_of c.add_guards.new.pieces.items)
    (c.in_ok-add_guards.ensures c.args.counts.now refl)
    c.loop-sort.invariant
