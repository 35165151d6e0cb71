-- the variables of the types so far
use Rattle.std.proofs.Common.{◌≡◌, map}
use Rattle.std.specs.List.{flat_map}
use Rattle.dai_model.specs.Clause.{numbers_below, variables_of}
use Rattle.dai_model.specs.Report.{binder_text}
use Rattle.dai_logic.specs.Protocols.{protocol_of}
use Rattle.dai_template.specs.Atoms.{lists_of}
use Rattle.dai_print.proofs.guards.binders.Given as goal

abbrev pub invariant-loop-sort : goal.invariant-loop-sort
invariant-loop-sort l = lists_of l.pieces.items ≡ flat_map (λ s. map (binder_text (protocol_of l.protocol)) (variables_of l.counts s)) (numbers_below l.sort)
