-- the labels so far
use Rattle.std.proofs.Common.{◌≡◌, ◌++◌, take}
use Rattle.std.specs.Prelude.{codes}
use Rattle.std.specs.List.{flat_map}
use Rattle.dai_model.specs.Report.{label_of}
use Rattle.dai_logic.specs.Protocols.{protocol_of}
use Rattle.dai_print.proofs.report.add_labels.Given as goal

abbrev pub invariant-loop-number : goal.invariant-loop-number
invariant-loop-number l = l.text.items ≡ l.initial.text.items ++ flat_map (λ j. codes " " ++ label_of (protocol_of l.protocol) j) (take l.number-index l.missing)
