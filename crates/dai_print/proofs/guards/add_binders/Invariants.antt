-- the pieces before, and the variables with smaller numbers
use Rattle.std.proofs.Common.{◌≡◌, ◌++◌, map}
use Rattle.dai_model.specs.Clause.{numbers_below}
use Rattle.dai_model.specs.Report.{binder_text}
use Rattle.dai_logic.specs.Protocols.{protocol_of}
use Rattle.dai_template.specs.Atoms.{variable_of, lists_of}
use Rattle.dai_print.proofs.guards.add_binders.Given as goal

abbrev pub invariant-loop-number : goal.invariant-loop-number
invariant-loop-number l = lists_of l.pieces.items ≡ lists_of l.initial.pieces.items ++ map (λ n. binder_text (protocol_of l.protocol) (variable_of (l.sort, n))) (numbers_below l.number)
