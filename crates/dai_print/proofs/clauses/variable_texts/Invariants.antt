-- the texts of the variables so far
use Rattle.std.proofs.Common.{◌≡◌, map, take}
use Rattle.dai_model.specs.Report.{variable_text}
use Rattle.dai_logic.specs.Protocols.{protocol_of}
use Rattle.dai_template.specs.Atoms.{lists_of, variable_of}
use Rattle.dai_print.proofs.clauses.variable_texts.Given as goal

abbrev pub invariant-loop-var : goal.invariant-loop-var
invariant-loop-var l = lists_of l.pieces.items ≡ map (λ v. variable_text (protocol_of l.protocol) (variable_of v)) (take l.var-index l.vars)
