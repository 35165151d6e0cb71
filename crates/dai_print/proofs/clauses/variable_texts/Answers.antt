use Rattle.std.proofs.Common.{map, sym, ◌∙◌, ap}
use Rattle.std.proofs.lemmas.List.{take_all}
use Rattle.dai_model.specs.Report.{variable_text}
use Rattle.dai_model.proofs.Folds.{map-map}
use Rattle.dai_logic.specs.Protocols.{protocol_of}
use Rattle.dai_template.specs.Atoms.{variable_of}
use Rattle.dai_print.proofs.clauses.variable_texts.Goals as goal

pub returns : goal.returns
returns c =
    let P = protocol_of c.args.protocol.now in
    c.loop-var.invariant
    ∙ (ap (map (λ v. variable_text P (variable_of v))) (take_all c.loop-var.var-index c.args.vars.now c.loop-var-test.false)
    ∙ sym (map-map (variable_text P) variable_of c.args.vars.now))
