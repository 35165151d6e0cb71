use Rattle.std.proofs.Common.{ℕ, List, ◌++◌, map, sym, ◌∙◌, ap}
use Rattle.std.specs.Prelude.{codes}
use Rattle.std.proofs.lemmas.List.{take_all}
use Rattle.dai_model.specs.Clause.{Variable}
use Rattle.dai_model.specs.Report.{variable_text}
use Rattle.dai_model.proofs.Folds.{map-map}
use Rattle.dai_logic.specs.Protocols.{protocol_of}
use Rattle.dai_template.specs.Atoms.{lists_of, variable_of}
use Rattle.dai_print.proofs.Pieces.{guard_of}
use Rattle.dai_print.proofs.guards.add_unequal_to.Goals as goal

pub returns : goal.returns
returns c =
    let P = protocol_of c.args.protocol.now in
    c.loop-other.invariant
    ∙ ap (λ (gs : List (List ℕ)). lists_of c.args.pieces.now.items ++ gs)
    (ap (map (guard_of P (codes " ~= ") c.args.var)) (take_all c.loop-other.other-index c.args.others.now c.loop-other-test.false)
    ∙ sym (map-map (λ (w : Variable). variable_text P (variable_of c.args.var) ++ (codes " ~= " ++ variable_text P w)) variable_of c.args.others.now))
