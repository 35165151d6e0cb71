use Rattle.std.proofs.Common.{◌++◌, ◌∷◌, [], ap, sym, ◌∙◌}
use Rattle.dai_circuit.proofs.Values.{literals_known, literals_is}
use Rattle.dai_circuit.proofs.parts.literals.Goals as goal

pub loop-part-preserved-in_default : goal.loop-part-preserved-in_default
loop-part-preserved-in_default c = c.loop-part.invariant ∙ sym (literals_known c.args.parts.now c.loop-part.part-index _ c.in_default.field-0 c.loop-part-test.true c.in_default.is)

pub loop-part-preserved : goal.loop-part-preserved
loop-part-preserved c =
    c.in_ok-push.ensures.items
    ∙ ap (λ lits. lits ++ c.in-Is.lit ∷ []) c.loop-part.invariant
    ∙ sym (literals_is c.args.parts.now c.loop-part.part-index _ c.in-Is.lit c.loop-part-test.true c.in-Is.is)
