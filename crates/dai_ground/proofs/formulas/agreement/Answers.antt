use Rattle.std.proofs.Common.{false}
use Rattle.dai_circuit.specs.declared.bit.Bit.{Bit}
use Rattle.dai_circuit.specs.declared.bit.Bit.TheVariants.{Known}
use Rattle.dai_ground.proofs.Findings.{extends_after, agreement_bit}
use Rattle.dai_ground.proofs.formulas.agreement.Goals as goal

pub loop-part-preserved : goal.loop-part-preserved
loop-part-preserved c =
    let d : Bit = Known false in
    record {
      extends = extends_after c.args.circuit.now c.loop-part.circuit c.same.new.self c.loop-part.invariant.extends c.same.ensures.extends;
      even = agreement_bit c.args.parts.now c.loop-part.part-index d c.loop-part.circuit c.same.new.self c.loop-part.even c.in_ok-even.even c.loop-part-test.true c.loop-part.invariant.even c.same.ensures.extends c.in_ok-even.ensures.answer;
    }
