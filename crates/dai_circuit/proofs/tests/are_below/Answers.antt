use Rattle.std.proofs.Common.{List, subst}
use Rattle.std.proofs.lemmas.List.{take_all}
use Rattle.std.proofs.lemmas.List.Elements.{All-more}
use Rattle.dai_circuit.specs.declared.bit.Bit.{Bit}
use Rattle.dai_circuit.specs.Circuits.{AreBitsBelow, IsBitBelow}
use Rattle.dai_circuit.proofs.tests.are_below.Goals as goal

pub loop-part-preserved : goal.loop-part-preserved
loop-part-preserved c = All-more (IsBitBelow c.args.count) c.args.parts.now c.loop-part.part-index _ c.loop-part-test.true c.loop-part.invariant (c.is_below.ensures c.if-not-is_below.false)

pub returns : goal.returns
returns c = λ t.
    let P : List Bit → Type 0 = λ parts. AreBitsBelow c.args.count parts in
    subst P (take_all c.loop-part.part-index c.args.parts.now c.loop-part-test.false) c.loop-part.invariant
