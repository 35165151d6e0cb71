use Rattle.std.proofs.Common.{◌++◌, ◌∷◌, [], List, false, get_or, ap, sym, ◌∙◌}
use Rattle.dai_circuit.specs.declared.bit.Bit.{Bit}
use Rattle.dai_circuit.specs.declared.bit.Bit.TheVariants.{Known}
use Rattle.dai_ground.specs.declared.candidates.Candidate.{Candidate}
use Rattle.dai_ground.proofs.Terms.{numbered-next}
use Rattle.dai_ground.proofs.candidates.slots_of.Goals as goal

pub loop-slot-preserved : goal.loop-slot-preserved
loop-slot-preserved c =
    let d : Bit = Known false in
    let next : Candidate = record { slot = c.loop-slot.slot; bit = get_or c.args.row.now c.loop-slot.slot d } in
    c.in_ok-push.ensures.items ∙ ap (λ (cs : List Candidate). cs ++ next ∷ []) c.loop-slot.invariant ∙ sym (numbered-next c.args.row.now c.loop-slot.slot d c.loop-slot-test.true)
