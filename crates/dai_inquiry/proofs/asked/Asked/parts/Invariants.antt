use Rattle.std.proofs.Common.{◌≡◌, ◌∷◌, map, take}
use Rattle.dai_circuit.specs.Circuits.{negation_of}
use Rattle.dai_inquiry.specs.declared.truths.Pick.{Pick}
use Rattle.dai_inquiry.proofs.asked.Asked.parts.Given as goal

abbrev pub invariant-loop-pick : goal.invariant-loop-pick
invariant-loop-pick l = l.parts.items ≡ negation_of l.self.goal ∷ map (λ (pick : Pick). pick.bit) (take l.pick-index l.self.premises.items)
