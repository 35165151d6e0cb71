use Rattle.std.proofs.Common.{◌≡◌, map, take}
use Rattle.dai_model.specs.Protocol.{Individual}
use Rattle.dai_logic.specs.Protocols.{protocol_of}
use Rattle.dai_picture.proofs.lengths.individual_sorts.Given as goal

abbrev pub invariant-loop-individual : goal.invariant-loop-individual
invariant-loop-individual l = l.sorts.items ≡ take l.individual-index (map (λ (I : Individual). I.sort) (protocol_of l.protocol).individuals)
