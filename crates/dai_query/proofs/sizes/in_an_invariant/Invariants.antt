-- the greatest so far with the rest is the greatest of all
use Rattle.std.proofs.Common.{◌≡◌, ◌≤◌, drop, map}
use Rattle.std.specs.Prelude.{max}
use Rattle.dai_model.specs.Sizes.{greatest, invariant_count, most_in_an_invariant}
use Rattle.dai_logic.specs.declared.protocol.Invariant.{Invariant}
use Rattle.dai_logic.specs.Parts.{invariant_of}
use Rattle.dai_logic.specs.Protocols.{protocol_of}
use Rattle.dai_query.proofs.sizes.in_an_invariant.Given as goal

abbrev pub invariant-loop-invariant : goal.invariant-loop-invariant
invariant-loop-invariant l = record {
  whole : max l.most (greatest (map (λ (f : Invariant). invariant_count l.sort (invariant_of f)) (drop l.invariant-index l.invariant-items))) ≡ most_in_an_invariant (protocol_of l.protocol) l.sort;
  few : l.most ≤ 12;
}
