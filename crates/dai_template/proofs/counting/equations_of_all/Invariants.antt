-- the equations so far with those of the rest are all, fewer than 2^8 for each individual
use Rattle.std.proofs.Common.{◌≡◌, ◌≤◌, ◌+◌, ◌*◌, ◌^◌, drop}
use Rattle.std.specs.Prelude.{sum_by, slice_index}
use Rattle.dai_model.specs.Protocol as Model
use Rattle.dai_logic.specs.declared.protocol.IndInfo.{IndInfo}
use Rattle.dai_logic.specs.Protocols.{protocol_of}
use Rattle.dai_template.proofs.counting.equations_of_all.Given as goal

abbrev pub invariant-loop-individual : goal.invariant-loop-individual
invariant-loop-individual l = record {
  whole : l.total + sum_by (λ (x : IndInfo). slice_index l.counts x.sort) (drop l.individual-index l.individual-items) ≡ sum_by (λ (I : Model.Individual). slice_index l.counts I.sort) (protocol_of l.protocol).individuals;
  fits : l.total ≤ l.individual-index * 2 ^ 8;
}
