-- the elements so far with those of the rest are all, fewer than 2^16 for each individual
use Rattle.std.proofs.Common.{◌≡◌, ◌≤◌, ◌+◌, ◌*◌, ◌^◌, ℕ, drop, map}
use Rattle.std.specs.Prelude.{sum_by, max, slice_index}
use Rattle.dai_model.specs.Protocol as Model
use Rattle.dai_logic.specs.declared.protocol.IndInfo.{IndInfo}
use Rattle.dai_logic.specs.Protocols.{protocol_of}
use Rattle.dai_query.proofs.limits.elements_of_all.Given as goal

abbrev pub invariant-loop-individual : goal.invariant-loop-individual
invariant-loop-individual l =
    let sizes = map (λ (n : ℕ). max n l.size) l.bounds in
    record {
      whole : l.total + sum_by (λ (x : IndInfo). slice_index sizes x.sort) (drop l.individual-index l.individual-items) ≡ sum_by (λ (I : Model.Individual). slice_index sizes I.sort) (protocol_of l.protocol).individuals;
      fits : l.total ≤ l.individual-index * 2 ^ 16;
    }
