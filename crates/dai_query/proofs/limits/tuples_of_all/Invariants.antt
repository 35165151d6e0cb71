-- the tuples so far with those of the rest are all, at most 2^80 for each relation
use Rattle.std.proofs.Common.{◌≡◌, ◌≤◌, ◌+◌, ◌*◌, ◌^◌, ℕ, drop, map}
use Rattle.std.specs.Prelude.{sum_by, max}
use Rattle.dai_model.specs.Limits.{tuples_at}
use Rattle.dai_logic.specs.declared.protocol.RelInfo.{RelInfo}
use Rattle.dai_logic.specs.Parts.{relation_of}
use Rattle.dai_logic.specs.Protocols.{protocol_of}
use Rattle.dai_query.proofs.limits.tuples_of_all.Given as goal

abbrev pub invariant-loop-relation : goal.invariant-loop-relation
invariant-loop-relation l =
    let sizes = map (λ (n : ℕ). max n l.size) l.bounds in
    record {
      whole : l.total + sum_by (λ (r : RelInfo). tuples_at sizes (relation_of r)) (drop l.relation-index l.relation-items) ≡ sum_by (tuples_at sizes) (protocol_of l.protocol).relations;
      fits : l.total ≤ l.relation-index * 2 ^ 80;
    }
