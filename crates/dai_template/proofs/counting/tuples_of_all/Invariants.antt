-- the tuples so far with those of the rest are all, at most 2^40 for each relation
use Rattle.std.proofs.Common.{◌≡◌, ◌≤◌, ◌+◌, ◌*◌, ◌^◌, drop}
use Rattle.std.specs.Prelude.{sum_by}
use Rattle.dai_model.specs.Limits.{tuples_at}
use Rattle.dai_logic.specs.declared.protocol.RelInfo.{RelInfo}
use Rattle.dai_logic.specs.Parts.{relation_of}
use Rattle.dai_logic.specs.Protocols.{protocol_of}
use Rattle.dai_template.proofs.counting.tuples_of_all.Given as goal

abbrev pub invariant-loop-relation : goal.invariant-loop-relation
invariant-loop-relation l = record {
  whole : l.total + sum_by (λ (r : RelInfo). tuples_at l.counts (relation_of r)) (drop l.relation-index l.relation-items) ≡ sum_by (tuples_at l.counts) (protocol_of l.protocol).relations;
  fits : l.total ≤ l.relation-index * 2 ^ 40;
}
