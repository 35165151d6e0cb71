use Rattle.std.proofs.Common.{rules}
use Rattle.dai_logic.specs.Parts.{protocol_of_parts}
use Rattle.dai_order.proofs.Sampled.{locks_as}
use Rattle.dai_order.proofs.tests.lock.Goals as goal

pub invariant_of-result : goal.invariant_of-result
invariant_of-result c = record {
  accepted = locks_as (protocol_of_parts c.in_ok-sorts.sorts.items c.in_ok-relations.relations.items c.new-4.result.items c.new-5.result.items (record { params = c.new.result; locals = c.new-2.result; code = c.new-3.result }) c.new-6.result.items c.new-7.result.items) (search rules);
}
