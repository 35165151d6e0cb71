use Rattle.std.proofs.Common.{rules}
use Rattle.dai_logic.specs.Parts.{protocol_of_parts}
use Rattle.dai_order.proofs.Sampled.{flags_as}
use Rattle.dai_order.proofs.tests.flags.Goals as goal

pub invariant_of-result : goal.invariant_of-result
invariant_of-result c = record {
  accepted = flags_as (protocol_of_parts c.new-6.result.items c.in_ok-relations.relations.items c.new-7.result.items c.new-8.result.items (record { params = c.new-3.result; locals = c.new-4.result; code = c.new-5.result }) c.new-9.result.items c.new-10.result.items) (search rules);
}
