use Rattle.std.proofs.Common.{rules}
use Rattle.dai_logic.specs.Parts.{protocol_of_parts}
use Rattle.dai_picture.proofs.Sampled.{accepted_as}
use Rattle.dai_picture.proofs.tests.pairs.Goals as goal

pub invariant_of-result : goal.invariant_of-result
invariant_of-result c = record {
  accepted = accepted_as (protocol_of_parts c.in_ok-sorts.sorts.items c.in_ok-relations.relations.items c.in_ok-individuals.individuals.items c.new.result.items (record { params = c.new-2.result; locals = c.new-3.result; code = c.new-4.result }) c.new-5.result.items c.new-6.result.items) (search rules);
}
