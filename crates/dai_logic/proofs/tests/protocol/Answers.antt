use Rattle.std.proofs.Common.{rules}
use Rattle.dai_logic.specs.Parts.{protocol_of_parts}
use Rattle.dai_logic.proofs.Samples.{accepted_as}
use Rattle.dai_logic.proofs.tests.protocol.Goals as goal

pub invariant_of-result : goal.invariant_of-result
invariant_of-result c = record {
  accepted = accepted_as (protocol_of_parts c.in_ok-sorts.sorts.items c.in_ok-relations.relations.items c.in_ok-individuals.individuals.items c.new.result.items c.in_ok-init.init c.in_ok-actions.actions.items c.new-2.result.items) (search rules);
}
