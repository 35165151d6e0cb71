use Rattle.std.proofs.Common.{rules}
use Rattle.dai_logic.specs.Parts.{protocol_of_parts}
use Rattle.dai_model.specs.TwoFlags.{two_flags}
use Rattle.dai_samples.proofs.Accepted.{merely_accepted, flags_accepted}
use Rattle.dai_samples.proofs.flags.two_flags.Goals as goal

pub invariant_of-result : goal.invariant_of-result
invariant_of-result c = record {
  accepted = merely_accepted (protocol_of_parts c.new.result.items c.in_ok-relations.relations.items c.new-2.result.items c.new-3.result.items c.in_ok-init.init c.in_ok-actions.actions.items c.in_ok-invariants.invariants.items) two_flags flags_accepted (search rules);
}
