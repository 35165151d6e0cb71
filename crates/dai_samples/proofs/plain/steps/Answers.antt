use Rattle.std.proofs.Common.{map, rules}
use Rattle.dai_logic.specs.Parts.{sort_of, relation_of}
use Rattle.dai_samples.specs.Samples.{plain, steps}
use Rattle.dai_samples.proofs.Accepted.{accepted_as, steps_accepted}
use Rattle.dai_samples.proofs.plain.steps.Goals as goal

pub plain-requires : goal.plain-requires
plain-requires c = accepted_as (plain (map sort_of c.in_ok-sorts.sorts.items) (map relation_of c.in_ok-relations.relations.items)) steps steps_accepted (search rules)
