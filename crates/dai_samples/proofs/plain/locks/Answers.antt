use Rattle.std.proofs.Common.{map, rules}
use Rattle.dai_logic.specs.Parts.{sort_of, relation_of}
use Rattle.dai_samples.specs.Samples.{plain, locks}
use Rattle.dai_samples.proofs.Accepted.{accepted_as, locks_accepted}
use Rattle.dai_samples.proofs.plain.locks.Goals as goal

pub plain-requires : goal.plain-requires
plain-requires c = accepted_as (plain (map sort_of c.in_ok-sorts.sorts.items) (map relation_of c.in_ok-vec.field-0.items)) locks locks_accepted (search rules)
