use Rattle.std.proofs.Common.{map, rules}
use Rattle.dai_logic.specs.Parts.{sort_of, relation_of}
use Rattle.dai_model.specs.Triples.{triples}
use Rattle.dai_model.proofs.Triples.{triples_accepted}
use Rattle.dai_samples.specs.Samples.{plain}
use Rattle.dai_samples.proofs.Accepted.{accepted_as}
use Rattle.dai_samples.proofs.plain.triples.Goals as goal

pub plain-requires : goal.plain-requires
plain-requires c = accepted_as (plain (map sort_of c.in_ok-sorts.sorts.items) (map relation_of c.in_ok-relations.relations.items)) triples triples_accepted (search rules)
