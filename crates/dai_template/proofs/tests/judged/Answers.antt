use Rattle.dai_template.specs.Links.{links}
use Rattle.dai_template.proofs.tests.judged.Goals as goal

pub meets-requires : goal.meets-requires
meets-requires c = record { protocol = links; bounds = c.in_ok-clause.ensures.bounds; is = c.in_ok-clause.ensures.is; fits = c.requires.state.fit }
