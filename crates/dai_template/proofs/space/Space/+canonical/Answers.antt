use Rattle.std.proofs.Common.{arith}
use Rattle.dai_template.proofs.Least.{canonical_further, canonical_copy, smaller_written}
use Rattle.dai_template.proofs.space.Space.+canonical.Goals as goal

pub canonical-requires : goal.canonical-requires
canonical-requires t c =
    let smaller = c.in-Some.ensures.smaller c.requires.protocol c.requires.bounds c.requires.is in
    let less = smaller_written c.requires.protocol c.requires.bounds c.args.self.now c.args.clause.now c.in-Some.smaller c.requires.is smaller in (
      let d = c.decreases in omega (arith, d, less),
      record { protocol = c.requires.protocol; bounds = c.requires.bounds; is = smaller.of_the_space },
    )

pub returns-in-Some : goal.returns-in-Some
returns-in-Some t c = λ P B h.
    let smaller = c.in-Some.ensures.smaller P B h in
    canonical_further P B c.args.self.now c.args.clause.now c.in-Some.smaller c.canonical.result h smaller (c.canonical.ensures P B smaller.of_the_space)

pub returns-in-None : goal.returns-in-None
returns-in-None t c = λ P B h.
    canonical_copy P B c.args.self.now c.args.clause.now c.copy.result h c.copy.ensures.shape c.copy.ensures.literals (c.smaller.ensures.least P B h c.in-None.is)
