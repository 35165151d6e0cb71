use Rattle.std.proofs.Common.{◌<◌, subst}
use Rattle.dai_words.specs.Bounds.{bound_in}
use Rattle.dai_words.proofs.Parts.{not_small, from_none}
use Rattle.dai_words.proofs.bounds.values.Goals as goal

pub returns-in-None : goal.returns-in-None
returns-in-None c =
    let large = from_none c.in_ok-bound.field-0 _ _ c.in_ok-bound.ensures c.in-None.is in
    not_small c.args.parts.now c.loop-part.part-index c.part-item.result c.loop-part-test.true c.part-item.is (subst (λ p. 4 < (bound_in p).1) c.as_bytes.ensures large)
