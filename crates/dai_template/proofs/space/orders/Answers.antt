use Rattle.std.proofs.Common.{◌∙◌}
use Rattle.dai_model.specs.Protocol.{Sort}
use Rattle.dai_logic.specs.Parts.{sort_of}
use Rattle.dai_template.proofs.Written.{mapped_all}
use Rattle.dai_template.proofs.space.orders.Goals as goal

pub returns : goal.returns
returns c = c.loop-sort.invariant ∙ mapped_all (λ (T : Sort). T.ordered) sort_of c.args.sorts.now c.loop-sort.sort-index c.loop-sort-test.false
