use Rattle.std.proofs.Common.{append_assoc}
use Rattle.dai_base.proofs.message.line_of_place.Goals as goal

pub returns : goal.returns
returns c = simp append_assoc c.format.ensures.ok
