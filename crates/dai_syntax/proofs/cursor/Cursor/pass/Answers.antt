use Rattle.dai_syntax.specs.Placed.{LiesIn}
use Rattle.dai_syntax.proofs.Slices.{all_after_first}
use Rattle.dai_syntax.proofs.cursor.Cursor.pass.Goals as goal

pub invariant_of-self-clause-placed : goal.invariant_of-self-clause-placed
invariant_of-self-clause-placed c = all_after_first (LiesIn c.args.self.now.bytes.now) c.args.self.now.rest.now c.args.self.now.placed
