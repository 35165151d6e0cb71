use Rattle.dai_template.proofs.LiteralOrder.{written}
use Rattle.dai_template.proofs.space.Space.+canonical.Given as goal

abbrev pub decreases-canonical : goal.decreases-canonical
decreases-canonical l = written l.clause.now.lits.items
