use Rattle.dai_logic.proofs.Copies.{AreCopied}
use Rattle.dai_logic.proofs.copying.copy_tables_into.Given as goal

abbrev pub invariant-loop-number : goal.invariant-loop-number
invariant-loop-number l = AreCopied l.from l.to l.number
