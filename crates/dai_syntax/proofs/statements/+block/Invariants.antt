use Rattle.std.proofs.Common.{◌+◌, ◌*◌, ◌-◌, List, ◌∷◌, length}
use Rattle.dai_syntax.specs.Symbols.{Symbol, statements}
use Rattle.dai_syntax.proofs.Blocks.{Gathers}
use Rattle.dai_syntax.proofs.statements.+block.Given as goal

abbrev pub decreases-statements : goal.decreases-statements
decreases-statements l = 8 * (200 - l.depth) + 6

abbrev pub decreases-statement : goal.decreases-statement
decreases-statement l = 8 * (200 - l.depth) + 5

abbrev pub decreases-conditional : goal.decreases-conditional
decreases-conditional l = 8 * (200 - l.depth) + 4

abbrev pub decreases-locals : goal.decreases-locals
decreases-locals l = 8 * (200 - l.depth) + 4

abbrev pub decreases-condition : goal.decreases-condition
decreases-condition l = 8 * (200 - l.depth) + 3

abbrev pub decreases-otherwise : goal.decreases-otherwise
decreases-otherwise l = 8 * (200 - l.depth) + 2

abbrev pub decreases-alternative : goal.decreases-alternative
decreases-alternative l = 8 * (200 - l.depth) + 4

abbrev pub decreases-block : goal.decreases-block
decreases-block l = 8 * (200 - l.depth) + 1

-- the statements so far, and then those that follow
abbrev pub invariant-statements-loop-body : goal.invariant-statements-loop-body
invariant-statements-loop-body l = (stack : List Symbol) → Gathers l.fn.cursor.bytes.now (statements l.depth ∷ stack) l.fn.cursor.rest.now (statements l.depth ∷ stack) l.cursor l.body.items

abbrev pub decreases-statements-loop-body : goal.decreases-statements-loop-body
decreases-statements-loop-body l = length l.cursor.rest.now
