use Rattle.std.proofs.Common.{List, ◌∷◌, ◌++◌, length}
use Rattle.dai_syntax.specs.Symbols.{Symbol, binders, more_binders, v_binders, the_binders, part1, after1}
use Rattle.dai_syntax.proofs.Paths.{Path}
use Rattle.dai_syntax.proofs.binders.binders.Given as goal

-- the binders so far, and then those that follow
abbrev pub invariant-loop-class : goal.invariant-loop-class
invariant-loop-class l = (stack : List Symbol) → Path l.fn.cursor.bytes.now (binders l.class ∷ stack) l.fn.cursor.rest.now (more_binders l.class ∷ stack) l.cursor (λ vs. v_binders (l.list.items ++ the_binders (part1 vs)) ∷ after1 vs)

abbrev pub decreases-loop-class : goal.decreases-loop-class
decreases-loop-class l = length l.cursor.rest.now
