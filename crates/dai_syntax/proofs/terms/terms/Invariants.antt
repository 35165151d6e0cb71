use Rattle.std.proofs.Common.{List, ◌∷◌, ◌++◌, length}
use Rattle.dai_syntax.specs.Symbols.{Symbol, terms, more_terms, v_terms, the_terms, part1, after1}
use Rattle.dai_syntax.proofs.Paths.{Path}
use Rattle.dai_syntax.proofs.terms.terms.Given as goal

-- the terms so far, and then those that follow
abbrev pub invariant-loop-list : goal.invariant-loop-list
invariant-loop-list l = (stack : List Symbol) → Path l.fn.cursor.bytes.now (terms ∷ stack) l.fn.cursor.rest.now (more_terms ∷ stack) l.cursor (λ vs. v_terms (l.list.items ++ the_terms (part1 vs)) ∷ after1 vs)

abbrev pub decreases-loop-list : goal.decreases-loop-list
decreases-loop-list l = length l.cursor.rest.now
