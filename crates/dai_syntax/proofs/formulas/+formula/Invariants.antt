use Rattle.std.proofs.Common.{◌+◌, ◌*◌, ◌-◌, List, ◌∷◌, length}
use Rattle.dai_syntax.specs.Tree as Tree
use Rattle.dai_syntax.specs.Trees.{formulas_of}
use Rattle.dai_syntax.specs.Symbols.{Symbol, formula, more_equivalents, disjunction, more_disjuncts, conjunction, more_conjuncts, v_formula, the_formulas, part1, after1}
use Rattle.dai_syntax.proofs.Paths.{Path}
use Rattle.dai_syntax.proofs.Rows.{joined}
use Rattle.dai_syntax.proofs.formulas.+formula.Given as goal

abbrev pub decreases-formula : goal.decreases-formula
decreases-formula l = 8 * (200 - l.depth) + 7

abbrev pub decreases-implication : goal.decreases-implication
decreases-implication l = 8 * (200 - l.depth) + 6

abbrev pub decreases-disjunction : goal.decreases-disjunction
decreases-disjunction l = 8 * (200 - l.depth) + 5

abbrev pub decreases-conjunction : goal.decreases-conjunction
decreases-conjunction l = 8 * (200 - l.depth) + 4

abbrev pub decreases-operand : goal.decreases-operand
decreases-operand l = 8 * (200 - l.depth) + 3

abbrev pub decreases-negation : goal.decreases-negation
decreases-negation l = 8 * (200 - l.depth) + 2

abbrev pub decreases-bracket : goal.decreases-bracket
decreases-bracket l = 8 * (200 - l.depth) + 2

abbrev pub decreases-quantified : goal.decreases-quantified
decreases-quantified l = 8 * (200 - l.depth) + 2

-- the parts so far, and then those that follow
abbrev pub invariant-formula-loop-parts : goal.invariant-formula-loop-parts
invariant-formula-loop-parts l = (stack : List Symbol) → Path l.fn.cursor.bytes.now (formula l.depth ∷ stack) l.fn.cursor.rest.now (more_equivalents l.depth ∷ stack) l.cursor (λ vs. v_formula (Tree.equivalence (joined (formulas_of l.parts.items) (the_formulas (part1 vs)))) ∷ after1 vs)

abbrev pub decreases-formula-loop-parts : goal.decreases-formula-loop-parts
decreases-formula-loop-parts l = length l.cursor.rest.now

-- the parts so far, and then those that follow
abbrev pub invariant-disjunction-loop-parts : goal.invariant-disjunction-loop-parts
invariant-disjunction-loop-parts l = (stack : List Symbol) → Path l.fn.cursor.bytes.now (disjunction l.depth ∷ stack) l.fn.cursor.rest.now (more_disjuncts l.depth ∷ stack) l.cursor (λ vs. v_formula (Tree.disjunction (joined (formulas_of l.parts.items) (the_formulas (part1 vs)))) ∷ after1 vs)

abbrev pub decreases-disjunction-loop-parts : goal.decreases-disjunction-loop-parts
decreases-disjunction-loop-parts l = length l.cursor.rest.now

-- the parts so far, and then those that follow
abbrev pub invariant-conjunction-loop-parts : goal.invariant-conjunction-loop-parts
invariant-conjunction-loop-parts l = (stack : List Symbol) → Path l.fn.cursor.bytes.now (conjunction l.depth ∷ stack) l.fn.cursor.rest.now (more_conjuncts l.depth ∷ stack) l.cursor (λ vs. v_formula (Tree.conjunction (joined (formulas_of l.parts.items) (the_formulas (part1 vs)))) ∷ after1 vs)

abbrev pub decreases-conjunction-loop-parts : goal.decreases-conjunction-loop-parts
decreases-conjunction-loop-parts l = length l.cursor.rest.now
