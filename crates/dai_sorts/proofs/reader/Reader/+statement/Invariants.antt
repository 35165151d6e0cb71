use Rattle.std.proofs.Common.{drop}
use Rattle.dai_syntax.specs.Trees.{statements_of as trees_of}
use Rattle.dai_sorts.specs.Readers.{scope_of}
use Rattle.dai_sorts.proofs.Coding.{Going}
use Rattle.dai_sorts.proofs.reader.Reader.+statement.Given as goal

-- what does the statements to come, behind what is written, does them all
abbrev pub invariant-statements-loop-stat : goal.invariant-statements-loop-stat
invariant-statements-loop-stat l =
    Going (scope_of l.fn.self) (trees_of l.stats) l.fn.locals.items l.fn.code.items (trees_of (drop l.stat-index l.stats)) (scope_of l.self) l.locals.items l.code.items
