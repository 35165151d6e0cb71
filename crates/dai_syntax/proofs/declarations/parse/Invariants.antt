-- The declarations so far, and then those that follow; and the tokens get fewer.
use Rattle.std.proofs.Common.{length}
use Rattle.dai_syntax.proofs.Files.{FilePath}
use Rattle.dai_syntax.proofs.declarations.parse.Given as goal

abbrev pub invariant-loop-cursor : goal.invariant-loop-cursor
invariant-loop-cursor l = FilePath l.bytes l.tokens l.cursor l.decls.items

abbrev pub decreases-loop-cursor : goal.decreases-loop-cursor
decreases-loop-cursor l = length l.cursor.rest.now
