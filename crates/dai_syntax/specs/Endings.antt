-- What follows the name of an atom, as the program holds it; and the word of a quantifier.
use Rattle.std.specs.Prelude.{Bool, true, false}
use Rattle.dai_lex.specs.declared.token.Kind.{Kind}
use Rattle.dai_lex.specs.declared.token.Kind.TheVariants as K
use Rattle.dai_syntax.specs.declared.tree.Op.{Op}
use Rattle.dai_syntax.specs.declared.tree.Op.TheVariants as O
use Rattle.dai_syntax.specs.declared.terms.Ending.{Ending}
use Rattle.dai_syntax.specs.declared.terms.Ending.TheVariants.{Bare, Applied, Compared}
use Rattle.dai_syntax.specs.Symbols.{Rest, bare, applied, compared}

abbrev pub rest_of : Ending → Rest
rest_of Bare = bare
rest_of (Applied args) = applied args.items
rest_of (Compared op right) = compared op right

abbrev pub quantifier : Bool → Kind
quantifier true = K.WordForall
quantifier false = K.WordExists

-- the sign of a comparison
abbrev pub sign_of : Op → Kind
sign_of O.Equal = K.Equal
sign_of O.Unequal = K.NotEqual
sign_of O.Less = K.Less
sign_of O.LessEqual = K.LessOrEqual
