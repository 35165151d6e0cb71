use Rattle.std.proofs.Common.{[], ◌∷◌, sym, ◌∙◌}
use Rattle.dai_lex.specs.declared.token.Kind.TheVariants as K
use Rattle.dai_syntax.specs.declared.error.SyntaxError.TheVariants.{Unexpected}
use Rattle.dai_syntax.proofs.Stuck.{stuck_comparison, other_ahead, none_ahead}
use Rattle.dai_syntax.proofs.Paths.{begins, is_stuck}
use Rattle.dai_syntax.proofs.terms.comparison.Goals as goal

pub returns-in_default-clause-failed : goal.returns-in_default-clause-failed
returns-in_default-clause-failed c = λ stack. is_stuck c.refusal.result Unexpected (begins c.args.cursor.now) c.refusal.ensures (stuck_comparison c.args.cursor.now.bytes.now stack c.args.cursor.now.rest.now (none_ahead c.args.cursor.now.rest.now (K.Equal ∷ K.NotEqual ∷ K.Less ∷ K.LessOrEqual ∷ []) (sym c.kind.ensures ∙ c.in_default.is)))

pub returns-in_default-kind : goal.returns-in_default-kind
returns-in_default-kind c = record { read = tt; failed = λ stack. is_stuck c.refusal-in_default-kind.result Unexpected (begins c.args.cursor.now) c.refusal-in_default-kind.ensures (stuck_comparison c.args.cursor.now.bytes.now stack c.args.cursor.now.rest.now (other_ahead c.args.cursor.now.rest.now (K.Equal ∷ K.NotEqual ∷ K.Less ∷ K.LessOrEqual ∷ []) c.in-Some.kind (sym c.kind.ensures ∙ c.in-Some.is) (c.in_default-kind.not-Equal, (c.in_default-kind.not-NotEqual, (c.in_default-kind.not-Less, (c.in_default-kind.not-LessOrEqual, tt)))))) }
