use Rattle.std.proofs.Common.{[], ◌∷◌, sym, ◌∙◌}
use Rattle.dai_lex.specs.declared.token.Kind.TheVariants as K
use Rattle.dai_syntax.specs.Grammar.{a_bare_atom}
use Rattle.dai_syntax.proofs.Stuck.{other_ahead, none_ahead}
use Rattle.dai_syntax.proofs.Paths.{begins, skips, reads_whole}
use Rattle.dai_syntax.proofs.terms.atom_end.Goals as goal

pub returns-in_default-clause-read : goal.returns-in_default-clause-read
returns-in_default-clause-read c = reads_whole (λ stack. skips (begins c.args.cursor.now) a_bare_atom (none_ahead c.args.cursor.now.rest.now (K.OpenRound ∷ K.Equal ∷ K.NotEqual ∷ K.Less ∷ K.LessOrEqual ∷ []) (sym c.kind.ensures ∙ c.in_default.is)))

pub returns-in_default-kind : goal.returns-in_default-kind
returns-in_default-kind c = record { read = reads_whole (λ stack. skips (begins c.args.cursor.now) a_bare_atom (other_ahead c.args.cursor.now.rest.now (K.OpenRound ∷ K.Equal ∷ K.NotEqual ∷ K.Less ∷ K.LessOrEqual ∷ []) c.in-Some.kind (sym c.kind.ensures ∙ c.in-Some.is) (c.in_default-kind.not-OpenRound, (c.in_default-kind.not-Equal, (c.in_default-kind.not-NotEqual, (c.in_default-kind.not-Less, (c.in_default-kind.not-LessOrEqual, tt))))))); failed = tt }
