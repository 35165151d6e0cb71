use Rattle.std.proofs.Common.{[], ◌∷◌, sym, ◌∙◌}
use Rattle.dai_lex.specs.declared.token.Kind.TheVariants as K
use Rattle.dai_syntax.specs.declared.error.SyntaxError.TheVariants.{Unexpected}
use Rattle.dai_syntax.specs.Grammar.{an_action, an_export}
use Rattle.dai_syntax.proofs.Stuck.{stuck_declaration, other_ahead, none_ahead}
use Rattle.dai_syntax.proofs.Paths.{begins, takes, reads, reads_whole, fails, is_stuck}
use Rattle.std.proofs.lemmas.Result.{IfOk-weaker, IfErr-weaker}
use Rattle.dai_syntax.proofs.declarations.declaration.Goals as goal

pub returns-in_default-clause-failed : goal.returns-in_default-clause-failed
returns-in_default-clause-failed c = λ stack. is_stuck c.refusal.result Unexpected (begins c.args.cursor.now) c.refusal.ensures (stuck_declaration c.args.cursor.now.bytes.now stack c.args.cursor.now.rest.now (none_ahead c.args.cursor.now.rest.now (K.WordType ∷ K.WordOrdered ∷ K.WordRelation ∷ K.WordIndividual ∷ K.WordAxiom ∷ K.WordAfter ∷ K.WordAction ∷ K.WordExport ∷ K.WordInvariant ∷ K.WordConjecture ∷ []) (sym c.kind.ensures ∙ c.in_default.is)))

pub returns-in_default-kind : goal.returns-in_default-kind
returns-in_default-kind c = record { read = tt; failed = λ stack. is_stuck c.refusal-in_default-kind.result Unexpected (begins c.args.cursor.now) c.refusal-in_default-kind.ensures (stuck_declaration c.args.cursor.now.bytes.now stack c.args.cursor.now.rest.now (other_ahead c.args.cursor.now.rest.now (K.WordType ∷ K.WordOrdered ∷ K.WordRelation ∷ K.WordIndividual ∷ K.WordAxiom ∷ K.WordAfter ∷ K.WordAction ∷ K.WordExport ∷ K.WordInvariant ∷ K.WordConjecture ∷ []) c.in-Some.kind (sym c.kind.ensures ∙ c.in-Some.is) (c.in_default-kind.not-WordType, (c.in_default-kind.not-WordOrdered, (c.in_default-kind.not-WordRelation, (c.in_default-kind.not-WordIndividual, (c.in_default-kind.not-WordAxiom, (c.in_default-kind.not-WordAfter, (c.in_default-kind.not-WordAction, (c.in_default-kind.not-WordExport, (c.in_default-kind.not-WordInvariant, (c.in_default-kind.not-WordConjecture, tt)))))))))))) }

pub returns-in-WordAction-clause-read : goal.returns-in-WordAction-clause-read
returns-in-WordAction-clause-read c = IfOk-weaker c.action.result _ _ (λ v h. reads_whole (λ stack. reads (takes (begins c.args.cursor.now) c.pass-word.ensures.steps c.pass-word.ensures.kind (λ limit high. an_action)) h)) c.action.ensures.read

pub returns-in-WordAction-clause-failed : goal.returns-in-WordAction-clause-failed
returns-in-WordAction-clause-failed c = IfErr-weaker c.action.result _ _ (λ v h. λ stack. fails (takes (begins c.args.cursor.now) c.pass-word.ensures.steps c.pass-word.ensures.kind (λ limit high. an_action)) h) c.action.ensures.failed

pub returns-in-WordExport-clause-read : goal.returns-in-WordExport-clause-read
returns-in-WordExport-clause-read c = IfOk-weaker c.exported.result _ _ (λ v h. reads_whole (λ stack. reads (takes (begins c.args.cursor.now) c.pass-word-in-WordExport.ensures.steps c.pass-word-in-WordExport.ensures.kind (λ limit high. an_export)) h)) c.exported.ensures.read

pub returns-in-WordExport-clause-failed : goal.returns-in-WordExport-clause-failed
returns-in-WordExport-clause-failed c = IfErr-weaker c.exported.result _ _ (λ v h. λ stack. fails (takes (begins c.args.cursor.now) c.pass-word-in-WordExport.ensures.steps c.pass-word-in-WordExport.ensures.kind (λ limit high. an_export)) h) c.exported.ensures.failed
