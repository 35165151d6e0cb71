use Rattle.std.proofs.Common.{[], ◌∷◌, sym, ◌∙◌, subst}
use Rattle.dai_lex.specs.declared.token.Kind.TheVariants as K
use Rattle.dai_syntax.specs.declared.tree.Name.{Name}
use Rattle.dai_syntax.specs.declared.error.SyntaxError.TheVariants.{Unexpected}
use Rattle.dai_syntax.specs.Tree as Tree
use Rattle.dai_syntax.specs.Symbols.{exported, v_declaration}
use Rattle.dai_syntax.specs.Grammar.{an_exported_action, an_exported_name}
use Rattle.dai_syntax.specs.Reading.{Reads}
use Rattle.dai_syntax.proofs.Stuck.{stuck_exported, other_ahead, none_ahead}
use Rattle.dai_syntax.proofs.Paths.{begins, takes, reads, reads_whole, fails, is_stuck, spent_result, takes_word}
use Rattle.std.proofs.lemmas.Result.{IfOk-weaker, IfErr-weaker}
use Rattle.dai_syntax.proofs.declarations.exported.Goals as goal

pub returns-in_default-clause-failed : goal.returns-in_default-clause-failed
returns-in_default-clause-failed c = λ stack. is_stuck c.refusal.result Unexpected (begins c.args.cursor.now) c.refusal.ensures (stuck_exported c.args.cursor.now.bytes.now stack c.args.cursor.now.rest.now (none_ahead c.args.cursor.now.rest.now (K.WordAction ∷ K.Lower ∷ []) (sym c.kind.ensures ∙ c.in_default.is)))

pub returns-in_default-kind : goal.returns-in_default-kind
returns-in_default-kind c = record { read = tt; failed = λ stack. is_stuck c.refusal-in_default-kind.result Unexpected (begins c.args.cursor.now) c.refusal-in_default-kind.ensures (stuck_exported c.args.cursor.now.bytes.now stack c.args.cursor.now.rest.now (other_ahead c.args.cursor.now.rest.now (K.WordAction ∷ K.Lower ∷ []) c.in-Some.kind (sym c.kind.ensures ∙ c.in-Some.is) (c.in_default-kind.not-WordAction, (c.in_default-kind.not-Lower, tt)))) }

pub returns-in-WordAction-clause-read : goal.returns-in-WordAction-clause-read
returns-in-WordAction-clause-read c = IfOk-weaker c.action.result _ _ (λ v h. reads_whole (λ stack. reads (takes (begins c.args.cursor.now) c.pass-word.ensures.steps c.pass-word.ensures.kind (λ limit high. an_exported_action)) h)) c.action.ensures.read

pub returns-in-WordAction-clause-failed : goal.returns-in-WordAction-clause-failed
returns-in-WordAction-clause-failed c = IfErr-weaker c.action.result _ _ (λ v h. λ stack. fails (takes (begins c.args.cursor.now) c.pass-word.ensures.steps c.pass-word.ensures.kind (λ limit high. an_exported_action)) h) c.action.ensures.failed

pub returns-in_err-word-in-Lower-clause-failed : goal.returns-in_err-word-in-Lower-clause-failed
returns-in_err-word-in-Lower-clause-failed c = spent_result exported c.args.cursor.now c.from_residual.result c.from_residual.ensures.1

pub returns-in_ok-word-in-Lower-clause-read : goal.returns-in_ok-word-in-Lower-clause-read
returns-in_ok-word-in-Lower-clause-read c =
    let w = c.in_ok-word-in-Lower.ensures in
    let P : Name → Type 0 = λ n. Reads exported c.args.cursor.now (v_declaration (Tree.export n)) c.word.new.self in
    subst P (sym w.name) (reads_whole (λ stack. takes_word (begins c.args.cursor.now) w (λ limit high. an_exported_name)))
