use Rattle.std.proofs.Common.{[], ◌∷◌, sym, subst}
use Rattle.dai_lex.specs.declared.token.Kind.TheVariants as K
use Rattle.dai_syntax.specs.declared.tree.Name.{Name}
use Rattle.dai_syntax.specs.declared.error.SyntaxError.TheVariants.{Unexpected}
use Rattle.dai_syntax.specs.Tree as Tree
use Rattle.dai_syntax.specs.Trees.{statements_of}
use Rattle.dai_syntax.specs.Symbols.{action_parts, v_declaration, name_of}
use Rattle.dai_syntax.specs.Grammar.{the_action}
use Rattle.dai_syntax.specs.Reading.{Reads}
use Rattle.dai_syntax.proofs.Stuck.{sees_none, stuck_action_parts}
use Rattle.dai_syntax.proofs.Paths.{begins, reads, passes, reads_whole, fails, is_stuck, spent_result, failed_result, takes_word}
use Rattle.dai_syntax.proofs.declarations.action.Goals as goal

pub returns-then-not-is_at-clause-failed : goal.returns-then-not-is_at-clause-failed
returns-then-not-is_at-clause-failed c = λ stack. is_stuck c.refusal.result Unexpected (begins c.args.cursor.now) c.refusal.ensures (stuck_action_parts c.args.cursor.now.bytes.now c.args.exported stack c.args.cursor.now.rest.now (sees_none c.args.cursor.now.rest.now (K.Lower ∷ []) (c.is_at.ensures.no c.if-not-is_at.true, tt)))

pub returns-in_err-name-clause-failed : goal.returns-in_err-name-clause-failed
returns-in_err-name-clause-failed c = spent_result (action_parts c.args.exported) c.args.cursor.now c.from_residual.result c.from_residual.ensures.1

pub returns-in_err-params-clause-failed : goal.returns-in_err-params-clause-failed
returns-in_err-params-clause-failed c = failed_result (action_parts c.args.exported) c.args.cursor.now c.from_residual-in_err-params.result c.in_err-params.field-0.0 c.from_residual-in_err-params.ensures.1 (λ stack. fails (takes_word (begins c.args.cursor.now) c.in_ok-name.ensures (λ limit high. the_action)) c.in_err-params.ensures.failed)

pub returns-in_err-expect-clause-failed : goal.returns-in_err-expect-clause-failed
returns-in_err-expect-clause-failed c = failed_result (action_parts c.args.exported) c.args.cursor.now c.from_residual-in_err-expect.result c.in_err-expect.field-0.0 c.from_residual-in_err-expect.ensures.1 (λ stack. fails (reads (takes_word (begins c.args.cursor.now) c.in_ok-name.ensures (λ limit high. the_action)) c.in_ok-params.ensures.read) c.in_err-expect.ensures.failed)

pub returns-in_err-block-clause-failed : goal.returns-in_err-block-clause-failed
returns-in_err-block-clause-failed c = failed_result (action_parts c.args.exported) c.args.cursor.now c.from_residual-in_err-block.result c.in_err-block.field-0.0 c.from_residual-in_err-block.ensures.1 (λ stack. fails (passes (reads (takes_word (begins c.args.cursor.now) c.in_ok-name.ensures (λ limit high. the_action)) c.in_ok-params.ensures.read) c.in_ok-expect.ensures.passed) c.in_err-block.ensures.failed)

pub returns-clause-read : goal.returns-clause-read
returns-clause-read c =
    let w = c.in_ok-name.ensures in
    let P : Name → Type 0 = λ n. Reads (action_parts c.args.exported) c.args.cursor.now (v_declaration (Tree.action n c.in_ok-params.params.items (statements_of c.in_ok-block.field-0.items) c.args.exported)) c.block.new.cursor in
    subst P (sym w.name) (reads_whole {v = v_declaration (Tree.action (name_of c.args.cursor.now.bytes.now w.token) c.in_ok-params.params.items (statements_of c.in_ok-block.field-0.items) c.args.exported)} (λ stack. (reads (passes (reads (takes_word (begins c.args.cursor.now) c.in_ok-name.ensures (λ limit high. the_action)) c.in_ok-params.ensures.read) c.in_ok-expect.ensures.passed) c.in_ok-block.ensures.read)))
