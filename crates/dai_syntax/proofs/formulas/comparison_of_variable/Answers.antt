use Rattle.std.proofs.Common.{sym, subst}
use Rattle.dai_syntax.specs.declared.tree.Name.{Name}
use Rattle.dai_syntax.specs.declared.tree.Arg.TheVariants as A
use Rattle.dai_syntax.specs.Tree as Tree
use Rattle.dai_syntax.specs.Symbols.{operand, v_formula}
use Rattle.dai_syntax.specs.Grammar.{a_comparison}
use Rattle.dai_syntax.specs.Reading.{Reads}
use Rattle.dai_syntax.proofs.Paths.{begins, reads, reads_whole, fails, spent_result, failed_result, takes_word}
use Rattle.dai_syntax.proofs.Leading.{fails_spent}
use Rattle.std.proofs.lemmas.Result.{IfOk-weaker, IfErr-weaker}
use Rattle.dai_syntax.proofs.formulas.comparison_of_variable.Goals as goal

pub returns-in_err-name-clause-failed : goal.returns-in_err-name-clause-failed
returns-in_err-name-clause-failed c = spent_result (operand c.args.depth) c.args.cursor.now c.from_residual.result c.from_residual.ensures.1

pub returns-in_err-sort-clause-failed : goal.returns-in_err-sort-clause-failed
returns-in_err-sort-clause-failed c =
    let w = c.in_ok-name.ensures in
    failed_result (operand c.args.depth) c.args.cursor.now c.from_residual-in_err-sort.result c.in_err-sort.field-0.0 c.from_residual-in_err-sort.ensures.1 (λ stack. fails (takes_word (begins c.args.cursor.now) w (λ limit high. a_comparison)) c.in_err-sort.ensures.failed)

pub returns-in_err-op-clause-failed : goal.returns-in_err-op-clause-failed
returns-in_err-op-clause-failed c =
    let w = c.in_ok-name.ensures in
    failed_result (operand c.args.depth) c.args.cursor.now c.from_residual-in_err-op.result c.in_err-op.field-0.0 c.from_residual-in_err-op.ensures.1 (λ stack. fails (reads (takes_word (begins c.args.cursor.now) w (λ limit high. a_comparison)) c.in_ok-sort.ensures.read) c.in_err-op.ensures.failed)

pub returns-in_err-right-clause-failed : goal.returns-in_err-right-clause-failed
returns-in_err-right-clause-failed c =
    let w = c.in_ok-name.ensures in
    failed_result (operand c.args.depth) c.args.cursor.now c.from_residual-in_err-right.result c.in_err-right.field-0.0 c.from_residual-in_err-right.ensures.1 (λ stack. fails (reads (reads (takes_word (begins c.args.cursor.now) w (λ limit high. a_comparison)) c.in_ok-sort.ensures.read) c.in_ok-op.ensures.read) c.in_err-right.ensures.failed)

pub returns-clause-read : goal.returns-clause-read
returns-clause-read c =
    let w = c.in_ok-name.ensures in
    let P : Name → Type 0 = λ n. Reads (operand c.args.depth) c.args.cursor.now (v_formula (Tree.comparison (A.Variable n c.in_ok-sort.sort) c.in_ok-op.op c.in_ok-right.right)) c.term.new.cursor in
    let Q : Tree.Formula → Type 0 = λ f. Reads (operand c.args.depth) c.args.cursor.now (v_formula f) c.term.new.cursor in
    IfOk-weaker c.compared.result _ _ (λ f e. subst Q (sym e) (subst P (sym w.name) (reads_whole (λ stack. reads (reads (reads (takes_word (begins c.args.cursor.now) w (λ limit high. a_comparison)) c.in_ok-sort.ensures.read) c.in_ok-op.ensures.read) c.in_ok-right.ensures.read)))) c.compared.ensures.form

pub returns-clause-failed : goal.returns-clause-failed
returns-clause-failed c = IfErr-weaker c.compared.result _ _ (λ e h stack. fails_spent e h) c.compared.ensures.spent
