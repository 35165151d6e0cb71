use Rattle.std.proofs.Common.{[], ◌∷◌, sym, subst}
use Rattle.dai_lex.specs.declared.token.Kind.TheVariants as K
use Rattle.dai_syntax.specs.declared.tree.Name.{Name}
use Rattle.dai_syntax.specs.Tree as Tree
use Rattle.dai_syntax.specs.Trees.{formula_of}
use Rattle.dai_syntax.specs.Symbols.{sign, statements, targets, right_side}
use Rattle.dai_syntax.specs.Grammar.{an_assignment}
use Rattle.dai_syntax.proofs.Paths.{begins, reads, passes, fails, spent_result, failed_result, leaves_whole, takes_word}
use Rattle.dai_syntax.proofs.Blocks.{strict}
use Rattle.dai_syntax.specs.Effects.{ReadsStatement}
use Rattle.dai_syntax.proofs.statements.assignment.Goals as goal

pub returns-in_err-name-clause-failed : goal.returns-in_err-name-clause-failed
returns-in_err-name-clause-failed c = spent_result (statements c.args.depth) c.args.cursor.now c.from_residual.result c.from_residual.ensures.1

pub returns-in_err-args-clause-failed : goal.returns-in_err-args-clause-failed
returns-in_err-args-clause-failed c =
    let w = c.in_ok-name.ensures in
    failed_result (statements c.args.depth) c.args.cursor.now c.from_residual-in_err-args.result c.in_err-args.field-0.0 c.from_residual-in_err-args.ensures.1 (λ stack. fails (takes_word (begins c.args.cursor.now) w (λ limit high. an_assignment)) c.in_err-args.ensures.failed)

pub returns-in_err-expect-clause-failed : goal.returns-in_err-expect-clause-failed
returns-in_err-expect-clause-failed c =
    let w = c.in_ok-name.ensures in
    failed_result (statements c.args.depth) c.args.cursor.now c.from_residual-in_err-expect.result c.in_err-expect.field-0.0 c.from_residual-in_err-expect.ensures.1 (λ stack. fails (reads (takes_word (begins c.args.cursor.now) w (λ limit high. an_assignment)) c.in_ok-args.ensures.read) c.in_err-expect.ensures.failed)

pub returns-in_err-right_side-clause-failed : goal.returns-in_err-right_side-clause-failed
returns-in_err-right_side-clause-failed c =
    let w = c.in_ok-name.ensures in
    failed_result (statements c.args.depth) c.args.cursor.now c.from_residual-in_err-right_side.result c.in_err-right_side.field-0.0 c.from_residual-in_err-right_side.ensures.1 (λ stack. fails (passes (reads (takes_word (begins c.args.cursor.now) w (λ limit high. an_assignment)) c.in_ok-args.ensures.read) c.in_ok-expect.ensures.passed) c.in_err-right_side.ensures.failed)

pub returns-clause-read : goal.returns-clause-read
returns-clause-read c =
    let w = c.in_ok-name.ensures in
    let P : Name → Type 0 = λ n. ReadsStatement c.args.depth c.args.cursor.now (Tree.assignment n c.in_ok-args.args.items (formula_of c.in_ok-right_side.field-0)) c.right_side.new.cursor in
    subst P (sym w.name) (record {
      leaves = leaves_whole (λ stack. reads (passes (reads (takes_word (begins c.args.cursor.now) w (λ limit high. an_assignment)) c.in_ok-args.ensures.read) c.in_ok-expect.ensures.passed) c.in_ok-right_side.ensures.read);
      shorter = strict w.steps (reads (passes (reads (begins c.word.new.self {stack = targets ∷ sign K.Assign ∷ right_side c.args.depth ∷ []}) c.in_ok-args.ensures.read) c.in_ok-expect.ensures.passed) c.in_ok-right_side.ensures.read);
    })
