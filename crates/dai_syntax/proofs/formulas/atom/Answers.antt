use Rattle.std.proofs.Common.{List, [], sym, subst}
use Rattle.dai_syntax.specs.declared.tree.Name.{Name}
use Rattle.dai_syntax.specs.declared.tree.Arg.{Arg}
use Rattle.dai_syntax.specs.declared.tree.Arg.TheVariants as A
use Rattle.dai_syntax.specs.Tree as Tree
use Rattle.dai_syntax.specs.Symbols.{operand, atom_rest, v_rest, v_formula}
use Rattle.dai_syntax.specs.Grammar.{an_atom}
use Rattle.dai_syntax.specs.Reading.{Reads}
use Rattle.dai_syntax.specs.Endings.{rest_of}
use Rattle.dai_syntax.proofs.Paths.{begins, reads, reads_whole, fails, spent_result, failed_result, takes_word}
use Rattle.dai_syntax.specs.declared.terms.Ending.{Ending}
use Rattle.dai_syntax.proofs.Leading.{fails_spent}
use Rattle.std.proofs.lemmas.Result.{IfOk-weaker, IfErr-weaker}
use Rattle.dai_syntax.proofs.formulas.atom.Goals as goal

pub returns-in_err-name-clause-failed : goal.returns-in_err-name-clause-failed
returns-in_err-name-clause-failed c = spent_result (operand c.args.depth) c.args.cursor.now c.from_residual.result c.from_residual.ensures.1

pub returns-in_err-atom_end-clause-failed : goal.returns-in_err-atom_end-clause-failed
returns-in_err-atom_end-clause-failed c =
    let w = c.in_ok-name.ensures in
    failed_result (operand c.args.depth) c.args.cursor.now c.from_residual-in_err-atom_end.result c.in_err-atom_end.field-0.0 c.from_residual-in_err-atom_end.ensures.1 (λ stack. fails (takes_word (begins c.args.cursor.now) w (λ limit high. an_atom)) c.in_err-atom_end.ensures.failed)

pub returns-in-Bare-clause-read : goal.returns-in-Bare-clause-read
returns-in-Bare-clause-read c =
    let w = c.in_ok-name.ensures in
    let P : Name → Type 0 = λ n. Reads (operand c.args.depth) c.args.cursor.now (v_formula (Tree.atom n [])) c.atom_end.new.cursor in
    let R : Ending → Type 0 = λ e. Reads atom_rest c.word.new.self (v_rest (rest_of e)) c.atom_end.new.cursor in
    let Q : List Arg → Type 0 = λ args. Reads (operand c.args.depth) c.args.cursor.now (v_formula (Tree.atom c.in_ok-name.name args)) c.atom_end.new.cursor in
    subst Q (sym c.new.ensures.items) (subst P (sym w.name) (reads_whole (λ stack. reads (takes_word (begins c.args.cursor.now) w (λ limit high. an_atom)) (subst R c.in-Bare.is c.in_ok-atom_end.ensures.read))))

pub returns-in-Applied-clause-read : goal.returns-in-Applied-clause-read
returns-in-Applied-clause-read c =
    let w = c.in_ok-name.ensures in
    let P : Name → Type 0 = λ n. Reads (operand c.args.depth) c.args.cursor.now (v_formula (Tree.atom n c.in-Applied.args.items)) c.atom_end.new.cursor in
    let R : Ending → Type 0 = λ e. Reads atom_rest c.word.new.self (v_rest (rest_of e)) c.atom_end.new.cursor in
    subst P (sym w.name) (reads_whole (λ stack. reads (takes_word (begins c.args.cursor.now) w (λ limit high. an_atom)) (subst R c.in-Applied.is c.in_ok-atom_end.ensures.read)))

pub returns-in-Compared-clause-read : goal.returns-in-Compared-clause-read
returns-in-Compared-clause-read c =
    let w = c.in_ok-name.ensures in
    let P : Name → Type 0 = λ n. Reads (operand c.args.depth) c.args.cursor.now (v_formula (Tree.comparison (A.Symbol n) c.in-Compared.op c.in-Compared.right)) c.atom_end.new.cursor in
    let R : Ending → Type 0 = λ e. Reads atom_rest c.word.new.self (v_rest (rest_of e)) c.atom_end.new.cursor in
    let Q : Tree.Formula → Type 0 = λ f. Reads (operand c.args.depth) c.args.cursor.now (v_formula f) c.atom_end.new.cursor in
    IfOk-weaker c.compared.result _ _ (λ f e. subst Q (sym e) (subst P (sym w.name) (reads_whole (λ stack. reads (takes_word (begins c.args.cursor.now) w (λ limit high. an_atom)) (subst R c.in-Compared.is c.in_ok-atom_end.ensures.read))))) c.compared.ensures.form

pub returns-in-Compared-clause-failed : goal.returns-in-Compared-clause-failed
returns-in-Compared-clause-failed c = IfErr-weaker c.compared.result _ _ (λ e h stack. fails_spent e h) c.compared.ensures.spent
