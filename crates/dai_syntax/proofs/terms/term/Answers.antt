use Rattle.std.proofs.Common.{[], ◌∷◌, sym, ◌∙◌, subst}
use Rattle.dai_lex.specs.declared.token.Kind.TheVariants as K
use Rattle.dai_syntax.specs.declared.tree.Name.{Name}
use Rattle.dai_syntax.specs.declared.tree.Arg.TheVariants as A
use Rattle.dai_syntax.specs.declared.error.SyntaxError.TheVariants.{Unexpected}
use Rattle.dai_syntax.specs.Symbols.{term, v_term}
use Rattle.dai_syntax.specs.Grammar.{a_symbol, a_term_variable}
use Rattle.dai_syntax.specs.Reading.{Reads}
use Rattle.dai_syntax.proofs.Stuck.{stuck_term, other_ahead, none_ahead}
use Rattle.dai_syntax.proofs.Paths.{begins, reads, reads_whole, fails, is_stuck, spent_result, failed_result, takes_word}
use Rattle.dai_syntax.proofs.terms.term.Goals as goal

pub returns-in_default-clause-failed : goal.returns-in_default-clause-failed
returns-in_default-clause-failed c = λ stack. is_stuck c.refusal.result Unexpected (begins c.args.cursor.now) c.refusal.ensures (stuck_term c.args.cursor.now.bytes.now stack c.args.cursor.now.rest.now (none_ahead c.args.cursor.now.rest.now (K.Lower ∷ K.Upper ∷ []) (sym c.kind.ensures ∙ c.in_default.is)))

pub returns-in_default-kind : goal.returns-in_default-kind
returns-in_default-kind c = record { read = tt; failed = λ stack. is_stuck c.refusal-in_default-kind.result Unexpected (begins c.args.cursor.now) c.refusal-in_default-kind.ensures (stuck_term c.args.cursor.now.bytes.now stack c.args.cursor.now.rest.now (other_ahead c.args.cursor.now.rest.now (K.Lower ∷ K.Upper ∷ []) c.in-Some.kind (sym c.kind.ensures ∙ c.in-Some.is) (c.in_default-kind.not-Lower, (c.in_default-kind.not-Upper, tt)))) }

pub returns-in_err-word-in-Lower-clause-failed : goal.returns-in_err-word-in-Lower-clause-failed
returns-in_err-word-in-Lower-clause-failed c = spent_result term c.args.cursor.now c.from_residual.result c.from_residual.ensures.1

pub returns-in_err-name-in-Upper-clause-failed : goal.returns-in_err-name-in-Upper-clause-failed
returns-in_err-name-in-Upper-clause-failed c = spent_result term c.args.cursor.now c.from_residual-in_err-name-in-Upper.result c.from_residual-in_err-name-in-Upper.ensures.1

pub returns-in_err-type_mark-in-Upper-clause-failed : goal.returns-in_err-type_mark-in-Upper-clause-failed
returns-in_err-type_mark-in-Upper-clause-failed c = failed_result term c.args.cursor.now c.from_residual-in_err-type_mark-in-Upper.result c.in_err-type_mark-in-Upper.field-0.0 c.from_residual-in_err-type_mark-in-Upper.ensures.1 (λ stack. fails (takes_word (begins c.args.cursor.now) c.in_ok-name-in-Upper.ensures (λ limit high. a_term_variable)) c.in_err-type_mark-in-Upper.ensures.failed)

pub returns-in_ok-word-in-Lower-clause-read : goal.returns-in_ok-word-in-Lower-clause-read
returns-in_ok-word-in-Lower-clause-read c =
    let w = c.in_ok-word-in-Lower.ensures in
    let P : Name → Type 0 = λ n. Reads term c.args.cursor.now (v_term (A.Symbol n)) c.word.new.self in
    subst P (sym w.name) (reads_whole (λ stack. takes_word (begins c.args.cursor.now) w (λ limit high. a_symbol)))

pub returns-in_ok-type_mark-in-Upper-clause-read : goal.returns-in_ok-type_mark-in-Upper-clause-read
returns-in_ok-type_mark-in-Upper-clause-read c =
    let w = c.in_ok-name-in-Upper.ensures in
    let m = c.in_ok-type_mark-in-Upper.field-0 in
    let P : Name → Type 0 = λ n. Reads term c.args.cursor.now (v_term (A.Variable n m)) c.type_mark.new.cursor in
    subst P (sym w.name) (reads_whole (λ stack. reads (takes_word (begins c.args.cursor.now) w (λ limit high. a_term_variable)) c.in_ok-type_mark-in-Upper.ensures.read))
