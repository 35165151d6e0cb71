use Rattle.std.proofs.Common.{[], ◌∷◌, sym, ◌∙◌, subst}
use Rattle.dai_lex.specs.declared.token.Kind.TheVariants as K
use Rattle.dai_syntax.specs.declared.tree.Name.{Name}
use Rattle.dai_syntax.specs.declared.error.SyntaxError.TheVariants.{Unexpected}
use Rattle.dai_syntax.specs.Symbols.{label_word, v_name}
use Rattle.dai_syntax.specs.Grammar.{a_small_label, a_capital_label, a_number_label}
use Rattle.dai_syntax.specs.Reading.{Reads}
use Rattle.dai_syntax.proofs.Stuck.{stuck_label_word, other_ahead, none_ahead}
use Rattle.dai_syntax.proofs.Paths.{begins, reads_whole, is_stuck, spent_result, takes_word}
use Rattle.dai_syntax.proofs.declarations.label_word.Goals as goal

pub returns-in_default-clause-failed : goal.returns-in_default-clause-failed
returns-in_default-clause-failed c = λ stack. is_stuck c.refusal.result Unexpected (begins c.args.cursor.now) c.refusal.ensures (stuck_label_word c.args.cursor.now.bytes.now stack c.args.cursor.now.rest.now (none_ahead c.args.cursor.now.rest.now (K.Lower ∷ K.Upper ∷ K.Digits ∷ []) (sym c.kind.ensures ∙ c.in_default.is)))

pub returns-in_default-kind : goal.returns-in_default-kind
returns-in_default-kind c = record { read = tt; failed = λ stack. is_stuck c.refusal-in_default-kind.result Unexpected (begins c.args.cursor.now) c.refusal-in_default-kind.ensures (stuck_label_word c.args.cursor.now.bytes.now stack c.args.cursor.now.rest.now (other_ahead c.args.cursor.now.rest.now (K.Lower ∷ K.Upper ∷ K.Digits ∷ []) c.in-Some.kind (sym c.kind.ensures ∙ c.in-Some.is) (c.in_default-kind.not-Lower, (c.in_default-kind.not-Upper, (c.in_default-kind.not-Digits, tt))))) }

pub returns-in_err-word-in-Lower-clause-failed : goal.returns-in_err-word-in-Lower-clause-failed
returns-in_err-word-in-Lower-clause-failed c = spent_result label_word c.args.cursor.now c.from_residual.result c.from_residual.ensures.1

pub returns-in_err-word-in-Upper-clause-failed : goal.returns-in_err-word-in-Upper-clause-failed
returns-in_err-word-in-Upper-clause-failed c = spent_result label_word c.args.cursor.now c.from_residual-in_err-word-in-Upper.result c.from_residual-in_err-word-in-Upper.ensures.1

pub returns-in_err-word-in-Digits-clause-failed : goal.returns-in_err-word-in-Digits-clause-failed
returns-in_err-word-in-Digits-clause-failed c = spent_result label_word c.args.cursor.now c.from_residual-in_err-word-in-Digits.result c.from_residual-in_err-word-in-Digits.ensures.1

pub returns-in_ok-word-in-Lower-clause-read : goal.returns-in_ok-word-in-Lower-clause-read
returns-in_ok-word-in-Lower-clause-read c =
    let w = c.in_ok-word-in-Lower.ensures in
    let P : Name → Type 0 = λ n. Reads label_word c.args.cursor.now (v_name n) c.word.new.self in
    subst P (sym w.name) (reads_whole (λ stack. takes_word (begins c.args.cursor.now) w (λ limit high. a_small_label)))

pub returns-in_ok-word-in-Upper-clause-read : goal.returns-in_ok-word-in-Upper-clause-read
returns-in_ok-word-in-Upper-clause-read c =
    let w = c.in_ok-word-in-Upper.ensures in
    let P : Name → Type 0 = λ n. Reads label_word c.args.cursor.now (v_name n) c.word-in-Upper.new.self in
    subst P (sym w.name) (reads_whole (λ stack. takes_word (begins c.args.cursor.now) w (λ limit high. a_capital_label)))

pub returns-in_ok-word-in-Digits-clause-read : goal.returns-in_ok-word-in-Digits-clause-read
returns-in_ok-word-in-Digits-clause-read c =
    let w = c.in_ok-word-in-Digits.ensures in
    let P : Name → Type 0 = λ n. Reads label_word c.args.cursor.now (v_name n) c.word-in-Digits.new.self in
    subst P (sym w.name) (reads_whole (λ stack. takes_word (begins c.args.cursor.now) w (λ limit high. a_number_label)))
