use Rattle.std.proofs.Common.{[], ◌∷◌, sym, subst, None}
use Rattle.dai_lex.specs.declared.token.Kind.TheVariants as K
use Rattle.dai_syntax.specs.declared.binders.Class.{Class}
use Rattle.dai_syntax.specs.declared.error.SyntaxError.TheVariants.{Unexpected}
use Rattle.dai_syntax.specs.Symbols.{type_mark, v_mark}
use Rattle.dai_syntax.specs.Grammar.{a_mark, no_mark}
use Rattle.dai_syntax.specs.Reading.{Reads, FailsAt}
use Rattle.dai_syntax.proofs.Stuck.{sees_none, stuck_mark_argument, stuck_mark_parameter}
use Rattle.dai_syntax.proofs.Paths.{begins, skips, reads, reads_whole, fails, failed_result, refused, at_same, takes_kind}
use Rattle.dai_syntax.proofs.binders.type_mark.Goals as goal

pub returns-in_err-name-clause-failed : goal.returns-in_err-name-clause-failed
returns-in_err-name-clause-failed c = failed_result (type_mark c.args.class) c.args.cursor.now c.from_residual.result c.in_err-name.field-0.0 c.from_residual.ensures.1 (λ stack. fails (takes_kind (begins c.args.cursor.now) (c.take.ensures.yes c.if-take.true) (λ limit high. a_mark)) c.in_err-name.ensures.failed)

pub returns-then-take-clause-read : goal.returns-then-take-clause-read
returns-then-take-clause-read c = reads_whole (λ stack. reads (takes_kind (begins c.args.cursor.now) (c.take.ensures.yes c.if-take.true) (λ limit high. a_mark)) c.in_ok-name.ensures.read)

pub returns-in-Variable-clause-read : goal.returns-in-Variable-clause-read
returns-in-Variable-clause-read c =
    let no = c.take.ensures.no c.if-take.false in
    let P : Class → Type 0 = λ class. Reads (type_mark class) c.args.cursor.now (v_mark None) c.take.new.self in
    subst P (sym c.in-Variable.is) (reads_whole (λ stack. at_same (skips (begins c.args.cursor.now) no_mark (sees_none c.args.cursor.now.rest.now (K.Colon ∷ []) (no.0, tt))) no.1))

pub returns-in-Argument-clause-failed : goal.returns-in-Argument-clause-failed
returns-in-Argument-clause-failed c =
    let no = c.take.ensures.no c.if-take.false in
    let P : Class → Type 0 = λ class. FailsAt (type_mark class) c.args.cursor.now c.refusal.result in
    subst P (sym c.in-Argument.is) (λ stack. refused c.args.cursor.now c.take.new.self c.refusal.result Unexpected (begins c.args.cursor.now) no.1 c.refusal.ensures (stuck_mark_argument c.args.cursor.now.bytes.now stack c.args.cursor.now.rest.now (sees_none c.args.cursor.now.rest.now (K.Colon ∷ []) (no.0, tt))))

pub returns-in-Parameter-clause-failed : goal.returns-in-Parameter-clause-failed
returns-in-Parameter-clause-failed c =
    let no = c.take.ensures.no c.if-take.false in
    let P : Class → Type 0 = λ class. FailsAt (type_mark class) c.args.cursor.now c.refusal-in-Parameter.result in
    subst P (sym c.in-Parameter.is) (λ stack. refused c.args.cursor.now c.take.new.self c.refusal-in-Parameter.result Unexpected (begins c.args.cursor.now) no.1 c.refusal-in-Parameter.ensures (stuck_mark_parameter c.args.cursor.now.bytes.now stack c.args.cursor.now.rest.now (sees_none c.args.cursor.now.rest.now (K.Colon ∷ []) (no.0, tt))))
