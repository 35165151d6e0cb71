use Rattle.std.proofs.Common.{[], ◌∷◌, sym, subst}
use Rattle.dai_lex.specs.declared.token.Kind.TheVariants as K
use Rattle.dai_syntax.specs.declared.tree.Name.{Name}
use Rattle.dai_syntax.specs.declared.binders.Class.{Class}
use Rattle.dai_syntax.specs.declared.error.SyntaxError.TheVariants.{Unexpected}
use Rattle.dai_syntax.specs.Symbols.{binder, type_mark, name_of}
use Rattle.dai_syntax.specs.Grammar.{a_named_argument, a_variable_argument, a_named_parameter, a_bound_variable}
use Rattle.dai_syntax.specs.Reading.{Leaves, FailsAt}
use Rattle.dai_syntax.specs.Effects.{binder_effect}
use Rattle.dai_syntax.proofs.Stuck.{sees_none, stuck_binder_argument, stuck_binder_parameter, stuck_binder_variable}
use Rattle.dai_syntax.proofs.Paths.{begins, is_stuck, spent_result, leaves_whole, takes_word}
use Rattle.dai_syntax.proofs.binders.bound_name.Goals as goal

pub returns-in_err-word-in-Argument-clause-failed : goal.returns-in_err-word-in-Argument-clause-failed
returns-in_err-word-in-Argument-clause-failed c = spent_result (binder c.args.class) c.args.cursor.now c.from_residual.result c.from_residual.ensures.1

pub returns-in_err-word-in-Argument-2-clause-failed : goal.returns-in_err-word-in-Argument-2-clause-failed
returns-in_err-word-in-Argument-2-clause-failed c = spent_result (binder c.args.class) c.args.cursor.now c.from_residual-in_err-word-in-Argument-2.result c.from_residual-in_err-word-in-Argument-2.ensures.1

pub returns-in_err-word-in-Parameter-clause-failed : goal.returns-in_err-word-in-Parameter-clause-failed
returns-in_err-word-in-Parameter-clause-failed c = spent_result (binder c.args.class) c.args.cursor.now c.from_residual-in_err-word-in-Parameter.result c.from_residual-in_err-word-in-Parameter.ensures.1

pub returns-in_err-word-in-Variable-clause-failed : goal.returns-in_err-word-in-Variable-clause-failed
returns-in_err-word-in-Variable-clause-failed c = spent_result (binder c.args.class) c.args.cursor.now c.from_residual-in_err-word-in-Variable.result c.from_residual-in_err-word-in-Variable.ensures.1

pub returns-in_ok-word-in-Argument-clause-read : goal.returns-in_ok-word-in-Argument-clause-read
returns-in_ok-word-in-Argument-clause-read c =
    let w = c.in_ok-word-in-Argument.ensures in
    let P : Name → Type 0 = λ n. Leaves (binder c.args.class) c.args.cursor.now (type_mark c.args.class ∷ []) c.word.new.self (binder_effect n) in
    let Q : Class → Type 0 = λ class. Leaves (binder class) c.args.cursor.now (type_mark class ∷ []) c.word.new.self (binder_effect (name_of c.args.cursor.now.bytes.now w.token)) in
    subst P (sym w.name) (subst Q (sym c.in-Argument.is) (leaves_whole (λ stack. takes_word (begins c.args.cursor.now) w (λ limit high. a_variable_argument))))

pub returns-in_ok-word-in-Argument-2-clause-read : goal.returns-in_ok-word-in-Argument-2-clause-read
returns-in_ok-word-in-Argument-2-clause-read c =
    let w = c.in_ok-word-in-Argument-2.ensures in
    let P : Name → Type 0 = λ n. Leaves (binder c.args.class) c.args.cursor.now (type_mark c.args.class ∷ []) c.word-then-is_at-2.new.self (binder_effect n) in
    let Q : Class → Type 0 = λ class. Leaves (binder class) c.args.cursor.now (type_mark class ∷ []) c.word-then-is_at-2.new.self (binder_effect (name_of c.args.cursor.now.bytes.now w.token)) in
    subst P (sym w.name) (subst Q (sym c.in-Argument.is) (leaves_whole (λ stack. takes_word (begins c.args.cursor.now) w (λ limit high. a_named_argument))))

pub returns-in_ok-word-in-Parameter-clause-read : goal.returns-in_ok-word-in-Parameter-clause-read
returns-in_ok-word-in-Parameter-clause-read c =
    let w = c.in_ok-word-in-Parameter.ensures in
    let P : Name → Type 0 = λ n. Leaves (binder c.args.class) c.args.cursor.now (type_mark c.args.class ∷ []) c.word-then-is_at-3.new.self (binder_effect n) in
    let Q : Class → Type 0 = λ class. Leaves (binder class) c.args.cursor.now (type_mark class ∷ []) c.word-then-is_at-3.new.self (binder_effect (name_of c.args.cursor.now.bytes.now w.token)) in
    subst P (sym w.name) (subst Q (sym c.in-Parameter.is) (leaves_whole (λ stack. takes_word (begins c.args.cursor.now) w (λ limit high. a_named_parameter))))

pub returns-in_ok-word-in-Variable-clause-read : goal.returns-in_ok-word-in-Variable-clause-read
returns-in_ok-word-in-Variable-clause-read c =
    let w = c.in_ok-word-in-Variable.ensures in
    let P : Name → Type 0 = λ n. Leaves (binder c.args.class) c.args.cursor.now (type_mark c.args.class ∷ []) c.word-then-is_at-4.new.self (binder_effect n) in
    let Q : Class → Type 0 = λ class. Leaves (binder class) c.args.cursor.now (type_mark class ∷ []) c.word-then-is_at-4.new.self (binder_effect (name_of c.args.cursor.now.bytes.now w.token)) in
    subst P (sym w.name) (subst Q (sym c.in-Variable.is) (leaves_whole (λ stack. takes_word (begins c.args.cursor.now) w (λ limit high. a_bound_variable))))

pub returns-else-is_at-2-clause-failed : goal.returns-else-is_at-2-clause-failed
returns-else-is_at-2-clause-failed c =
    let P : Class → Type 0 = λ class. FailsAt (binder class) c.args.cursor.now c.refusal.result in
    subst P (sym c.in-Argument.is) (λ stack. is_stuck c.refusal.result Unexpected (begins c.args.cursor.now) c.refusal.ensures (stuck_binder_argument c.args.cursor.now.bytes.now stack c.args.cursor.now.rest.now (sees_none c.args.cursor.now.rest.now (K.Lower ∷ K.Upper ∷ []) (c.is_at-else-is_at.ensures.no c.if-is_at-2.false, (c.is_at.ensures.no c.if-is_at.false, tt)))))

pub returns-else-is_at-3-clause-failed : goal.returns-else-is_at-3-clause-failed
returns-else-is_at-3-clause-failed c =
    let P : Class → Type 0 = λ class. FailsAt (binder class) c.args.cursor.now c.refusal-else-is_at-3.result in
    subst P (sym c.in-Parameter.is) (λ stack. is_stuck c.refusal-else-is_at-3.result Unexpected (begins c.args.cursor.now) c.refusal-else-is_at-3.ensures (stuck_binder_parameter c.args.cursor.now.bytes.now stack c.args.cursor.now.rest.now (sees_none c.args.cursor.now.rest.now (K.Lower ∷ []) (c.is_at-in-Parameter.ensures.no c.if-is_at-3.false, tt))))

pub returns-else-is_at-4-clause-failed : goal.returns-else-is_at-4-clause-failed
returns-else-is_at-4-clause-failed c =
    let P : Class → Type 0 = λ class. FailsAt (binder class) c.args.cursor.now c.refusal-else-is_at-4.result in
    subst P (sym c.in-Variable.is) (λ stack. is_stuck c.refusal-else-is_at-4.result Unexpected (begins c.args.cursor.now) c.refusal-else-is_at-4.ensures (stuck_binder_variable c.args.cursor.now.bytes.now stack c.args.cursor.now.rest.now (sees_none c.args.cursor.now.rest.now (K.Upper ∷ []) (c.is_at-in-Variable.ensures.no c.if-is_at-4.false, tt))))
