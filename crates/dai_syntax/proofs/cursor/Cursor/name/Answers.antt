use Rattle.std.proofs.Common.{[], ◌∷◌, subst, sym}
use Rattle.dai_lex.specs.declared.token.Kind.TheVariants.{Lower}
use Rattle.dai_syntax.specs.declared.tree.Name.{Name}
use Rattle.dai_syntax.specs.declared.error.SyntaxError.TheVariants.{Unexpected}
use Rattle.dai_syntax.specs.Symbols.{name, v_name}
use Rattle.dai_syntax.specs.Grammar.{a_name}
use Rattle.dai_syntax.specs.Reading.{Reads}
use Rattle.dai_syntax.proofs.Stuck.{sees_none, stuck_name}
use Rattle.dai_syntax.proofs.Paths.{begins, takes, reads_whole, is_stuck, spent_result}
use Rattle.dai_syntax.proofs.cursor.Cursor.name.Goals as goal

pub returns-then-not-is_at-clause-failed : goal.returns-then-not-is_at-clause-failed
returns-then-not-is_at-clause-failed c = λ stack.
    is_stuck c.refusal.result Unexpected (begins c.args.self.now) c.refusal.ensures (stuck_name c.args.self.now.bytes.now stack c.args.self.now.rest.now (sees_none c.args.self.now.rest.now (Lower ∷ []) (c.is_at.ensures.no c.if-not-is_at.true, tt)))

pub returns-in_err-word-clause-failed : goal.returns-in_err-word-clause-failed
returns-in_err-word-clause-failed c = spent_result name c.args.self.now c.from_residual.result c.from_residual.ensures.1

pub returns-clause-read : goal.returns-clause-read
returns-clause-read c =
    let w = c.in_ok-word.ensures in
    let P : Name → Type 0 = λ n. Reads name c.args.self.now (v_name n) c.word.new.self in
    subst P (sym w.name) (reads_whole (λ stack. takes (begins c.args.self.now) w.steps w.kinds (λ limit high. a_name)))
