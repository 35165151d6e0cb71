use Rattle.std.proofs.Common.{◌≡◌, refl, subst}
use Rattle.dai_syntax.specs.declared.cursor.Cursor.{Cursor}
use Rattle.dai_syntax.specs.declared.error.SyntaxError.TheVariants.{Unexpected}
use Rattle.dai_syntax.specs.Reading.{place_ahead}
use Rattle.dai_syntax.specs.Grammar.{a_sign}
use Rattle.dai_syntax.proofs.Stuck.{stuck_sign}
use Rattle.dai_syntax.proofs.Paths.{begins, is_stuck, takes_kind, passes_whole}
use Rattle.dai_syntax.proofs.cursor.Cursor.expect.Goals as goal

pub returns-else-take-clause-failed : goal.returns-else-take-clause-failed
returns-else-take-clause-failed c = λ stack.
    let no = c.take.ensures.no c.if-take.false in
    let P : Cursor → Type 0 = λ now. c.refusal.result ≡ Unexpected (place_ahead now.bytes.now now.rest.now) in
    is_stuck c.refusal.result Unexpected (begins c.args.self.now) (subst P no.1 c.refusal.ensures) (stuck_sign c.args.self.now.bytes.now stack c.args.self.now.rest.now no.0)

pub returns-then-take-clause-passed : goal.returns-then-take-clause-passed
returns-then-take-clause-passed c =
    let took = c.take.ensures.yes c.if-take.true in
    passes_whole (λ stack. takes_kind (begins c.args.self.now) took (λ limit high. a_sign refl))
