use Rattle.std.proofs.Common.{arith, ◌≡◌, ◌<◌, length, get_or, ap, refl, ◌∙◌}
use Rattle.std.proofs.lemmas.List.{get_or_read}
use Rattle.dai_trail.specs.declared.trail.TheConstants.{DECISION}
use Rattle.dai_trail.proofs.Forces.{enters_points}
use Rattle.dai_sat.proofs.Unders.{under_wanted}
use Rattle.dai_sat.proofs.question.choose.Goals as goal

pub returns-then-is_free-clause-answer : goal.returns-then-is_free-clause-answer
returns-then-is_free-clause-answer c =
    let wanted = c.in-Some.ensures.answer in
    let same = c.in-Some.ensures.codes in
    let l : c.in-Some.number < length c.next.new.self.codes.items = omega (arith, wanted.within, ap length same) in
    let read : c.index-code.result.now ≡ get_or c.args.asked.now.codes.items c.in-Some.number 0 =
    get_or_read c.next.new.self.codes.items c.in-Some.number c.index-code.result.now l c.index-code.ensures 0 ∙ ap (λ xs. get_or xs c.in-Some.number 0) same in (
      c.in_ok-decide.ensures.rank,
      under_wanted c.args.asked.now.codes.items c.next.new.self.floor c.args.trail.now c.decide.new.trail c.index-code.result.now DECISION c.in-Some.number wanted read
          c.in_ok-decide.ensures.sound.trail.mirror
          (enters_points c.args.trail.now c.decide.new.trail c.index-code.result.now DECISION c.requires.sound.trail.mirror (c.if-is_free.ensures.0 refl) c.in_ok-decide.ensures.enters),
    )
