use Rattle.std.proofs.Common.{ℕ, length, sym, ◌∙◌, subst}
use Rattle.dai_trail.specs.declared.marks.Marks.{Marks}
use Rattle.dai_trail.specs.Marks.{AreStamps}
use Rattle.dai_sat.proofs.Unders.{under_keeps}
use Rattle.dai_sat.proofs.question.search.Goals as goal

pub loop-learned-preserved-in-Continue-branch-3 : goal.loop-learned-preserved-in-Continue-branch-3
loop-learned-preserved-in-Continue-branch-3 c =
    let i = c.loop-learned.invariant in
    let a = c.in_ok-advance.ensures in
    let b = c.in_ok-rest-in-Again.ensures in
    let room = b.kept.room ∙ a.kept.room in
    let P : ℕ → Type 0 = λ n. AreStamps c.advance.new.desk.marks n in
    let Q : Marks → Type 0 = λ m. AreStamps m (length c.rest.new.trail.values.items) in
    record {
      sound = b.sound;
      stamps = subst Q (sym b.marks) (subst P (sym room) a.stamps);
      under = under_keeps c.loop-learned.asked.codes.items c.loop-learned.asked.floor c.advance.new.trail c.rest.new.trail
          (under_keeps c.loop-learned.asked.codes.items c.loop-learned.asked.floor c.loop-learned.trail c.advance.new.trail i.under a.kept) b.kept;
      codes = i.codes;
      room = room ∙ i.room;
    }

pub choose-requires-clause-under : goal.choose-requires-clause-under
choose-requires-clause-under c =
    under_keeps c.loop-learned.asked.codes.items c.loop-learned.asked.floor c.loop-learned.trail c.advance.new.trail c.loop-learned.invariant.under c.in_ok-advance.ensures.kept
