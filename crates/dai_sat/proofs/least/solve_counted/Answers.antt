use Rattle.std.proofs.Common.{ℕ, subst, ◌∙◌}
use Rattle.dai_sat.specs.declared.least.Step.{Step}
use Rattle.dai_sat.specs.Answers.{IsStepOf}
use Rattle.dai_trail.specs.Marks.{AreStamps}
use Rattle.dai_trail.proofs.Forces.{guided_keeps}
use Rattle.dai_sat.proofs.Decisions.{ordered_keeps}
use Rattle.dai_sat.proofs.LeastModels.{least_model}
use Rattle.dai_sat.proofs.least.solve_counted.Goals as goal

pub returns-in-Found : goal.returns-in-Found
returns-in-Found g c =
    let i = c.loop-desk.invariant in
    let P : Step → Type 0 = λ s. IsStepOf c.args.cnf.now c.loop-desk.trail c.next_step.new.trail s in
    let found = subst P c.in-Found.is c.in_ok-next_step.ensures.step in
    let kept = c.in_ok-next_step.ensures.kept in
    least_model _ c.args.cnf.now c.next_step.new.trail c.in-Found.bits.items c.in_ok-next_step.ensures.sound.trail
    (ordered_keeps c.loop-desk.trail c.next_step.new.trail i.ordered kept)
    (kept.room ∙ i.room) found.0 c.in_ok-next_step.ensures.sound.forced
    (guided_keeps _ c.loop-desk.trail c.next_step.new.trail i.guided kept) found.1

pub returns-then-branch : goal.returns-then-branch
returns-then-branch g c = λ bits model. c.in_ok-prepare.ensures.none c.if-branch.true bits model.meets

pub loop-desk-init : goal.loop-desk-init
loop-desk-init g c =
    let e = c.in_ok-prepare.ensures in
    let P : ℕ → Type 0 = λ n. AreStamps c.prepare.new.desk.marks n in
    record {
      sound = e.sound;
      guided = record { preferred = λ i l is. absurd (e.start i l is) };
      ordered = record { ordered = λ i l is. absurd (e.start i l is) };
      stamps = subst P e.room e.stamps;
      room = e.room;
    }

pub loop-desk-preserved-in-Again : goal.loop-desk-preserved-in-Again
loop-desk-preserved-in-Again g c =
    let i = c.loop-desk.invariant in
    let e = c.in_ok-next_step.ensures in
    let P : ℕ → Type 0 = λ n. AreStamps c.next_step.new.desk.marks n in
    record {
      sound = e.sound;
      guided = guided_keeps _ c.loop-desk.trail c.next_step.new.trail i.guided e.kept;
      ordered = ordered_keeps c.loop-desk.trail c.next_step.new.trail i.ordered e.kept;
      stamps = subst P i.room e.stamps;
      room = e.kept.room ∙ i.room;
    }

pub prefer-requires-clause-ordered : goal.prefer-requires-clause-ordered
prefer-requires-clause-ordered g c = ordered_keeps c.loop-desk.trail c.next_step.new.trail c.loop-desk.invariant.ordered c.in_ok-next_step.ensures.kept

pub returns-in-Unsat : goal.returns-in-Unsat
returns-in-Unsat g c =
    let P : Step → Type 0 = λ s. IsStepOf c.args.cnf.now c.loop-desk.trail c.next_step.new.trail s in
    let none = subst P c.in-Unsat.is c.in_ok-next_step.ensures.step in
    λ bits model. none bits model.meets
