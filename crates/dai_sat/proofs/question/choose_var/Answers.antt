use Rattle.std.proofs.Common.{arith, ◌≤◌, ◌∙◌, subst}
use Rattle.std.specs.Option.{MatchOption}
use Rattle.dai_trail.specs.declared.trail.TheConstants.{DECISION}
use Rattle.dai_trail.specs.Trail.{IsRefuted, IsFullModel}
use Rattle.dai_trail.proofs.Forces.{sound_cut, rank_same, enters_points}
use Rattle.dai_sat.proofs.Decisions.{code_free}
use Rattle.dai_sat.proofs.Unders.{past_same, past_true, under_past, under_keeps, model_asked}
use Rattle.dai_sat.proofs.question.choose_var.Goals as goal

pub decide-requires-clause-sound : goal.decide-requires-clause-sound
decide-requires-clause-sound c = let le : c.args.trail.now.len ≤ c.args.trail.now.len = omega arith in sound_cut c.args.cnf.now c.args.learned.now c.args.trail.now c.open_var.new.trail c.args.trail.now.len c.requires.sound c.open_var.ensures.trail c.open_var.ensures.same le

pub returns-in-Some-clause-answer : goal.returns-in-Some-clause-answer
returns-in-Some-clause-answer c =
    let past = past_same c.args.asked.now.codes.items c.args.asked.now.floor c.args.trail.now c.open_var.new.trail c.requires.past c.open_var.ensures.same in
    let free = c.in-Some.ensures.answer in (
      omega (arith, c.in_ok-decide.ensures.rank, rank_same c.args.trail.now c.open_var.new.trail c.open_var.ensures.same),
      under_past c.args.asked.now.codes.items c.args.asked.now.floor c.open_var.new.trail c.decide.new.trail c.code_of.result DECISION past
          (enters_points c.open_var.new.trail c.decide.new.trail c.code_of.result DECISION c.open_var.ensures.trail.mirror
          (code_free c.open_var.new.trail c.code_of.result c.in-Some.var c.in-Some.phase c.code_of.ensures free.0 free.1) c.in_ok-decide.ensures.enters),
    )

pub full_model-requires-clause-sound : goal.full_model-requires-clause-sound
full_model-requires-clause-sound c = let le : c.args.trail.now.len ≤ c.args.trail.now.len = omega arith in sound_cut c.args.cnf.now c.args.learned.now c.args.trail.now c.open_var.new.trail c.args.trail.now.len c.requires.sound c.open_var.ensures.trail c.open_var.ensures.same le

pub returns-in-Some-2-clause-sound : goal.returns-in-Some-2-clause-sound
returns-in-Some-2-clause-sound c = let le : c.args.trail.now.len ≤ c.args.trail.now.len = omega arith in sound_cut c.args.cnf.now c.args.learned.now c.args.trail.now c.open_var.new.trail c.args.trail.now.len c.requires.sound c.open_var.ensures.trail c.open_var.ensures.same le

pub returns-in-Some-2-clause-answer : goal.returns-in-Some-2-clause-answer
returns-in-Some-2-clause-answer c =
    let f = c.args.cnf.now in
    let t = c.open_var.new.trail in
    let full = subst (λ o. MatchOption o (IsRefuted c.args.cnf.now c.open_var.new.trail) (λ v. IsFullModel c.args.cnf.now c.open_var.new.trail v.items)) c.in-Some-2.is c.in_ok-bits.ensures in
    let past = past_same c.args.asked.now.codes.items c.args.asked.now.floor c.args.trail.now c.open_var.new.trail c.requires.past c.open_var.ensures.same in (
      full.model,
      model_asked c.args.cnf.now c.open_var.new.trail c.in-Some-2.bits.items c.args.asked.now.codes.items (c.open_var.ensures.same.room ∙ c.requires.room) full c.requires.below
          (past_true c.args.asked.now.codes.items c.args.asked.now.floor c.open_var.new.trail c.open_var.ensures.trail.mirror past),
    )

pub turn-requires-clause-sound : goal.turn-requires-clause-sound
turn-requires-clause-sound c = let le : c.args.trail.now.len ≤ c.args.trail.now.len = omega arith in sound_cut c.args.cnf.now c.args.learned.now c.args.trail.now c.open_var.new.trail c.args.trail.now.len c.requires.sound c.open_var.ensures.trail c.open_var.ensures.same le

pub returns-then-branch-clause-answer : goal.returns-then-branch-clause-answer
returns-then-branch-clause-answer c =
    let past = past_same c.args.asked.now.codes.items c.args.asked.now.floor c.args.trail.now c.open_var.new.trail c.requires.past c.open_var.ensures.same in
    let falls = c.in_ok-turn.ensures.rank c.if-branch.true in (
      omega (arith, falls, rank_same c.args.trail.now c.open_var.new.trail c.open_var.ensures.same),
      under_keeps c.args.asked.now.codes.items c.args.asked.now.floor c.open_var.new.trail c.turn.new.trail past.under c.in_ok-turn.ensures.kept,
    )
