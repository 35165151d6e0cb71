use Rattle.std.specs.Option.{option_map}
use Rattle.std.proofs.Common.{[], ◌∙◌, sym, ap, subst, length}
use Rattle.std.specs.Prelude.{slice_index_or}
use Rattle.dai_model.specs.Protocol.{Action}
use Rattle.dai_logic.specs.Protocols.{protocol_of}
use Rattle.dai_table.specs.Steps.{flags_in, lists_in}
use Rattle.dai_table.specs.Answers.{AreFrom, NoneBreaks, Breaks}
use Rattle.dai_table.proofs.Judged.{within_each, holds_after, listed_step, broken_after, premises_before, steps_at, action_at}
use Rattle.dai_table.proofs.judging.TruthTableJudge.consecution.Goals as goal

pub first_broken-requires : goal.first_broken-requires
first_broken-requires c =
    let P = protocol_of c.args.protocol.now in
    let table = c.requires.judge in
    let t = c.args.self.now in
    let states = flags_in t.states.items in
    let n = c.args.action in
    let same = steps_at P t.actions.items states table.action_steps n c.requires.action c.from.result c.from.ensures c.index-steps.result.now c.index-steps.ensures c.deref.result.now c.deref.ensures.value in
    let a = action_at P n c.requires.action in
    let own = within_each P states t.init.items (lists_in t.actions.items) table c.requires.goal.bounds c.args.space.now c.args.goal.now c.requires.goal.is a.0.block (slice_index_or (lists_in t.actions.items) n []) (table.action_steps.each n a.0 c.requires.action a.1) in
    let long = c.requires.premises.1.long in
    subst (λ m. AreFrom c.deref.result.now m c.args.goal.now) (sym (ap length c.deref-2.ensures.value ∙ long))
    (subst (λ ss. AreFrom ss (length states) c.args.goal.now) (sym same) own)

pub counterexample-requires-clause-step : goal.counterexample-requires-clause-step
counterexample-requires-clause-step c =
    let P = protocol_of c.args.protocol.now in
    let table = c.requires.judge in
    let t = c.args.self.now in
    let states = flags_in t.states.items in
    let n = c.args.action in
    let steps = slice_index_or (lists_in t.actions.items) n [] in
    let same = steps_at P t.actions.items states table.action_steps n c.requires.action c.from.result c.from.ensures c.index-steps.result.now c.index-steps.ensures c.deref.result.now c.deref.ensures.value in
    let a = action_at P n c.requires.action in
    let broken : Breaks steps c.deref-2.result.now c.args.goal.now c.in-Some.place = subst (λ ss. Breaks ss c.deref-2.result.now c.args.goal.now c.in-Some.place) same c.in-Some.ensures in
    let is = c.index.ensures ∙ ap (λ ss. slice_index_or ss c.in-Some.place c.index.result.now) (sym c.deref.ensures.value ∙ same) in
    record {
      named = a.0.block;
      is = ap (option_map (λ (b : Action). b.block)) a.1;
      step_is = listed_step P states t.init.items (lists_in t.actions.items) table a.0.block steps (table.action_steps.each n a.0 c.requires.action a.1) c.deref-2.result.now c.args.goal.now c.in-Some.place c.index.result.now broken is;
    }

pub returns-in-None-clause-answer : goal.returns-in-None-clause-answer
returns-in-None-clause-answer c = λ I prepared.
    let P = protocol_of c.args.protocol.now in
    let table = c.requires.judge in
    let t = c.args.self.now in
    let states = flags_in t.states.items in
    let n = c.args.action in
    let same = steps_at P t.actions.items states table.action_steps n c.requires.action c.from.result c.from.ensures c.index-steps.result.now c.index-steps.ensures c.deref.result.now c.deref.ensures.value in
    let ms = c.args.premises.now.met.items in
    let none : NoneBreaks (slice_index_or (lists_in t.actions.items) n []) ms c.args.goal.now = subst (λ bs. NoneBreaks (slice_index_or (lists_in t.actions.items) n []) bs c.args.goal.now) c.deref-2.ensures.value (subst (λ ss. NoneBreaks ss c.deref-2.result.now c.args.goal.now) same c.in-None.ensures) in
    holds_after P states t.init.items (lists_in t.actions.items) table ms I c.requires.goal.bounds c.args.space.now c.args.goal.now c.requires.goal.is prepared n none

pub returns-in_ok-counterexample-in-Some-clause-answer : goal.returns-in_ok-counterexample-in-Some-clause-answer
returns-in_ok-counterexample-in-Some-clause-answer c = λ I prepared.
    let P = protocol_of c.args.protocol.now in
    let table = c.requires.judge in
    let t = c.args.self.now in
    let states = flags_in t.states.items in
    let n = c.args.action in
    let steps = slice_index_or (lists_in t.actions.items) n [] in
    let same = steps_at P t.actions.items states table.action_steps n c.requires.action c.from.result c.from.ensures c.index-steps.result.now c.index-steps.ensures c.deref.result.now c.deref.ensures.value in
    let a = action_at P n c.requires.action in
    let h = table.action_steps.each n a.0 c.requires.action a.1 in
    let ms = c.args.premises.now.met.items in
    let broken : Breaks steps ms c.args.goal.now c.in-Some.place = subst (λ bs. Breaks steps bs c.args.goal.now c.in-Some.place) c.deref-2.ensures.value (subst (λ ss. Breaks ss c.deref-2.result.now c.args.goal.now c.in-Some.place) same c.in-Some.ensures) in
    let is = c.index.ensures ∙ ap (λ ss. slice_index_or ss c.in-Some.place c.index.result.now) (sym c.deref.ensures.value ∙ same) in
    let x = c.in_ok-counterexample-in-Some.ensures in
    record {
      action = x.block;
      transition = x.transition;
      premises_met = premises_before P states t.init.items (lists_in t.actions.items) table a.0.block steps h ms c.args.goal.now c.in-Some.place c.index.result.now broken is I prepared _ x.before;
      broken = broken_after P states t.init.items (lists_in t.actions.items) table a.0.block steps h ms c.args.goal.now c.in-Some.place c.index.result.now broken is c.requires.goal.bounds c.args.space.now c.requires.goal.is _ x.after;
    }
