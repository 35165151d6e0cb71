use Rattle.std.proofs.Common.{◌≡◌, sym, ap, subst, length, arith}
use Rattle.std.proofs.lemmas.List.{length-map}
use Rattle.dai_logic.specs.Protocols.{protocol_of}
use Rattle.dai_table.specs.Steps.{flags_in, lists_in}
use Rattle.dai_table.specs.Answers.{AreFrom, NoneBreaks, Breaks}
use Rattle.dai_table.proofs.Valued.{items}
use Rattle.dai_table.proofs.Judged.{within_each, holds_at_first, broken_after}
use Rattle.dai_table.proofs.judging.TruthTableJudge.initiation.Goals as goal

pub first_broken-requires : goal.first_broken-requires
first_broken-requires c =
    let P = protocol_of c.args.protocol.now in
    let table = c.requires.judge in
    let t = c.args.self.now in
    let states = flags_in t.states.items in
    let own = within_each P states t.init.items (lists_in t.actions.items) table c.requires.goal.bounds c.args.space.now c.args.goal.now c.requires.goal.is P.init t.init.items table.init_steps in
    let many = length-map t.states.items items in
    let counted = c.len.ensures in
    let long = c.in_ok-met.ensures.long in
    let met = ap length c.deref-2.ensures.value in
    subst (λ n. AreFrom c.deref.result.now n c.args.goal.now) (let e : length states ≡ length c.deref-2.result.now = omega (arith, many, counted, long, met) in e)
    (subst (λ ss. AreFrom ss (length states) c.args.goal.now) (sym c.deref.ensures.value) own)

pub returns-in-None-clause-answer : goal.returns-in-None-clause-answer
returns-in-None-clause-answer c =
    let P = protocol_of c.args.protocol.now in
    let t = c.args.self.now in
    let many = length-map t.states.items items in
    let counted = c.len.ensures in
    let ms = c.in_ok-met.met.items in
    let none : NoneBreaks t.init.items ms c.args.goal.now = subst (λ bs. NoneBreaks t.init.items bs c.args.goal.now) c.deref-2.ensures.value (subst (λ ss. NoneBreaks ss c.deref-2.result.now c.args.goal.now) c.deref.ensures.value c.in-None.ensures) in
    holds_at_first P (flags_in t.states.items) t.init.items (lists_in t.actions.items) c.requires.judge ms c.requires.goal.bounds c.args.space.now c.args.goal.now c.requires.goal.is (λ k below. c.in_ok-met.ensures.each k (omega (arith, many, counted, below))) none

pub returns-clause-answer : goal.returns-clause-answer
returns-clause-answer c =
    let P = protocol_of c.args.protocol.now in
    let t = c.args.self.now in
    let steps = t.init.items in
    let x = c.in_ok-counterexample-in-Some.ensures in
    let broken : Breaks steps c.deref-2.result.now c.args.goal.now c.in-Some.place = subst (λ ss. Breaks ss c.deref-2.result.now c.args.goal.now c.in-Some.place) c.deref.ensures.value c.in-Some.ensures in
    record {
      init = x.block;
      transition = x.transition;
      broken = broken_after P (flags_in t.states.items) steps (lists_in t.actions.items) c.requires.judge P.init steps c.requires.judge.init_steps c.deref-2.result.now c.args.goal.now c.in-Some.place c.index.result.now broken c.index.ensures c.requires.goal.bounds c.args.space.now c.requires.goal.is _ x.after;
    }
