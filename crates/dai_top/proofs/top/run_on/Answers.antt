use Rattle.std.proofs.Common.{arith, ◌≤◌, ℕ, List, inl, inr, refl, sym, ◌∙◌, ap, subst, ⊎_elim}
use Rattle.dai_base.specs.Fault.{fault_text}
use Rattle.dai_words.specs.Readings.{choices_of}
use Rattle.dai_top.specs.Answers.{Answer, refusal}
use Rattle.dai_top.specs.Outcome.{IsTold}
use Rattle.dai_top.specs.declared.stop.Stop.{Stop}
use Rattle.dai_top.specs.Stops.{IsStop, answer_of}
use Rattle.dai_top.proofs.OneAnswer.{OneVerdict, one_answer, refused_or_done}
use Rattle.dai_top.proofs.Puts.{part_none}
use Rattle.dai_top.proofs.top.run_on.Goals as goal

pub returns-in-Ok-clause-answered : goal.returns-in-Ok-clause-answered
returns-in-Ok-clause-answered g c = λ x h.
    let laws : OneVerdict = record { fault = c.one_verdict.ensures.fault; protocol = c.one_verdict.ensures.protocol; never_both = c.one_verdict.ensures.never_both } in
    let same = one_answer laws (choices_of c.args.settings.now) c.args.bytes.now (answer_of c.in-Ok.answer) x c.in-Ok.ensures.answered h in
    let T : ℕ → List ℕ → Type 0 = λ status text. IsTold text status (g.O.Sink.written c.args.out.now) (g.O.Sink.written c.put_lines.new.sink) (g.O.Sink.faults c.args.out.now) (g.O.Sink.faults c.put_lines.new.sink) c.put_lines.result in
    let told : T x.status x.out = subst (λ (y : Answer). T y.status y.out) same (subst (T c.in-Ok.answer.status) c.as_slice.ensures.value c.put_lines.ensures) in
    inr (subst (λ (y : Answer). y.status ≤ 1) same c.in-Ok.ensures.status, refl, told)

pub returns-in-Err-Fault-clause-answered : goal.returns-in-Err-Fault-clause-answered
returns-in-Err-Fault-clause-answered g c = λ x h.
    let laws : OneVerdict = record { fault = c.one_verdict.ensures.fault; protocol = c.one_verdict.ensures.protocol; never_both = c.one_verdict.ensures.never_both } in
    let S : Stop → Type 0 = λ s. IsStop (choices_of c.args.settings.now) c.args.bytes.now s in
    let refused = subst S c.in-Err-Fault.field-0-is c.in-Err-Fault.ensures.refused in
    let same = one_answer laws (choices_of c.args.settings.now) c.args.bytes.now (refusal (choices_of c.args.settings.now).operand c.in-Err-Fault.fault) x refused.0 h in
    let T : List ℕ → Type 0 = λ text. IsTold text 2 (g.E.Sink.written c.args.err.now) (g.E.Sink.written c.tell.new.sink) (g.E.Sink.faults c.args.err.now) (g.E.Sink.faults c.tell.new.sink) c.tell.result in
    let told = subst T (ap (λ name. fault_text name c.in-Err-Fault.fault) c.as_str.ensures.value ∙ ap (λ (y : Answer). y.err) same) c.tell.ensures in
    inl (sym (ap (λ (y : Answer). y.status) same), refl, told)

pub returns-in-Err-Spent-clause-answered : goal.returns-in-Err-Spent-clause-answered
returns-in-Err-Spent-clause-answered g c = λ x h.
    ⊎_elim (λ two. inl (two, refl, inr (inr (refl, part_none (g.E.Sink.written c.args.err.now) x.err)))) (λ low. inr (low, refl, inr (inr (refl, part_none (g.O.Sink.written c.args.out.now) x.out))))
    (refused_or_done (choices_of c.args.settings.now) c.args.bytes.now x h)

pub returns-in-Ok-clause-outcome : goal.returns-in-Ok-clause-outcome
returns-in-Ok-clause-outcome g c =
    let T : List ℕ → Type 0 = λ text. IsTold text c.in-Ok.answer.status (g.O.Sink.written c.args.out.now) (g.O.Sink.written c.put_lines.new.sink) (g.O.Sink.faults c.args.out.now) (g.O.Sink.faults c.put_lines.new.sink) c.put_lines.result in
    inl (answer_of c.in-Ok.answer, (c.in-Ok.ensures.answered, inr (c.in-Ok.ensures.status, refl, subst T c.as_slice.ensures.value c.put_lines.ensures)))

pub returns-in-Err-Fault-clause-outcome : goal.returns-in-Err-Fault-clause-outcome
returns-in-Err-Fault-clause-outcome g c =
    let S : Stop → Type 0 = λ s. IsStop (choices_of c.args.settings.now) c.args.bytes.now s in
    let refused = subst S c.in-Err-Fault.field-0-is c.in-Err-Fault.ensures.refused in
    let T : List ℕ → Type 0 = λ text. IsTold text 2 (g.E.Sink.written c.args.err.now) (g.E.Sink.written c.tell.new.sink) (g.E.Sink.faults c.args.err.now) (g.E.Sink.faults c.tell.new.sink) c.tell.result in
    inl (refusal (choices_of c.args.settings.now).operand c.in-Err-Fault.fault, (refused.0, inl (omega arith, refl, subst T (ap (λ name. fault_text name c.in-Err-Fault.fault) c.as_str.ensures.value) c.tell.ensures)))
