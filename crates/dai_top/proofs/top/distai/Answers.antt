use Rattle.std.proofs.Common.{◌≡◌, [], arith, inl, inr, refl, sym, ◌∙◌, ap, subst, ⊎_elim}
use Rattle.dai_words.specs.Refusals.{Refusal}
use Rattle.dai_words.specs.Words.{Choices}
use Rattle.dai_words.specs.Readings.{texts, choices_of}
use Rattle.dai_top.specs.Answers.{IsAnswerTo}
use Rattle.dai_top.specs.Outcome.{IsTold, words_line, IsAnswerFrom, IsAllowed, refuses, accepts}
use Rattle.dai_top.proofs.Outcomes.{outcome_weaker, unread_by, unput_by}
use Rattle.dai_top.proofs.OneAnswer.{refused_or_done}
use Rattle.dai_top.proofs.Puts.{part_none}
use Rattle.dai_top.proofs.top.distai.Goals as goal

pub run-requires : goal.run-requires
run-requires g c = c.settings_are_within_ranges.ensures (texts c.args.words.now) (choices_of c.in-Ok.settings) c.in-Ok.ensures

-- the settings are those that the words give
pub returns-in-Ok-clause-answered : goal.returns-in-Ok-clause-answered
returns-in-Ok-clause-answered g c = λ given held bytes x read h k answer.
    let same : choices_of c.in-Ok.settings ≡ given = let e = c.in-Ok.ensures in cc in
    let found = ap (λ (d : Choices). held d.operand) same ∙ k in
    rw (sym same) (c.run.ensures.answered held bytes x h found (subst (λ (d : Choices). IsAnswerTo d bytes x) (sym same) answer))

-- the refusal is the one that the words give
pub returns-in-Err-Bad-clause-refused_words : goal.returns-in-Err-Bad-clause-refused_words
returns-in-Err-Bad-clause-refused_words g c = λ r read.
    let refusal : Refusal = record { number = c.in-Err-Bad.number; word = c.in-Err-Bad.word } in
    let refused = rw c.in-Err-Bad.field-0-is at c.in-Err-Bad.ensures in
    let same : refusal ≡ r = let e = refused.0 in cc in
    let told = c.tell.ensures in
    (refl, refl, subst (λ (s : Refusal). IsTold (words_line s) 2 (g.E.Sink.written c.args.err.now) (g.E.Sink.written c.tell.new.sink) (g.E.Sink.faults c.args.err.now) (g.E.Sink.faults c.tell.new.sink) c.tell.result) same told)

pub returns-in-Err-Spent-clause-answered : goal.returns-in-Err-Spent-clause-answered
returns-in-Err-Spent-clause-answered g c = λ given held bytes x read told there h.
    ⊎_elim (λ two. inl (two, refl, inr (inr (refl, part_none (g.E.Sink.written c.args.err.now) x.err)))) (λ low. inr (inl (low, refl, inr (inr (refl, part_none (g.O.Sink.written c.args.out.now) x.out)))))
    (refused_or_done given bytes x h)

-- the outcome of accepted words, and of a refusal
pub returns-in-Ok-clause-outcome : goal.returns-in-Ok-clause-outcome
returns-in-Ok-clause-outcome g c =
    let held = g.F.Files.held c.args.files.now in
    let before = g.F.Files.faults c.args.files.now in
    let now = g.F.Files.faults c.run.new.files in
    let words = texts c.args.words.now in
    let choices = choices_of c.in-Ok.settings in
    outcome_weaker (c.run.new.out ≡ c.args.out.now) (c.run.new.err ≡ c.args.err.now)
    (λ text status. IsTold text status (g.O.Sink.written c.args.out.now) (g.O.Sink.written c.run.new.out) (g.O.Sink.faults c.args.out.now) (g.O.Sink.faults c.run.new.out) c.run.result)
    (λ text status. IsTold text status (g.E.Sink.written c.args.err.now) (g.E.Sink.written c.run.new.err) (g.E.Sink.faults c.args.err.now) (g.E.Sink.faults c.run.new.err) c.run.result)
    c.run.result (IsAnswerFrom choices held before now) (IsAllowed words held before now) (λ x from. accepts c.in-Ok.ensures from) c.run.ensures.outcome

pub returns-in-Ok-clause-unread : goal.returns-in-Ok-clause-unread
returns-in-Ok-clause-unread g c =
    unread_by (texts c.args.words.now) (g.F.Files.held c.args.files.now) (g.F.Files.faults c.args.files.now) (g.F.Files.faults c.run.new.files) (c.run.new.out ≡ c.args.out.now) (c.run.new.err ≡ c.args.err.now)
    (g.O.Sink.written c.args.out.now) (g.O.Sink.written c.run.new.out) (g.E.Sink.written c.args.err.now) (g.E.Sink.written c.run.new.err)
    (g.O.Sink.faults c.args.out.now) (g.O.Sink.faults c.run.new.out) (g.E.Sink.faults c.args.err.now) (g.E.Sink.faults c.run.new.err) c.run.result (returns-in-Ok-clause-outcome g c)

pub returns-in-Ok-clause-unput : goal.returns-in-Ok-clause-unput
returns-in-Ok-clause-unput g c =
    unput_by (texts c.args.words.now) (g.F.Files.held c.args.files.now) (g.F.Files.faults c.args.files.now) (g.F.Files.faults c.run.new.files) (c.run.new.out ≡ c.args.out.now) (c.run.new.err ≡ c.args.err.now)
    (g.O.Sink.written c.args.out.now) (g.O.Sink.written c.run.new.out) (g.E.Sink.written c.args.err.now) (g.E.Sink.written c.run.new.err)
    (g.O.Sink.faults c.args.out.now) (g.O.Sink.faults c.run.new.out) (g.E.Sink.faults c.args.err.now) (g.E.Sink.faults c.run.new.err) c.run.result (returns-in-Ok-clause-outcome g c)

pub returns-in-Err-Bad-clause-outcome : goal.returns-in-Err-Bad-clause-outcome
returns-in-Err-Bad-clause-outcome g c =
    let refusal : Refusal = record { number = c.in-Err-Bad.number; word = c.in-Err-Bad.word } in
    let refused = rw c.in-Err-Bad.field-0-is at c.in-Err-Bad.ensures in
    inl (record { status = 2; out = []; err = words_line refusal }, (refuses refused.0, inl (omega arith, refl, c.tell.ensures)))
