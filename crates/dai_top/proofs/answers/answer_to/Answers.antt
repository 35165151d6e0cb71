use Rattle.std.proofs.Common.{◌≡◌, Some, sym, subst}
use Rattle.dai_logic.specs.Protocols.{protocol_of}
use Rattle.dai_words.specs.Readings.{choices_of}
use Rattle.dai_top.specs.Limits.{fault_of}
use Rattle.dai_top.specs.Answers.{refusal, IsAnswerTo, bad_choices}
use Rattle.dai_top.proofs.Faults.{all_passed_on}
use Rattle.dai_top.specs.declared.stop.Stop.{Stop}
use Rattle.dai_top.specs.Stops.{IsStop}
use Rattle.dai_top.proofs.OneAnswer.{done_on, stopped_by}
use Rattle.dai_top.proofs.answers.answer_to.Goals as goal

pub returns-in-Ok-clause-refused : goal.returns-in-Ok-clause-refused
returns-in-Ok-clause-refused c =
    let P = protocol_of c.in-Ok.protocol in
    let choices = choices_of c.args.settings.now in
    all_passed_on (λ f. fault_of choices P ≡ Some f) (λ f. IsAnswerTo choices c.args.bytes.now (refusal choices.operand f))
    (λ f h. bad_choices c.requires.short c.in-Ok.ensures.protocol h) c.answer_on.result c.answer_on.ensures.refused

pub returns-in-Ok-clause-answered : goal.returns-in-Ok-clause-answered
returns-in-Ok-clause-answered c =
    let P = protocol_of c.in-Ok.protocol in
    let choices = choices_of c.args.settings.now in
    done_on choices c.args.bytes.now P c.requires.short c.in-Ok.ensures.protocol c.requires.ranges.command c.answer_on.result c.answer_on.ensures.accepted c.answer_on.ensures.reported c.answer_on.ensures.counted

pub returns-in-Err-clause-refused : goal.returns-in-Err-clause-refused
returns-in-Err-clause-refused c =
    let S : Stop → Type 0 = λ s. IsStop (choices_of c.args.settings.now) c.args.bytes.now s in
    subst S (sym c.no_protocol.ensures) (stopped_by (choices_of c.args.settings.now) c.args.bytes.now c.in-Err.error c.requires.short c.in-Err.ensures.refused)
