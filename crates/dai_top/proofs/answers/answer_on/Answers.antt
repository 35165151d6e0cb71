use Rattle.std.proofs.Common.{◌≡◌, ◌≤◌, Some, sym, ◌∙◌, ap, subst}
use Rattle.std.specs.List.{All}
use Rattle.dai_logic.specs.Protocols.{protocol_of}
use Rattle.dai_words.specs.Readings.{choices_of}
use Rattle.dai_top.specs.Limits.{limit_fault, fault_of}
use Rattle.dai_top.proofs.Faults.{known_fault, passed_on, ok_always, bounds_small}
use Rattle.dai_top.proofs.answers.answer_on.Goals as goal

pub within_limits-requires-clause-variables : goal.within_limits-requires-clause-variables
within_limits-requires-clause-variables c =
    let P = protocol_of c.args.protocol.now in
    let is = c.deref.ensures.value ∙ c.in_ok-vars.ensures.bounds.0 in
    subst (All (λ bound. bound ≤ 4)) (sym is) (bounds_small (choices_of c.args.settings.now).variables P.sorts c.requires.variables)

pub returns-in_err-space-clause-refused : goal.returns-in_err-space-clause-refused
returns-in_err-space-clause-refused c =
    let P = protocol_of c.args.protocol.now in
    let choices = choices_of c.args.settings.now in
    let is = c.deref.ensures.value ∙ c.in_ok-vars.ensures.bounds.0 in
    passed_on (λ f. limit_fault P (record { variables = c.deref.result.now; literals = c.args.settings.now.lits }) c.args.settings.now.size ≡ Some f) (λ f. fault_of choices P ≡ Some f)
    (λ f h. known_fault choices P c.in_ok-vars.ensures.bounds.1 ∙ (ap (λ vs. limit_fault P (record { variables = vs; literals = c.args.settings.now.lits }) c.args.settings.now.size) (sym is) ∙ h))
    c.from_residual-in_err-space.result c.in_err-space.field-0.0 c.from_residual-in_err-space.ensures.1 c.in_err-space.ensures.refused

pub returns-in-Infer-clause-accepted : goal.returns-in-Infer-clause-accepted
returns-in-Infer-clause-accepted c =
    let P = protocol_of c.args.protocol.now in
    let choices = choices_of c.args.settings.now in
    let is = c.deref.ensures.value ∙ c.in_ok-vars.ensures.bounds.0 in
    let within = ap (λ vs. limit_fault P (record { variables = vs; literals = c.args.settings.now.lits }) c.args.settings.now.size) (sym is) ∙ c.in_ok-space.ensures.within in
    ok_always c.infer.result (known_fault choices P c.in_ok-vars.ensures.bounds.1 ∙ within)

pub returns-in-Space-clause-accepted : goal.returns-in-Space-clause-accepted
returns-in-Space-clause-accepted c =
    let P = protocol_of c.args.protocol.now in
    let choices = choices_of c.args.settings.now in
    let is = c.deref.ensures.value ∙ c.in_ok-vars.ensures.bounds.0 in
    let within = ap (λ vs. limit_fault P (record { variables = vs; literals = c.args.settings.now.lits }) c.args.settings.now.size) (sym is) ∙ c.in_ok-space.ensures.within in
    ok_always c.count.result (known_fault choices P c.in_ok-vars.ensures.bounds.1 ∙ within)
