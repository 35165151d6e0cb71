use Rattle.std.proofs.Common.{sym, ap, ◌∙◌, subst}
use Rattle.dai_model.specs.Execution.{after_statements}
use Rattle.dai_logic.specs.Trees.{statements_of}
use Rattle.dai_logic.specs.Protocols.{protocol_of}
use Rattle.dai_logic.specs.Environments.{environment_of}
use Rattle.dai_logic.specs.Tables.{structure_of, IsRunnable}
use Rattle.dai_logic.proofs.Accepted.{is_protocol}
use Rattle.dai_logic.proofs.Calls.{named_some, entered_executes, entered_runnable}
use Rattle.dai_logic.proofs.execution.step.Goals as goal

pub code_of-code-requires : goal.code_of-code-requires
code_of-code-requires c =
    named_some (protocol_of c.args.protocol.now) c.args.block c.requires.call.call.called c.requires.call.call.named

pub passed-requires-clause-fits : goal.passed-requires-clause-fits
passed-requires-clause-fits c =
    c.requires.fits

pub passed-requires-clause-code : goal.passed-requires-clause-code
passed-requires-clause-code c =
    entered_runnable (protocol_of c.args.protocol.now) c.args.block c.args.s.now c.args.env.now (statements_of c.code_of-code.result.now) (is_protocol c.args.protocol.now) c.requires.call c.code_of-code.ensures

pub returns-in-None-clause-stepped : goal.returns-in-None-clause-stepped
returns-in-None-clause-stepped c =
    record { left = λ called named. (entered_executes (protocol_of c.args.protocol.now) c.args.block c.args.s.now c.args.env.now (statements_of c.code_of-code.result.now) c.requires.call c.code_of-code.ensures called named) ∙ c.in-None.ensures.passed; fits = λ h. absurd (let k : ⊥ = cc in k) }

pub returns-in-None-clause-room : goal.returns-in-None-clause-room
returns-in-None-clause-room c =
    c.requires.room

pub returns-in-None-clause-unchanged : goal.returns-in-None-clause-unchanged
returns-in-None-clause-unchanged c =
    c.passed.ensures.unchanged

pub behind-requires : goal.behind-requires
behind-requires c =
    c.in-Some.ensures.passed.within

pub resume-requires-clause-fits : goal.resume-requires-clause-fits
resume-requires-clause-fits c =
    c.requires.fits

pub resume-requires-clause-room : goal.resume-requires-clause-room
resume-requires-clause-room c =
    c.requires.room

pub resume-requires-clause-code : goal.resume-requires-clause-code
resume-requires-clause-code c =
    (subst (λ a. IsRunnable (protocol_of c.args.protocol.now) c.args.s.now.sizes.items (environment_of a) (statements_of c.behind.result.now)) (sym c.passed.ensures.unchanged) (subst (λ xs. IsRunnable (protocol_of c.args.protocol.now) c.args.s.now.sizes.items (environment_of c.args.env.now) (statements_of xs)) (sym c.behind.ensures) c.in-Some.ensures.passed.runnable))

pub returns-in-Some-clause-stepped : goal.returns-in-Some-clause-stepped
returns-in-Some-clause-stepped c =
    record { left = λ called named. (entered_executes (protocol_of c.args.protocol.now) c.args.block c.args.s.now c.args.env.now (statements_of c.code_of-code.result.now) c.requires.call c.code_of-code.ensures called named) ∙ (c.in-Some.ensures.passed.same ∙ (ap (λ xs. after_statements (protocol_of c.args.protocol.now) (environment_of c.args.env.now) (statements_of xs) (structure_of (protocol_of c.args.protocol.now) c.args.s.now)) (sym c.behind.ensures) ∙ (ap (λ a. after_statements (protocol_of c.args.protocol.now) (environment_of a) (statements_of c.behind.result.now) (structure_of (protocol_of c.args.protocol.now) c.args.s.now)) (sym c.passed.ensures.unchanged) ∙ c.resume.ensures.left))); fits = λ h. c.resume.ensures.fits }

pub returns-in-Some-clause-room : goal.returns-in-Some-clause-room
returns-in-Some-clause-room c =
    c.resume.ensures.room

pub returns-in-Some-clause-unchanged : goal.returns-in-Some-clause-unchanged
returns-in-Some-clause-unchanged c =
    c.resume.ensures.unchanged ∙ c.passed.ensures.unchanged
