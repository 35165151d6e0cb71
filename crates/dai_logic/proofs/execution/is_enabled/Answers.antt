use Rattle.std.proofs.Common.{◌≡◌, Bool, true, false, not, Some, None, sym, ap, ◌∙◌, refl, subst}
use Rattle.std.specs.Prelude.{if◌then◌else◌}
use Rattle.std.specs.Option.{is_some}
use Rattle.dai_model.specs.Execution.{after_statements}
use Rattle.dai_logic.specs.Trees.{statements_of}
use Rattle.dai_logic.specs.Protocols.{protocol_of}
use Rattle.dai_logic.specs.Environments.{environment_of}
use Rattle.dai_logic.specs.Tables.{structure_of, IsRunnable}
use Rattle.dai_logic.proofs.Accepted.{is_protocol}
use Rattle.dai_logic.proofs.Calls.{named_some, entered_executes, entered_runnable}
use Rattle.dai_logic.proofs.Required.{statements_leave}
use Rattle.dai_logic.proofs.execution.is_enabled.Goals as goal

is_some_if : {A : Type 0} (t : A) (b : Bool) → is_some (if b then Some t else None) ≡ b
is_some_if t true = refl
is_some_if t false = refl

pub code_of-code-requires : goal.code_of-code-requires
code_of-code-requires c =
    named_some (protocol_of c.args.protocol.now) c.args.block c.requires.call.call.called c.requires.call.call.named

pub passed-requires-clause-fits : goal.passed-requires-clause-fits
passed-requires-clause-fits c =
    c.requires.fits

pub passed-requires-clause-code : goal.passed-requires-clause-code
passed-requires-clause-code c =
    entered_runnable (protocol_of c.args.protocol.now) c.args.block c.args.s.now c.args.env.now (statements_of c.code_of-code.result.now) (is_protocol c.args.protocol.now) c.requires.call c.code_of-code.ensures

pub returns-in-None-clause-enabled : goal.returns-in-None-clause-enabled
returns-in-None-clause-enabled c =
    λ called named. sym (ap (λ o. is_some o) ((entered_executes (protocol_of c.args.protocol.now) c.args.block c.args.s.now c.args.env.now (statements_of c.code_of-code.result.now) c.requires.call c.code_of-code.ensures called named) ∙ c.in-None.ensures.passed))

pub returns-in-None-clause-room : goal.returns-in-None-clause-room
returns-in-None-clause-room c =
    c.requires.room

pub returns-in-None-clause-unchanged : goal.returns-in-None-clause-unchanged
returns-in-None-clause-unchanged c =
    c.passed.ensures.unchanged

pub behind-rest-requires : goal.behind-rest-requires
behind-rest-requires c =
    c.in-Some.ensures.passed.within

pub returns-then-not-have_requirement-clause-enabled : goal.returns-then-not-have_requirement-clause-enabled
returns-then-not-have_requirement-clause-enabled c =
    λ called named. ap not c.if-not-have_requirement.true ∙ sym (ap (λ o. is_some o) ((entered_executes (protocol_of c.args.protocol.now) c.args.block c.args.s.now c.args.env.now (statements_of c.code_of-code.result.now) c.requires.call c.code_of-code.ensures called named) ∙ (c.in-Some.ensures.passed.same ∙ ap (λ xs. after_statements (protocol_of c.args.protocol.now) (environment_of c.args.env.now) (statements_of xs) (structure_of (protocol_of c.args.protocol.now) c.args.s.now)) (sym c.behind-rest.ensures))) ∙ statements_leave (protocol_of c.args.protocol.now) (environment_of c.args.env.now) (statements_of c.behind-rest.result.now) (structure_of (protocol_of c.args.protocol.now) c.args.s.now) (sym c.if-not-have_requirement.ensures))

pub returns-then-not-have_requirement-clause-room : goal.returns-then-not-have_requirement-clause-room
returns-then-not-have_requirement-clause-room c =
    c.requires.room

pub returns-then-not-have_requirement-clause-unchanged : goal.returns-then-not-have_requirement-clause-unchanged
returns-then-not-have_requirement-clause-unchanged c =
    c.passed.ensures.unchanged

pub resume-requires-clause-fits : goal.resume-requires-clause-fits
resume-requires-clause-fits c =
    c.requires.fits

pub resume-requires-clause-room : goal.resume-requires-clause-room
resume-requires-clause-room c =
    c.requires.room

pub resume-requires-clause-code : goal.resume-requires-clause-code
resume-requires-clause-code c =
    (subst (λ a. IsRunnable (protocol_of c.args.protocol.now) c.args.s.now.sizes.items (environment_of a) (statements_of c.behind-rest.result.now)) (sym c.passed.ensures.unchanged) (subst (λ xs. IsRunnable (protocol_of c.args.protocol.now) c.args.s.now.sizes.items (environment_of c.args.env.now) (statements_of xs)) (sym c.behind-rest.ensures) c.in-Some.ensures.passed.runnable))

pub returns-else-not-have_requirement-clause-enabled : goal.returns-else-not-have_requirement-clause-enabled
returns-else-not-have_requirement-clause-enabled c =
    λ called named. sym (ap (λ o. is_some o) ((entered_executes (protocol_of c.args.protocol.now) c.args.block c.args.s.now c.args.env.now (statements_of c.code_of-code.result.now) c.requires.call c.code_of-code.ensures called named) ∙ (c.in-Some.ensures.passed.same ∙ (ap (λ xs. after_statements (protocol_of c.args.protocol.now) (environment_of c.args.env.now) (statements_of xs) (structure_of (protocol_of c.args.protocol.now) c.args.s.now)) (sym c.behind-rest.ensures) ∙ (ap (λ a. after_statements (protocol_of c.args.protocol.now) (environment_of a) (statements_of c.behind-rest.result.now) (structure_of (protocol_of c.args.protocol.now) c.args.s.now)) (sym c.passed.ensures.unchanged) ∙ c.resume.ensures.left)))) ∙ is_some_if _ c.resume.result)

pub returns-else-not-have_requirement-clause-room : goal.returns-else-not-have_requirement-clause-room
returns-else-not-have_requirement-clause-room c =
    c.resume.ensures.room

pub returns-else-not-have_requirement-clause-unchanged : goal.returns-else-not-have_requirement-clause-unchanged
returns-else-not-have_requirement-clause-unchanged c =
    c.resume.ensures.unchanged ∙ c.passed.ensures.unchanged
