use Rattle.std.proofs.Common.{◌≡◌, Some, subst}
use Rattle.dai_logic.specs.Protocols.{protocol_of, block_named}
use Rattle.dai_inquiry.proofs.inquiry.Inquiry.reopen.Goals as goal

pub returns-clause-inquiry : goal.returns-clause-inquiry
returns-clause-inquiry c =
    let P = protocol_of c.args.protocol.now in
    let q = c.in_ok-circuit.ensures.is_open in
    record { called = q.called; named = subst (λ b. block_named P b ≡ Some q.called) c.in_ok-circuit.ensures.block q.named; is_open = q.is_open; premises = q.premises; goals = q.goals }
