use Rattle.std.proofs.Common.{◌≡◌, ◌∙◌, [], Option, Some, IfSome, ap, sym, subst, refl}
use Rattle.std.specs.Option.{option_map}
use Rattle.dai_model.specs.Execution.{executes}
use Rattle.dai_logic.specs.declared.structure.Structure.{Structure}
use Rattle.dai_logic.specs.Protocols.{protocol_of}
use Rattle.dai_logic.specs.Tables.{structure_of, Fits}
use Rattle.dai_logic.proofs.Accepted.{is_protocol}
use Rattle.dai_table.specs.declared.steps.Step.{Step}
use Rattle.dai_table.specs.Flags.{IsFlags, state}
use Rattle.dai_table.specs.Steps.{one_added}
use Rattle.dai_table.proofs.Valued.{structure_fits, structure_is}
use Rattle.dai_table.proofs.Stepping.{block_call}
use Rattle.dai_table.proofs.steps.add_step.Goals as goal

pub exec-requires-clause-fits : goal.exec-requires-clause-fits
exec-requires-clause-fits c =
    let e = c.in_ok-s.ensures in
    (structure_fits (protocol_of c.args.protocol.now) c.in_ok-s.s c.args.before.now (is_protocol c.args.protocol.now) c.requires.table c.requires.state e.sizes e.tables e.values).structure

pub exec-requires-clause-call : goal.exec-requires-clause-call
exec-requires-clause-call c = block_call (protocol_of c.args.protocol.now) c.args.block c.in_ok-s.s (is_protocol c.args.protocol.now) c.requires.table.no_types c.requires.block

pub flags_of-requires : goal.flags_of-requires
flags_of-requires c =
    let P = protocol_of c.args.protocol.now in
    let fits : Fits P c.in-Some.t = subst (λ (o : Option Structure). IfSome o (Fits P)) c.in-Some.is c.in_ok-t.ensures.fits in
    (P, record { protocol = is_protocol c.args.protocol.now; no_types = c.requires.table.no_types; structure = fits })

pub returns : goal.returns
returns c = λ b named.
    let P = protocol_of c.args.protocol.now in
    let e = c.in_ok-s.ensures in
    let before = c.args.before.now in
    let t = c.in-Some.t in
    let fits : Fits P t = subst (λ (o : Option Structure). IfSome o (Fits P)) c.in-Some.is c.in_ok-t.ensures.fits in
    let flags : IsFlags P t = record { protocol = is_protocol c.args.protocol.now; no_types = c.requires.table.no_types; structure = fits } in
    let after = c.in_ok-after.after in
    let step : Step = record { from = c.args.from; after = after } in
    let same = structure_is P c.in_ok-s.s before (is_protocol c.args.protocol.now) c.requires.table c.requires.state e.sizes e.tables e.values in
    let left : executes P b (state P before) [] [] ≡ Some (state P after.items) =
    ap (λ s. executes P b s [] []) (sym same) ∙ sym (c.in_ok-t.ensures.left b named) ∙ ap (option_map (structure_of P)) c.in-Some.is ∙ ap Some (sym (c.in_ok-after.ensures.state P flags)) in
    one_added step c.in_ok-push.ensures.items refl (c.in_ok-after.ensures.long P flags) left
