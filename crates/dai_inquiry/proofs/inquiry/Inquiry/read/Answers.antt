use Rattle.std.proofs.Common.{map, refl, sym, subst}
use Rattle.std.specs.Prelude.{IsSome}
use Rattle.dai_logic.specs.Protocols.{protocol_of}
use Rattle.dai_logic.specs.Tables.{structure_of}
use Rattle.dai_logic.specs.Trees.{formula_of}
use Rattle.dai_ground.specs.Answers.{IsFound}
use Rattle.dai_ground.specs.Turns.{IsFirstUnmet}
use Rattle.dai_ground.proofs.Answering.{AreDecoded}
use Rattle.dai_inquiry.proofs.Turning.{decodable_of, caller_of, found_of}
use Rattle.dai_inquiry.proofs.inquiry.Inquiry.read.Goals as goal

pub decode-requires : goal.decode-requires
decode-requires c =
    let q = c.requires.inquiry.1 in
    decodable_of (protocol_of c.args.protocol.now) q.called c.requires.inquiry.0 c.args.self.now.circuit c.args.self.now.pictures c.args.model.now q.is_open c.requires.model

pub found-requires-clause-known : goal.found-requires-clause-known
found-requires-clause-known c = subst IsSome (sym c.requires.inquiry.1.named) refl

pub found-requires-clause-caller : goal.found-requires-clause-caller
found-requires-clause-caller c =
    let P = protocol_of c.args.protocol.now in
    let q = c.requires.inquiry.1 in
    let p = c.args.self.now.pictures in
    let d = c.in_ok-decoded.ensures in
    let are : AreDecoded P p.frame p.before c.args.model.now c.in_ok-decoded.decoded = record { structure = d.structure; arguments = d.arguments; choices = d.choices } in
    caller_of P c.args.self.now.block q.called c.requires.inquiry.0 c.args.self.now.circuit p c.args.model.now c.in_ok-decoded.decoded q.named q.is_open c.requires.model are

pub returns-in_ok-found-in-None : goal.returns-in_ok-found-in-None
returns-in_ok-found-in-None c = λ sizes f asked q h on.
    let P = protocol_of c.args.protocol.now in
    let p = c.args.self.now.pictures in
    let premises = map formula_of c.args.premises.now in
    let d = c.in_ok-decoded.ensures in
    let are : AreDecoded P p.frame p.before c.args.model.now c.in_ok-decoded.decoded = record { structure = d.structure; arguments = d.arguments; choices = d.choices } in
    let met = subst (IsFirstUnmet (structure_of P c.in_ok-decoded.decoded.structure) premises) c.in-None.is c.in_ok-first_unmet.ensures in
    subst (λ b. IsFound P b premises f sizes c.in_ok-found-in-None.field-0) (sym q.named)
    (found_of P c.args.self.now.block q.called sizes f premises c.args.self.now.circuit p asked c.args.model.now c.in_ok-decoded.decoded c.in_ok-found-in-None.field-0 q.named q.is_open h c.requires.model on are d.fits met c.in_ok-found-in-None.ensures)

pub returns-in-Some : goal.returns-in-Some
returns-in-Some c = λ sizes f asked q h on.
    subst (IsFirstUnmet (structure_of (protocol_of c.args.protocol.now) c.in_ok-decoded.decoded.structure) (map formula_of c.args.premises.now)) c.in-Some.is c.in_ok-first_unmet.ensures
