use Rattle.dai_logic.specs.Protocols.{protocol_of}
use Rattle.dai_ground.specs.Asking.{block_asked}
use Rattle.dai_ground.proofs.Answering.{AreDecoded, decodable_of, caller_of, decoded_of, answer_of, decoded_again}
use Rattle.dai_ground.proofs.wide.Wide.decode.Goals as goal

pub decode-requires : goal.decode-requires
decode-requires c =
    let P = protocol_of c.args.protocol.now in
    let q = c.requires.question in
    decodable_of P (block_asked P c.args.block) q.0 q.1 q.2 q.3 c.args.self.now c.args.model.now c.requires.model q.4

pub found-requires-clause-caller : goal.found-requires-clause-caller
found-requires-clause-caller c =
    let P = protocol_of c.args.protocol.now in
    let q = c.requires.question in
    let are : AreDecoded P c.args.self.now.frame c.args.self.now.picture c.args.model.now c.in_ok-decoded.decoded = record { structure = c.in_ok-decoded.ensures.structure; arguments = c.in_ok-decoded.ensures.arguments; choices = c.in_ok-decoded.ensures.choices } in
    caller_of P c.args.block q.0 q.1 q.2 q.3 c.args.self.now c.args.model.now c.in_ok-decoded.decoded c.requires.model q.4 are

pub returns-clause-shown : goal.returns-clause-shown
returns-clause-shown c =
    let P = protocol_of c.args.protocol.now in
    let q = c.requires.question in
    let are : AreDecoded P c.args.self.now.frame c.args.self.now.picture c.args.model.now c.in_ok-decoded.decoded = record { structure = c.in_ok-decoded.ensures.structure; arguments = c.in_ok-decoded.ensures.arguments; choices = c.in_ok-decoded.ensures.choices } in
    decoded_of P c.args.block q.0 q.1 q.2 q.3 c.args.self.now c.args.model.now c.in_ok-decoded.decoded c.in_ok-answer.answer c.requires.model q.4 are c.in_ok-decoded.ensures.fits c.in_ok-answer.ensures

pub returns-clause-answers : goal.returns-clause-answers
returns-clause-answers c = λ exact sizes before broken h.
    let P = protocol_of c.args.protocol.now in
    let asked = block_asked P c.args.block in
    let are : AreDecoded P c.args.self.now.frame c.args.self.now.picture c.args.model.now c.in_ok-decoded.decoded = record { structure = c.in_ok-decoded.ensures.structure; arguments = c.in_ok-decoded.ensures.arguments; choices = c.in_ok-decoded.ensures.choices } in
    answer_of P asked exact sizes before broken c.args.self.now c.args.model.now c.in_ok-answer.answer c.requires.model.meets
    (decoded_of P c.args.block exact sizes before broken c.args.self.now c.args.model.now c.in_ok-decoded.decoded c.in_ok-answer.answer c.requires.model h are c.in_ok-decoded.ensures.fits c.in_ok-answer.ensures) h

pub returns-clause-decides : goal.returns-clause-decides
returns-clause-decides c = λ decided more agree.
    let P = protocol_of c.args.protocol.now in
    let q = c.requires.question in
    let are : AreDecoded P c.args.self.now.frame c.args.self.now.picture c.args.model.now c.in_ok-decoded.decoded = record { structure = c.in_ok-decoded.ensures.structure; arguments = c.in_ok-decoded.ensures.arguments; choices = c.in_ok-decoded.ensures.choices } in
    decoded_again P (block_asked P c.args.block) c.args.self.now c.args.model.now more c.in_ok-answer.answer decided agree
    (decoded_of P c.args.block q.0 q.1 q.2 q.3 c.args.self.now c.args.model.now c.in_ok-decoded.decoded c.in_ok-answer.answer c.requires.model q.4 are c.in_ok-decoded.ensures.fits c.in_ok-answer.ensures)
