use Rattle.std.proofs.Common.{◌≡◌, length, arith, rules}
use Rattle.dai_inquiry.proofs.Places.{place_pushed}
use Rattle.dai_inquiry.specs.declared.by_block.ByBlock.{ByBlock}
use Rattle.dai_inquiry.proofs.by_block.ByBlock.place_added.Goals as goal

pub returns-clause-place : goal.returns-clause-place
returns-clause-place c =
    let last : c.len-place.result ≡ length c.args.self.now.opened.items = search (rules, arith) in
    let q : ByBlock = record { opened = c.push.new.self; questions = c.args.self.now.questions } in
    place_pushed q c.args.self.now.opened.items c.args.block c.len-place.result c.in_ok-inquiry.inquiry c.in_ok-push.ensures.items last c.in_ok-inquiry.ensures.block
