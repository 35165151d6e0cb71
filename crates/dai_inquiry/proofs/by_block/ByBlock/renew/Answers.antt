use Rattle.std.proofs.Common.{refl, sym, subst}
use Rattle.std.proofs.lemmas.List.Elements.{All-set}
use Rattle.dai_logic.specs.Protocols.{protocol_of}
use Rattle.dai_inquiry.specs.Inquiries.{IsInquiry}
use Rattle.dai_inquiry.proofs.Places.{place_renewed}
use Rattle.dai_inquiry.proofs.by_block.ByBlock.renew.Goals as goal

pub reopen-requires-clause-inquiry : goal.reopen-requires-clause-inquiry
reopen-requires-clause-inquiry c =
    let P = protocol_of c.args.protocol.now in
    let old = c.index_mut-inquiry.result.now in
    subst (IsInquiry P c.args.sizes.now) (sym c.index_mut-inquiry.ensures.value) (c.requires.open c.args.place old c.requires.inside)

pub returns-clause-open : goal.returns-clause-open
returns-clause-open c =
    let P = protocol_of c.args.protocol.now in
    All-set (IsInquiry P c.args.sizes.now) c.args.self.now.opened.items c.args.place c.reopen.new.self c.reopen.ensures.inquiry c.requires.open

pub returns-clause-place : goal.returns-clause-place
returns-clause-place c = λ block h. place_renewed c.args.self.now _ block c.args.place c.index_mut-inquiry.result.now c.reopen.new.self c.index_mut-inquiry.ensures.value c.reopen.ensures.block refl h

pub returns-then-not-is_mostly_goals-clause-place : goal.returns-then-not-is_mostly_goals-clause-place
returns-then-not-is_mostly_goals-clause-place c = λ block h. place_renewed c.args.self.now _ block c.args.place c.index_mut-inquiry.result.now c.index_mut-inquiry.result.now c.index_mut-inquiry.ensures.value refl refl h
