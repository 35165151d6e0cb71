use Rattle.std.proofs.Common.{refl, subst}
use Rattle.dai_logic.specs.Protocols.{protocol_of}
use Rattle.dai_inquiry.specs.Truths.{IsTruth}
use Rattle.dai_inquiry.proofs.Turning.{later_goal}
use Rattle.dai_inquiry.proofs.inquiry.Inquiry.goal_bit.Goals as goal

pub returns-in_err-keep-clause-later : goal.returns-in_err-keep-clause-later
returns-in_err-keep-clause-later c =
    let P = protocol_of c.args.protocol.now in
    let p = c.args.self.now.pictures in
    let is = subst (λ f. IsTruth P p.frame p.after f c.truth.new.circuit c.in_ok-bit.bit) c.requires.key c.in_ok-bit.ensures.truth in
    later_goal P c.args.self.now _ refl refl refl c.truth.ensures.extends (λ h. c.keep.ensures P p.frame p.after c.truth.new.circuit h is)

pub returns-clause-later : goal.returns-clause-later
returns-clause-later c =
    let P = protocol_of c.args.protocol.now in
    let p = c.args.self.now.pictures in
    let is = subst (λ f. IsTruth P p.frame p.after f c.truth.new.circuit c.in_ok-bit.bit) c.requires.key c.in_ok-bit.ensures.truth in
    later_goal P c.args.self.now _ refl refl refl c.truth.ensures.extends (λ h. c.keep.ensures P p.frame p.after c.truth.new.circuit h is)
