use Rattle.std.proofs.Common.{map, refl, sym, subst}
use Rattle.dai_model.specs.WellSorted.{IsWellSorted, closed_scope}
use Rattle.dai_logic.specs.Protocols.{protocol_of}
use Rattle.dai_logic.specs.Trees.{formula_of}
use Rattle.dai_ground.proofs.Answering.{formula_at}
use Rattle.dai_inquiry.specs.Truths.{IsTruth}
use Rattle.dai_inquiry.proofs.Bits.{pick_of, premise_key}
use Rattle.dai_inquiry.proofs.Turning.{later_premise}
use Rattle.dai_inquiry.proofs.inquiry.Inquiry.ground_premise.Goals as goal

pub truth-requires-clause-closed : goal.truth-requires-clause-closed
truth-requires-clause-closed c =
    subst (λ g. IsWellSorted (protocol_of c.args.protocol.now) closed_scope (formula_of g)) (sym c.index-premises-number.is) (formula_at (protocol_of c.args.protocol.now) c.args.premises.now c.args.number c.index-premises-number.result c.requires.inside c.requires.premises)

pub returns-in_err-keep-clause-later : goal.returns-in_err-keep-clause-later
returns-in_err-keep-clause-later c =
    let P = protocol_of c.args.protocol.now in
    let p = c.args.self.now.pictures in
    let number = c.args.number in
    let key = c.index-keys-number.result in
    let own = premise_key P c.args.premises.now c.args.keys.now number c.index-premises-number.result key c.requires.keys c.requires.inside c.index-premises-number.is c.index-keys-number.is in
    let is = subst (λ f. IsTruth P p.frame p.before f c.truth.new.circuit c.in_ok-bit.bit) own.1 c.in_ok-bit.ensures.truth in
    later_premise P c.args.self.now _ refl refl refl c.truth.ensures.extends (λ h. c.keep.ensures P p.frame p.before c.truth.new.circuit h is)

pub returns-clause-later : goal.returns-clause-later
returns-clause-later c =
    let P = protocol_of c.args.protocol.now in
    let p = c.args.self.now.pictures in
    let number = c.args.number in
    let key = c.index-keys-number.result in
    let own = premise_key P c.args.premises.now c.args.keys.now number c.index-premises-number.result key c.requires.keys c.requires.inside c.index-premises-number.is c.index-keys-number.is in
    let is = subst (λ f. IsTruth P p.frame p.before f c.truth.new.circuit c.in_ok-bit.bit) own.1 c.in_ok-bit.ensures.truth in
    later_premise P c.args.self.now _ refl refl refl c.truth.ensures.extends (λ h. c.keep.ensures P p.frame p.before c.truth.new.circuit h is)

pub returns-clause-pick : goal.returns-clause-pick
returns-clause-pick c =
    let P = protocol_of c.args.protocol.now in
    let p = c.args.self.now.pictures in
    let number = c.args.number in
    let key = c.index-keys-number.result in
    let own = premise_key P c.args.premises.now c.args.keys.now number c.index-premises-number.result key c.requires.keys c.requires.inside c.index-premises-number.is c.index-keys-number.is in
    let is = subst (λ f. IsTruth P p.frame p.before f c.truth.new.circuit c.in_ok-bit.bit) own.1 c.in_ok-bit.ensures.truth in
    pick_of P p.frame p.before (map formula_of c.args.premises.now) c.truth.new.circuit c.args.keys.now number key c.in_ok-bit.bit c.requires.keys c.requires.named c.index-keys-number.is is
