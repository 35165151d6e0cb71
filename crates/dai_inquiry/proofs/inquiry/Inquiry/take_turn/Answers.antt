use Rattle.std.proofs.Common.{◌≡◌, ℕ, List, Bool, true, length, map, refl, ap, sym, subst, ◌∙◌}
use Rattle.std.proofs.lemmas.Result.{IfOk-weaker}
use Rattle.dai_model.specs.Formula as Model
use Rattle.dai_circuit.specs.declared.bit.Bit.{Bit}
use Rattle.dai_circuit.specs.Circuits.{AreBitsBelow, IsCore, IsSolved, all_value}
use Rattle.dai_circuit.proofs.Extensions.{extends_equal, extends_self}
use Rattle.dai_trail.specs.Formula.{Formula, IsModelOf}
use Rattle.dai_logic.specs.Protocols.{protocol_of, block_named}
use Rattle.dai_logic.specs.Trees.{formula_of}
use Rattle.dai_ground.specs.Answers.{NoneRefutes, picked}
use Rattle.dai_inquiry.specs.Inquiries.{IsInquiry}
use Rattle.dai_inquiry.specs.Asked.{AreAsked, parts_of, IsTurn}
use Rattle.dai_inquiry.proofs.Cores.{asked_below}
use Rattle.dai_inquiry.proofs.Turning.{later_extended, inquiry_later, none_left}
use Rattle.dai_inquiry.proofs.inquiry.Inquiry.take_turn.Goals as goal

pub solve_under-requires : goal.solve_under-requires
solve_under-requires c =
    let P = protocol_of c.args.protocol.now in
    let g = c.args.self.now.circuit in
    let below = asked_below P c.args.self.now.pictures (map formula_of c.args.premises.now) c.requires.asked.0 g c.args.asked.now c.requires.asked.1 in
    subst (AreBitsBelow g.vars) (sym (c.as_slice.ensures.value ∙ c.in_ok-parts.ensures)) below

pub returns-in_err-self-clause-later : goal.returns-in_err-self-clause-later
returns-in_err-self-clause-later c =
    let P = protocol_of c.args.protocol.now in
    later_extended P c.args.self.now _ refl refl refl refl (extends_self c.args.self.now.circuit)

pub returns-in_err-parts-clause-later : goal.returns-in_err-parts-clause-later
returns-in_err-parts-clause-later c =
    let P = protocol_of c.args.protocol.now in
    later_extended P c.args.self.now _ refl refl refl refl (extends_self c.args.self.now.circuit)

pub returns-in_err-core-clause-later : goal.returns-in_err-core-clause-later
returns-in_err-core-clause-later c =
    let P = protocol_of c.args.protocol.now in
    later_extended P c.args.self.now _ refl refl refl refl (extends_equal c.args.self.now.circuit c.solve_under.new.self c.solve_under.ensures.same)

pub returns-in_err-needed-in-Core-clause-later : goal.returns-in_err-needed-in-Core-clause-later
returns-in_err-needed-in-Core-clause-later c =
    let P = protocol_of c.args.protocol.now in
    later_extended P c.args.self.now _ refl refl refl refl (extends_equal c.args.self.now.circuit c.solve_under.new.self c.solve_under.ensures.same)

pub returns-in-Core-clause-later : goal.returns-in-Core-clause-later
returns-in-Core-clause-later c =
    let P = protocol_of c.args.protocol.now in
    later_extended P c.args.self.now _ refl refl refl refl (extends_equal c.args.self.now.circuit c.solve_under.new.self c.solve_under.ensures.same)

pub returns-clause-later : goal.returns-clause-later
returns-clause-later c =
    let P = protocol_of c.args.protocol.now in
    later_extended P c.args.self.now _ refl refl refl refl (extends_equal c.args.self.now.circuit c.solve_under.new.self c.solve_under.ensures.same)

pub needed-requires : goal.needed-requires
needed-requires c =
    let told = subst (IsSolved c.args.self.now.circuit c.as_slice.result.now) c.in-Core.is c.in_ok-core.ensures.answer in
    ap (λ (xs : List Bool). length xs) c.as_slice-in-Core.ensures.value ∙ (told.0 ∙ ap (λ (ps : List Bit). length ps) (c.as_slice.ensures.value ∙ c.in_ok-parts.ensures))

pub returns-in-Core-clause-turn : goal.returns-in-Core-clause-turn
returns-in-Core-clause-turn c = λ sizes f q h.
    let P = protocol_of c.args.protocol.now in
    let g = c.args.self.now.circuit in
    let p = c.args.self.now.pictures in
    let premises = map formula_of c.args.premises.now in
    let asked = c.args.asked.now in
    let core = c.as_slice-in-Core.result.now in
    let numbers = c.in_ok-needed-in-Core.field-0.items in
    let told = subst (IsSolved g c.as_slice.result.now) c.in-Core.is c.in_ok-core.ensures.answer in
    let is = subst (IsCore g (parts_of asked)) (sym c.as_slice-in-Core.ensures.value) (subst (λ ps. IsCore g ps c.in-Core.core.items) (c.as_slice.ensures.value ∙ c.in_ok-parts.ensures) told.1) in
    let none = none_left P q.called sizes premises f g p asked core numbers q.is_open h is c.in_ok-needed-in-Core.ensures.covered in (
      c.in_ok-needed-in-Core.ensures.inside (length premises) (λ k d below. (h.each k d below).inside),
      subst (λ b. NoneRefutes P b (picked premises numbers) f sizes) (sym q.named) none,
    )

pub read-requires-clause-inquiry : goal.read-requires-clause-inquiry
read-requires-clause-inquiry c =
    let P = protocol_of c.args.protocol.now in
    let sizes = c.requires.inquiry.0 in
    (sizes, inquiry_later P sizes c.args.self.now _ (later_extended P c.args.self.now _ refl refl refl refl (extends_equal c.args.self.now.circuit c.solve_under.new.self c.solve_under.ensures.same)) c.requires.inquiry.1)

pub read-requires-clause-model : goal.read-requires-clause-model
read-requires-clause-model c =
    let told = subst (IsSolved c.args.self.now.circuit c.as_slice.result.now) c.in-Model.is c.in_ok-core.ensures.answer in
    subst (IsModelOf c.solve_under.new.self) (sym c.as_slice-in-Model.ensures.value) (subst (λ (g : Formula). IsModelOf g c.in-Model.model.items) (sym c.solve_under.ensures.same) told.0)

pub returns-clause-turn : goal.returns-clause-turn
returns-clause-turn c =
    let P = protocol_of c.args.protocol.now in
    let self = c.args.self.now in
    let p = self.pictures in
    let premises = map formula_of c.args.premises.now in
    let asked = c.args.asked.now in
    let told = subst (IsSolved self.circuit c.as_slice.result.now) c.in-Model.is c.in_ok-core.ensures.answer in
    let on : all_value (parts_of asked) c.as_slice-in-Model.result.now ≡ true =
    ap (λ (bits : List Bool). all_value (parts_of asked) bits) c.as_slice-in-Model.ensures.value ∙ (ap (λ (ps : List Bit). all_value ps c.in-Model.model.items) (sym (c.as_slice.ensures.value ∙ c.in_ok-parts.ensures)) ∙ told.1) in
    IfOk-weaker c.read.result _ (λ t. (sizes : List ℕ) (f : Model.Formula) → IsInquiry P sizes self → AreAsked P p premises f self.circuit asked → IsTurn P (block_named P self.block) premises f sizes t)
    (λ t h sizes f q are.
    h sizes f asked (inquiry_later P sizes self _ (later_extended P self _ refl refl refl refl (extends_equal self.circuit c.solve_under.new.self c.solve_under.ensures.same)) q)
    (subst (λ (g : Formula). AreAsked P p premises f g asked) (sym c.solve_under.ensures.same) are) on)
    c.read.ensures
