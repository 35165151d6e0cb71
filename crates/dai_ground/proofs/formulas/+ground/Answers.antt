use Rattle.std.proofs.Common.{rules, ◌≡◌, ◌+◌, ◌<◌, true, false, get_or, set, length, Ok, ap, sym, ◌∙◌, subst, refl, arith}
use Rattle.std.proofs.lemmas.List.{take_all, set-get_or}
use Rattle.dai_circuit.specs.declared.bit.Bit.TheVariants.{Known}
use Rattle.dai_circuit.proofs.Extensions.{extends_self}
use Rattle.dai_model.specs.Formula.{conjunction, disjunction, equivalence, implication}
use Rattle.dai_logic.specs.declared.protocol.Formula.{the_lemmas}
use Rattle.dai_logic.specs.Protocols.{protocol_of}
use Rattle.dai_logic.specs.Trees.{formula_of, formulas_of}
use Rattle.dai_logic.proofs.Trees.{formula_of-All, formula_of-Any, formula_of-Iff}
use Rattle.dai_logic.proofs.Elements.{size_read}
use Rattle.dai_picture.specs.Pictures.{rows_of, row_at}
use Rattle.dai_ground.proofs.Placed.{row_below, many_rows}
use Rattle.dai_ground.specs.Findings.{HaveValues}
use Rattle.dai_ground.specs.Grounding.{IsFormulaIn, AreValues, AreSlotValues, Grounds}
use Rattle.dai_ground.proofs.Findings.{extends_after, have_kept}
use Rattle.dai_ground.proofs.FormulaBits.{AreFirstValues, placed_kept, formula_item, truth_grounds, negation_grounds, conjunction_grounds, disjunction_grounds, equivalence_grounds, implication_grounds, first_none, first_more, first_all}
use Rattle.dai_ground.proofs.SlotBits.{used_long, for_all_grounds, for_some_grounds, set_back, bind_back, body_in, slot_bit, slots_none, slots_more, slots_all}
use Rattle.dai_ground.proofs.formulas.+ground.Goals as goal

pub ground-conjunction-requires : goal.ground-conjunction-requires
ground-conjunction-requires t c =
    (search (rules, the_lemmas, c.deref-in-All.ensures.value), subst (IsFormulaIn (protocol_of c.args.scene.now.protocol.now) c.args.scene.now.frame.now c.args.scene.now.picture.now c.args.circuit.now.vars c.args.binding.now) (ap formula_of c.in-All.is ∙ (formula_of-All c.in-All.parts ∙ ap (λ fs. conjunction (formulas_of fs)) (sym c.deref-in-All.ensures.value))) c.requires)

pub ground-returns-in-All-clause-grounds : goal.ground-returns-in-All-clause-grounds
ground-returns-in-All-clause-grounds t c =
    subst (λ f. Grounds (protocol_of c.args.scene.now.protocol.now) c.args.scene.now.frame.now c.args.scene.now.picture.now c.args.binding.now f c.args.circuit.now c.conjunction.new.circuit c.conjunction.result) (sym (ap formula_of c.in-All.is ∙ (formula_of-All c.in-All.parts ∙ ap (λ fs. conjunction (formulas_of fs)) (sym c.deref-in-All.ensures.value)))) c.conjunction.ensures.grounds

pub ground-disjunction-requires : goal.ground-disjunction-requires
ground-disjunction-requires t c =
    (search (rules, the_lemmas, c.deref-in-Any.ensures.value), subst (IsFormulaIn (protocol_of c.args.scene.now.protocol.now) c.args.scene.now.frame.now c.args.scene.now.picture.now c.args.circuit.now.vars c.args.binding.now) (ap formula_of c.in-Any.is ∙ (formula_of-Any c.in-Any.parts ∙ ap (λ fs. disjunction (formulas_of fs)) (sym c.deref-in-Any.ensures.value))) c.requires)

pub ground-returns-in-Any-clause-grounds : goal.ground-returns-in-Any-clause-grounds
ground-returns-in-Any-clause-grounds t c =
    subst (λ f. Grounds (protocol_of c.args.scene.now.protocol.now) c.args.scene.now.frame.now c.args.scene.now.picture.now c.args.binding.now f c.args.circuit.now c.disjunction.new.circuit c.disjunction.result) (sym (ap formula_of c.in-Any.is ∙ (formula_of-Any c.in-Any.parts ∙ ap (λ fs. disjunction (formulas_of fs)) (sym c.deref-in-Any.ensures.value)))) c.disjunction.ensures.grounds

pub ground-equivalence-requires : goal.ground-equivalence-requires
ground-equivalence-requires t c =
    (search (rules, the_lemmas, c.deref-in-Iff.ensures.value), subst (IsFormulaIn (protocol_of c.args.scene.now.protocol.now) c.args.scene.now.frame.now c.args.scene.now.picture.now c.args.circuit.now.vars c.args.binding.now) (ap formula_of c.in-Iff.is ∙ (formula_of-Iff c.in-Iff.parts ∙ ap (λ fs. equivalence (formulas_of fs)) (sym c.deref-in-Iff.ensures.value))) c.requires)

pub ground-returns-in-Iff-clause-grounds : goal.ground-returns-in-Iff-clause-grounds
ground-returns-in-Iff-clause-grounds t c =
    subst (λ f. Grounds (protocol_of c.args.scene.now.protocol.now) c.args.scene.now.frame.now c.args.scene.now.picture.now c.args.binding.now f c.args.circuit.now c.equivalence.new.circuit c.equivalence.result) (sym (ap formula_of c.in-Iff.is ∙ (formula_of-Iff c.in-Iff.parts ∙ ap (λ fs. equivalence (formulas_of fs)) (sym c.deref-in-Iff.ensures.value)))) c.equivalence.ensures.grounds

pub ground-returns-in-Truth-clause-grounds : goal.ground-returns-in-Truth-clause-grounds
ground-returns-in-Truth-clause-grounds t c =
    subst (λ f. Grounds (protocol_of c.args.scene.now.protocol.now) c.args.scene.now.frame.now c.args.scene.now.picture.now c.args.binding.now f c.args.circuit.now c.args.circuit.now (Ok (Known c.in-Truth.value))) (sym (ap formula_of c.in-Truth.is)) (truth_grounds (protocol_of c.args.scene.now.protocol.now) c.args.scene.now.frame.now c.args.scene.now.picture.now c.args.binding.now c.in-Truth.value c.args.circuit.now)

pub conjunction-returns-clause-grounds : goal.conjunction-returns-clause-grounds
conjunction-returns-clause-grounds t c =
    conjunction_grounds (protocol_of c.args.scene.now.protocol.now) c.args.scene.now.frame.now c.args.scene.now.picture.now c.args.binding.now (formulas_of c.args.parts.now) c.args.circuit.now c.ground_each.new.circuit c.all.new.self c.as_slice.result.now c.all.result c.ground_each.ensures.grounds.extends
    (subst (HaveValues (AreValues (protocol_of c.args.scene.now.protocol.now) c.args.scene.now.frame.now c.args.scene.now.picture.now c.args.binding.now (formulas_of c.args.parts.now)) c.ground_each.new.circuit) (sym c.as_slice.ensures.value) c.in_ok-bits.ensures.grounds.answer)
    c.all.ensures

pub disjunction-returns-clause-grounds : goal.disjunction-returns-clause-grounds
disjunction-returns-clause-grounds t c =
    disjunction_grounds (protocol_of c.args.scene.now.protocol.now) c.args.scene.now.frame.now c.args.scene.now.picture.now c.args.binding.now (formulas_of c.args.parts.now) c.args.circuit.now c.ground_each.new.circuit c.any.new.self c.as_slice.result.now c.any.result c.ground_each.ensures.grounds.extends
    (subst (HaveValues (AreValues (protocol_of c.args.scene.now.protocol.now) c.args.scene.now.frame.now c.args.scene.now.picture.now c.args.binding.now (formulas_of c.args.parts.now)) c.ground_each.new.circuit) (sym c.as_slice.ensures.value) c.in_ok-bits.ensures.grounds.answer)
    c.any.ensures

pub equivalence-returns-clause-grounds : goal.equivalence-returns-clause-grounds
equivalence-returns-clause-grounds t c =
    equivalence_grounds (protocol_of c.args.scene.now.protocol.now) c.args.scene.now.frame.now c.args.scene.now.picture.now c.args.binding.now (formulas_of c.args.parts.now) c.args.circuit.now c.ground_each.new.circuit c.agreement.new.circuit c.as_slice.result.now c.agreement.result c.ground_each.ensures.grounds.extends
    (subst (HaveValues (AreValues (protocol_of c.args.scene.now.protocol.now) c.args.scene.now.frame.now c.args.scene.now.picture.now c.args.binding.now (formulas_of c.args.parts.now)) c.ground_each.new.circuit) (sym c.as_slice.ensures.value) c.in_ok-bits.ensures.grounds.answer)
    c.agreement.ensures

pub for_all-returns-clause-grounds : goal.for_all-returns-clause-grounds
for_all-returns-clause-grounds t c =
    let f = formula_of c.args.body.now in
    let long = used_long (protocol_of c.args.scene.now.protocol.now) c.args.scene.now.frame.now c.args.scene.now.picture.now c.args.circuit.now.vars c.args.binding.now c.requires.scope c.args.sort c.requires.placed in
    for_all_grounds (protocol_of c.args.scene.now.protocol.now) c.args.scene.now.frame.now c.args.scene.now.picture.now c.args.binding.now c.args.var c.args.sort f c.args.circuit.now c.ground_slots.new.circuit c.all.new.self c.as_slice.result.now c.all.result long c.ground_slots.ensures.grounds.extends
    (subst (HaveValues (AreSlotValues (protocol_of c.args.scene.now.protocol.now) c.args.scene.now.frame.now c.args.scene.now.picture.now c.args.binding.now c.args.var c.args.sort f true (get_or c.args.scene.now.frame.now.slots.items c.args.sort 0)) c.ground_slots.new.circuit) (sym c.as_slice.ensures.value) c.in_ok-bits.ensures.grounds.answer)
    c.all.ensures

pub for_some-returns-clause-grounds : goal.for_some-returns-clause-grounds
for_some-returns-clause-grounds t c =
    let f = formula_of c.args.body.now in
    let long = used_long (protocol_of c.args.scene.now.protocol.now) c.args.scene.now.frame.now c.args.scene.now.picture.now c.args.circuit.now.vars c.args.binding.now c.requires.scope c.args.sort c.requires.placed in
    for_some_grounds (protocol_of c.args.scene.now.protocol.now) c.args.scene.now.frame.now c.args.scene.now.picture.now c.args.binding.now c.args.var c.args.sort f c.args.circuit.now c.ground_slots.new.circuit c.any.new.self c.as_slice.result.now c.any.result long c.ground_slots.ensures.grounds.extends
    (subst (HaveValues (AreSlotValues (protocol_of c.args.scene.now.protocol.now) c.args.scene.now.frame.now c.args.scene.now.picture.now c.args.binding.now c.args.var c.args.sort f false (get_or c.args.scene.now.frame.now.slots.items c.args.sort 0)) c.ground_slots.new.circuit) (sym c.as_slice.ensures.value) c.in_ok-bits.ensures.grounds.answer)
    c.any.ensures

pub ground-returns-in_ok-conclusion-in-Implies-clause-grounds : goal.ground-returns-in_ok-conclusion-in-Implies-clause-grounds
ground-returns-in_ok-conclusion-in-Implies-clause-grounds t c =
    let left = formula_of c.deref-in-Implies.result.now in
    let right = formula_of c.deref-in-Implies-2.result.now in
    let is : formula_of c.args.formula.now ≡ implication left right = ap formula_of c.in-Implies.is ∙ (λ i. implication (formula_of (sym c.deref-in-Implies.ensures i)) (formula_of (sym c.deref-in-Implies-2.ensures i))) in
    let second = subst (λ b. Grounds (protocol_of c.args.scene.now.protocol.now) c.args.scene.now.frame.now c.args.scene.now.picture.now b right c.ground.new.circuit c.ground-in-Implies.new.circuit (Ok c.in_ok-conclusion-in-Implies.conclusion)) c.in_ok-premise-in-Implies.ensures.unchanged c.in_ok-conclusion-in-Implies.ensures.grounds in
    subst (λ f. Grounds (protocol_of c.args.scene.now.protocol.now) c.args.scene.now.frame.now c.args.scene.now.picture.now c.args.binding.now f c.args.circuit.now c.any.new.self c.any.result) (sym is)
    (implication_grounds (protocol_of c.args.scene.now.protocol.now) c.args.scene.now.frame.now c.args.scene.now.picture.now c.args.binding.now left right c.args.circuit.now c.ground.new.circuit c.ground-in-Implies.new.circuit c.any.new.self c.in_ok-premise-in-Implies.premise c.negation.result c.in_ok-conclusion-in-Implies.conclusion c.any.result c.negation.ensures c.ground.ensures.grounds.extends c.in_ok-premise-in-Implies.ensures.grounds.answer second.extends second.answer c.any.ensures)

pub negated-returns-clause-grounds : goal.negated-returns-clause-grounds
negated-returns-clause-grounds t c =
    negation_grounds (protocol_of c.args.scene.now.protocol.now) c.args.scene.now.frame.now c.args.scene.now.picture.now c.args.binding.now (formula_of c.args.body.now) c.args.circuit.now c.ground.new.circuit c.in_ok-ground.field-0 c.negation.result c.negation.ensures c.ground.ensures.grounds.extends c.in_ok-ground.ensures.grounds.answer

pub ground_each-returns-in_err-bits-clause-grounds : goal.ground_each-returns-in_err-bits-clause-grounds
ground_each-returns-in_err-bits-clause-grounds t c = record { extends = extends_self c.args.circuit.now; answer = search rules }

pub ground_each-loop-formula-init : goal.ground_each-loop-formula-init
ground_each-loop-formula-init t c = record {
  extends = extends_self c.args.circuit.now;
  same = refl;
  parts = subst (HaveValues (AreFirstValues (protocol_of c.args.scene.now.protocol.now) c.args.scene.now.frame.now c.args.scene.now.picture.now c.args.binding.now c.args.formulas.now 0) c.args.circuit.now) (sym c.in_ok-bits.ensures.items) (first_none (protocol_of c.args.scene.now.protocol.now) c.args.scene.now.frame.now c.args.scene.now.picture.now c.args.binding.now c.args.formulas.now c.args.circuit.now);
}

pub ground_each-ground-requires : goal.ground_each-ground-requires
ground_each-ground-requires t c =
    (search (rules, the_lemmas), subst (λ b. IsFormulaIn (protocol_of c.args.scene.now.protocol.now) c.args.scene.now.frame.now c.args.scene.now.picture.now c.loop-formula.circuit.vars b (formula_of c.formula-item.result)) (sym c.loop-formula.invariant.same) (formula_item (protocol_of c.args.scene.now.protocol.now) c.args.scene.now.frame.now c.args.scene.now.picture.now c.args.circuit.now.vars c.loop-formula.circuit.vars c.args.binding.now c.args.formulas.now c.loop-formula.formula-index c.formula-item.result c.loop-formula-test.true c.formula-item.is c.loop-formula.invariant.extends.grows c.requires))

pub ground_each-returns-in_err-ground-clause-grounds : goal.ground_each-returns-in_err-ground-clause-grounds
ground_each-returns-in_err-ground-clause-grounds t c = record { extends = extends_after c.args.circuit.now c.loop-formula.circuit c.ground.new.circuit c.loop-formula.invariant.extends c.ground.ensures.grounds.extends; answer = search rules }

pub ground_each-returns-in_err-push-clause-grounds : goal.ground_each-returns-in_err-push-clause-grounds
ground_each-returns-in_err-push-clause-grounds t c = record { extends = extends_after c.args.circuit.now c.loop-formula.circuit c.ground.new.circuit c.loop-formula.invariant.extends c.ground.ensures.grounds.extends; answer = search rules }

pub ground_each-loop-formula-preserved : goal.ground_each-loop-formula-preserved
ground_each-loop-formula-preserved t c =
    let i = c.loop-formula.formula-index in
    let now = c.loop-formula.circuit in
    let new = c.ground.new.circuit in
    let fs = c.args.formulas.now in
    let g = subst (λ b. Grounds (protocol_of c.args.scene.now.protocol.now) c.args.scene.now.frame.now c.args.scene.now.picture.now b (formula_of c.formula-item.result) now new (Ok c.in_ok-ground.field-0)) c.loop-formula.invariant.same c.in_ok-ground.ensures.grounds in
    let here = subst (λ f. Grounds (protocol_of c.args.scene.now.protocol.now) c.args.scene.now.frame.now c.args.scene.now.picture.now c.args.binding.now (formula_of f) now new (Ok c.in_ok-ground.field-0)) c.formula-item.is g in
    let kept = have_kept (AreFirstValues (protocol_of c.args.scene.now.protocol.now) c.args.scene.now.frame.now c.args.scene.now.picture.now c.args.binding.now fs i) now new c.loop-formula.bits.items g.extends c.loop-formula.invariant.parts in
    record {
      extends = extends_after c.args.circuit.now now new c.loop-formula.invariant.extends g.extends;
      same = c.in_ok-ground.ensures.unchanged ∙ c.loop-formula.invariant.same;
      parts = subst (HaveValues (AreFirstValues (protocol_of c.args.scene.now.protocol.now) c.args.scene.now.frame.now c.args.scene.now.picture.now c.args.binding.now fs (i + 1)) new) (sym c.in_ok-push.ensures.items) (first_more (protocol_of c.args.scene.now.protocol.now) c.args.scene.now.frame.now c.args.scene.now.picture.now c.args.binding.now fs i c.formula-item.result new c.loop-formula.bits.items c.in_ok-ground.field-0 c.loop-formula-test.true kept here.answer);
    }

pub ground_each-returns-clause-grounds : goal.ground_each-returns-clause-grounds
ground_each-returns-clause-grounds t c = record {
  extends = c.loop-formula.invariant.extends;
  answer = first_all (protocol_of c.args.scene.now.protocol.now) c.args.scene.now.frame.now c.args.scene.now.picture.now c.args.binding.now c.args.formulas.now c.loop-formula.formula-index c.loop-formula.circuit c.loop-formula.bits.items (take_all c.loop-formula.formula-index c.args.formulas.now c.loop-formula-test.false) c.loop-formula.invariant.parts;
}

pub ground_slots-returns-in_err-bits-clause-grounds : goal.ground_slots-returns-in_err-bits-clause-grounds
ground_slots-returns-in_err-bits-clause-grounds t c = record { extends = extends_self c.args.circuit.now; answer = search rules }

pub ground_slots-loop-slot-init : goal.ground_slots-loop-slot-init
ground_slots-loop-slot-init t c = record {
  extends = extends_self c.args.circuit.now;
  back = ap (set c.args.binding.now c.args.var) c.slot-before.ensures ∙ set-get_or c.args.binding.now c.args.var 0;
  parts = subst (HaveValues (AreSlotValues (protocol_of c.args.scene.now.protocol.now) c.args.scene.now.frame.now c.args.scene.now.picture.now c.args.binding.now c.args.var c.args.sort (formula_of c.args.body.now) c.args.neutral 0) c.args.circuit.now) (sym c.in_ok-bits.ensures.items) (slots_none (protocol_of c.args.scene.now.protocol.now) c.args.scene.now.frame.now c.args.scene.now.picture.now c.args.binding.now c.args.var c.args.sort (formula_of c.args.body.now) c.args.neutral c.args.circuit.now);
}

pub ground_slots-ground-requires : goal.ground_slots-ground-requires
ground_slots-ground-requires t c =
    let known : c.args.sort < length c.args.scene.now.frame.now.slots.items = (let k = c.requires.known in let one = c.requires.placed.drawn.one_each in omega arith) in
    let count = size_read c.args.scene.now.frame.now.slots.items c.args.sort c.index-count.result.now known c.index-count.ensures in
    (search (rules, the_lemmas), body_in (protocol_of c.args.scene.now.protocol.now) c.args.scene.now.frame.now c.args.scene.now.picture.now c.args.circuit.now.vars c.loop-slot.circuit.vars c.args.binding.now c.loop-slot.binding c.bind.new.self c.args.var c.args.sort c.loop-slot.slot c.slot-before.result (formula_of c.args.body.now) c.loop-slot.invariant.extends.grows c.loop-slot.invariant.back c.bind.ensures.set c.bind.ensures.at (let below = c.loop-slot-test.true in omega arith) c.requires)

pub ground_slots-guarded-requires-clause-used : goal.ground_slots-guarded-requires-clause-used
ground_slots-guarded-requires-clause-used t c =
    let more = extends_after c.args.circuit.now c.loop-slot.circuit c.ground.new.circuit c.loop-slot.invariant.extends c.ground.ensures.grounds.extends in
    row_below c.ground.new.circuit.vars _ (rows_of c.args.scene.now.frame.now.used) c.args.sort (placed_kept (protocol_of c.args.scene.now.protocol.now) c.args.scene.now.frame.now c.args.scene.now.picture.now c.args.circuit.now.vars c.ground.new.circuit.vars c.args.binding.now c.requires.scope more.grows c.requires.placed).drawn.used

pub ground_slots-guarded-requires-clause-slot : goal.ground_slots-guarded-requires-clause-slot
ground_slots-guarded-requires-clause-slot t c =
    let known : c.args.sort < length c.args.scene.now.frame.now.slots.items = (let k = c.requires.known in let one = c.requires.placed.drawn.one_each in omega arith) in
    let count = size_read c.args.scene.now.frame.now.slots.items c.args.sort c.index-count.result.now known c.index-count.ensures in
    let long = used_long (protocol_of c.args.scene.now.protocol.now) c.args.scene.now.frame.now c.args.scene.now.picture.now c.args.circuit.now.vars c.args.binding.now c.requires.scope c.args.sort c.requires.placed in
    let below = c.loop-slot-test.true in
    omega arith

pub ground_slots-guarded-requires-clause-value : goal.ground_slots-guarded-requires-clause-value
ground_slots-guarded-requires-clause-value t c = c.in_ok-value.ensures.grounds.answer.below

pub ground_slots-guarded-requires-clause-sort : goal.ground_slots-guarded-requires-clause-sort
ground_slots-guarded-requires-clause-sort t c =
    let many = many_rows c.args.circuit.now.vars _ (rows_of c.args.scene.now.frame.now.used) c.requires.placed.drawn.used in
    let k = c.requires.known in
    let one = c.requires.placed.drawn.one_each in
    omega arith

pub ground_slots-index-count-requires : goal.ground_slots-index-count-requires
ground_slots-index-count-requires t c = let k = c.requires.known in let one = c.requires.placed.drawn.one_each in let all = c.args.scene.now.frame.now.slots.ok.0 in omega arith

pub ground_slots-returns-in_err-value-clause-grounds : goal.ground_slots-returns-in_err-value-clause-grounds
ground_slots-returns-in_err-value-clause-grounds t c =
    record { extends = extends_after c.args.circuit.now c.loop-slot.circuit c.ground.new.circuit c.loop-slot.invariant.extends c.ground.ensures.grounds.extends; answer = search rules }

pub ground_slots-returns-in_err-guarded-clause-grounds : goal.ground_slots-returns-in_err-guarded-clause-grounds
ground_slots-returns-in_err-guarded-clause-grounds t c =
    let more = extends_after c.args.circuit.now c.loop-slot.circuit c.ground.new.circuit c.loop-slot.invariant.extends c.ground.ensures.grounds.extends in
    record { extends = extends_after c.args.circuit.now c.ground.new.circuit c.guarded.new.circuit more c.guarded.ensures.extends; answer = search rules }

pub ground_slots-returns-in_err-push-clause-grounds : goal.ground_slots-returns-in_err-push-clause-grounds
ground_slots-returns-in_err-push-clause-grounds t c =
    let more = extends_after c.args.circuit.now c.loop-slot.circuit c.ground.new.circuit c.loop-slot.invariant.extends c.ground.ensures.grounds.extends in
    record { extends = extends_after c.args.circuit.now c.ground.new.circuit c.guarded.new.circuit more c.guarded.ensures.extends; answer = search rules }

pub ground_slots-loop-slot-preserved : goal.ground_slots-loop-slot-preserved
ground_slots-loop-slot-preserved t c =
    let P = protocol_of c.args.scene.now.protocol.now in
    let frame = c.args.scene.now.frame.now in
    let picture = c.args.scene.now.picture.now in
    let first = c.args.binding.now in
    let f = formula_of c.args.body.now in
    let now = c.loop-slot.circuit in
    let mid = c.ground.new.circuit in
    let new = c.guarded.new.circuit in
    let slot = c.loop-slot.slot in
    let one = extends_after now mid new c.ground.ensures.grounds.extends c.guarded.ensures.extends in
    let known : c.args.sort < length frame.slots.items = (let k = c.requires.known in let each = c.requires.placed.drawn.one_each in omega arith) in
    let count = size_read frame.slots.items c.args.sort c.index-count.result.now known c.index-count.ensures in
    let long = used_long P frame picture c.args.circuit.now.vars first c.requires.scope c.args.sort c.requires.placed in
    let inside : slot < length (row_at (rows_of frame.used) c.args.sort) = (let below = c.loop-slot-test.true in omega arith) in
    let kept = have_kept (AreSlotValues P frame picture first c.args.var c.args.sort f c.args.neutral slot) now new c.loop-slot.bits.items one c.loop-slot.invariant.parts in
    let bit = slot_bit P frame picture first c.bind.new.self c.args.var c.args.sort slot f c.args.neutral mid new c.in_ok-value.value c.in_ok-guarded.field-0 inside
    (λ arguments choices. c.bind.ensures.bound arguments choices ∙ bind_back c.loop-slot.binding first c.args.var slot c.slot-before.result arguments choices c.loop-slot.invariant.back)
    c.in_ok-value.ensures.grounds.answer c.guarded.ensures.extends c.in_ok-guarded.ensures.answer in
    record {
      extends = extends_after c.args.circuit.now now new c.loop-slot.invariant.extends one;
      back = ap (λ xs. set xs c.args.var c.slot-before.result) c.in_ok-value.ensures.unchanged ∙ set_back c.loop-slot.binding first c.bind.new.self c.args.var slot c.slot-before.result c.loop-slot.invariant.back c.bind.ensures.set;
      parts = subst (HaveValues (AreSlotValues P frame picture first c.args.var c.args.sort f c.args.neutral (slot + 1)) new) (sym c.in_ok-push.ensures.items) (slots_more P frame picture first c.args.var c.args.sort f c.args.neutral slot new c.loop-slot.bits.items c.in_ok-guarded.field-0 kept bit);
    }

pub ground_slots-returns-clause-grounds : goal.ground_slots-returns-clause-grounds
ground_slots-returns-clause-grounds t c =
    let known : c.args.sort < length c.args.scene.now.frame.now.slots.items = (let k = c.requires.known in let one = c.requires.placed.drawn.one_each in omega arith) in
    let count = size_read c.args.scene.now.frame.now.slots.items c.args.sort c.index-count.result.now known c.index-count.ensures in
    let end : c.loop-slot.slot ≡ get_or c.args.scene.now.frame.now.slots.items c.args.sort 0 = (let past = c.loop-slot-test.false in let within = c.loop-slot.auto.slot-end in omega arith) in
    record { extends = c.loop-slot.invariant.extends; answer = slots_all (protocol_of c.args.scene.now.protocol.now) c.args.scene.now.frame.now c.args.scene.now.picture.now c.args.binding.now c.args.var c.args.sort (formula_of c.args.body.now) c.args.neutral c.loop-slot.slot (get_or c.args.scene.now.frame.now.slots.items c.args.sort 0) c.loop-slot.circuit c.loop-slot.bits.items end c.loop-slot.invariant.parts }

pub ground_slots-returns-clause-unchanged : goal.ground_slots-returns-clause-unchanged
ground_slots-returns-clause-unchanged t c = c.bind-2.ensures.set ∙ c.loop-slot.invariant.back
