use Rattle.std.proofs.Common.{List, sym, subst}
use Rattle.dai_template.specs.declared.clause.Clause.{Clause}
use Rattle.dai_order.specs.Forms.{AreForms, IsPlaceOf, StandsAt}
use Rattle.dai_order.proofs.Entering.{form_inserted, form_there}
use Rattle.dai_order.proofs.forms.add_form.Goals as goal

pub returns-in_ok-insert : goal.returns-in_ok-insert
returns-in_ok-insert c = λ P B h forms.
    let form = c.canonical-form.ensures P B h in
    let place : IsPlaceOf c.args.space.now c.args.list.now.items c.canonical-form.result c.place_of-place.result = subst (λ (xs : List Clause). IsPlaceOf c.args.space.now xs c.canonical-form.result c.place_of-place.result) c.deref.ensures.value (c.place_of-place.ensures.place P B form.of_the_space (subst (AreForms P B c.args.space.now) (sym c.deref.ensures.value) forms)) in
    form_inserted P B c.args.space.now c.args.clause.now c.canonical-form.result c.args.list.now.items c.insert.new.self.items c.place_of-place.result h forms form place
    (λ there. c.stands_at.ensures.other P B form.of_the_space c.if-not-stands_at.true (subst (λ (xs : List Clause). StandsAt c.args.space.now xs c.canonical-form.result c.place_of-place.result) (sym c.deref-2.ensures.value) there))
    c.in_ok-insert.ensures.items

pub returns-else-not-stands_at : goal.returns-else-not-stands_at
returns-else-not-stands_at c = λ P B h forms.
    let form = c.canonical-form.ensures P B h in
    form_there P B c.args.space.now c.args.clause.now c.canonical-form.result c.args.list.now.items c.place_of-place.result h forms form
    (subst (λ (xs : List Clause). StandsAt c.args.space.now xs c.canonical-form.result c.place_of-place.result) c.deref-2.ensures.value (c.stands_at.ensures.there P B form.of_the_space c.if-not-stands_at.false))
