use Rattle.std.proofs.Common.{List, sym, subst}
use Rattle.dai_template.specs.declared.clause.Clause.{Clause}
use Rattle.dai_template.specs.Spaces.{clause_of}
use Rattle.dai_template.specs.Lists.{clauses_of}
use Rattle.dai_order.specs.Forms.{AreForms}
use Rattle.dai_order.specs.Antichains.{StandsFor}
use Rattle.dai_order.proofs.Unrelated.{entered, stayed_out}
use Rattle.dai_order.proofs.antichain.enter.Goals as goal

pub returns-in_ok-add_form : goal.returns-in_ok-add_form
returns-in_ok-add_form c = λ P B h forms.
    entered P B c.args.space.now c.args.clause.now c.args.list.now.items c.add_form.new.list.items h
    (λ s. c.is_above_one.ensures.none P B h (subst (AreForms P B c.args.space.now) (sym c.deref.ensures.value) forms) c.if-not-is_above_one.true (subst (λ (xs : List Clause). StandsFor P (clauses_of c.args.space.now xs) (clause_of c.args.space.now c.args.clause.now)) (sym c.deref.ensures.value) s))
    (c.in_ok-add_form.ensures P B h forms)

pub returns-else-not-is_above_one : goal.returns-else-not-is_above_one
returns-else-not-is_above_one c = λ P B h forms.
    stayed_out P B c.args.space.now (clause_of c.args.space.now c.args.clause.now) c.args.list.now.items forms
    (subst (λ (xs : List Clause). StandsFor P (clauses_of c.args.space.now xs) (clause_of c.args.space.now c.args.clause.now)) c.deref.ensures.value (c.is_above_one.ensures.some P B h (subst (AreForms P B c.args.space.now) (sym c.deref.ensures.value) forms) c.if-not-is_above_one.false))
