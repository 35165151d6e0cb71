use Rattle.std.proofs.Common.{[], sym, subst}
use Rattle.dai_model.proofs.Below.{Each}
use Rattle.dai_template.specs.Spaces.{IsClauseOf}
use Rattle.dai_order.specs.Forms.{AreForms}
use Rattle.dai_order.proofs.AllWeakenings.{no_forms}
use Rattle.dai_order.proofs.Unrelated.{forms_each, antichain_of, stand_for_same, entered_as}
use Rattle.dai_order.proofs.antichain.Antichain.of.Goals as goal

pub enter_each-requires : goal.enter_each-requires
enter_each-requires c =
    let P = c.requires.protocol in
    let B = c.requires.bounds in
    let forms = c.in_ok-forms.ensures P B c.requires.are in
    record {
      protocol = P;
      bounds = B;
      each = subst (Each (IsClauseOf P B c.args.space.now)) (sym c.deref.ensures.value) (forms_each P B c.args.space.now c.in_ok-forms.forms.items forms.are);
      forms = subst (AreForms P B c.args.space.now) (sym c.new-minimal.ensures.items) (no_forms P B c.args.space.now);
    }

pub returns-clause-antichain : goal.returns-clause-antichain
returns-clause-antichain c = λ P B are.
    let forms = c.in_ok-forms.ensures P B are in
    antichain_of P B c.args.space.now c.in_ok-forms.forms.items c.enter_each.new.list.items are.space_of forms.are
    (entered_as P B c.args.space.now c.deref.result.now c.in_ok-forms.forms.items c.new-minimal.result.items [] c.enter_each.new.list.items c.deref.ensures.value c.new-minimal.ensures.items
    (c.in_ok-enter_each.ensures P B (subst (Each (IsClauseOf P B c.args.space.now)) (sym c.deref.ensures.value) (forms_each P B c.args.space.now c.in_ok-forms.forms.items forms.are)) (subst (AreForms P B c.args.space.now) (sym c.new-minimal.ensures.items) (no_forms P B c.args.space.now))))

pub returns-clause-same : goal.returns-clause-same
returns-clause-same c = λ P B are.
    let forms = c.in_ok-forms.ensures P B are in
    stand_for_same P B c.args.space.now c.args.clauses.now c.in_ok-forms.forms.items c.enter_each.new.list.items are forms
    (entered_as P B c.args.space.now c.deref.result.now c.in_ok-forms.forms.items c.new-minimal.result.items [] c.enter_each.new.list.items c.deref.ensures.value c.new-minimal.ensures.items
    (c.in_ok-enter_each.ensures P B (subst (Each (IsClauseOf P B c.args.space.now)) (sym c.deref.ensures.value) (forms_each P B c.args.space.now c.in_ok-forms.forms.items forms.are)) (subst (AreForms P B c.args.space.now) (sym c.new-minimal.ensures.items) (no_forms P B c.args.space.now))))
