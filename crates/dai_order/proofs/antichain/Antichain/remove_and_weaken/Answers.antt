use Rattle.std.proofs.Common.{◌≡◌, List, sym, ap, ◌∙◌, subst}
use Rattle.std.specs.List.{remove}
use Rattle.dai_model.specs.Clause as Model
use Rattle.dai_model.specs.Weakening.{IsImmediateWeakening}
use Rattle.dai_model.proofs.Below.{Each}
use Rattle.dai_template.specs.declared.clause.Clause.{Clause}
use Rattle.dai_template.specs.Spaces.{IsClauseOf, clause_of}
use Rattle.dai_template.specs.Lists.{clauses_of}
use Rattle.dai_order.specs.Forms.{AreForms}
use Rattle.dai_order.specs.Antichains.{StandForOthers}
use Rattle.dai_order.proofs.Unrelated.{gone_form, rest_forms, member_is, antichain_after, stand_for_others, entered_as, part_each}
use Rattle.dai_order.proofs.antichain.Antichain.remove_and_weaken.Goals as goal

pub enter_each-requires : goal.enter_each-requires
enter_each-requires c =
    let P = c.requires.antichain.protocol in
    let B = c.requires.antichain.bounds in
    let old = c.args.self.now.clauses.items in
    let space = c.args.space.now in
    let rest : c.remove-gone.new.self.items ≡ remove old c.args.at = c.remove-gone.ensures.items ∙ ap (λ (xs : List Clause). remove xs c.args.at) (c.in_ok-clauses.ensures ∙ c.deref.ensures.value) in
    let own = gone_form P B space old c.args.at c.index.result.now c.requires.inside c.index.ensures c.requires.antichain.is in
    let part = c.in_ok-weaker.ensures.exactly P B own.of_the_space in
    let each = subst (Each (IsClauseOf P B space)) (sym c.deref-2.ensures.value) (part_each P B space (IsImmediateWeakening P B (clause_of space c.index.result.now)) c.in_ok-weaker.weaker.items part) in
    let forms = subst (AreForms P B space) (sym rest) (rest_forms P B space old c.args.at c.index.result.now c.requires.inside c.index.ensures c.requires.antichain.is) in
    record { protocol = P; bounds = B; each = each; forms = forms }

pub returns-clause-antichain : goal.returns-clause-antichain
returns-clause-antichain c = λ P B a.
    let old = c.args.self.now.clauses.items in
    let space = c.args.space.now in
    let rest : c.remove-gone.new.self.items ≡ remove old c.args.at = c.remove-gone.ensures.items ∙ ap (λ (xs : List Clause). remove xs c.args.at) (c.in_ok-clauses.ensures ∙ c.deref.ensures.value) in
    let own = gone_form P B space old c.args.at c.index.result.now c.requires.inside c.index.ensures a in
    let part = c.in_ok-weaker.ensures.exactly P B own.of_the_space in
    let each = subst (Each (IsClauseOf P B space)) (sym c.deref-2.ensures.value) (part_each P B space (IsImmediateWeakening P B (clause_of space c.index.result.now)) c.in_ok-weaker.weaker.items part) in
    let forms = subst (AreForms P B space) (sym rest) (rest_forms P B space old c.args.at c.index.result.now c.requires.inside c.index.ensures a) in
    let entered = entered_as P B space c.deref-2.result.now c.in_ok-weaker.weaker.items c.remove-gone.new.self.items (remove old c.args.at) c.enter_each.new.list.items c.deref-2.ensures.value rest (c.in_ok-enter_each.ensures P B each forms) in
    antichain_after P B space old c.args.at c.index.result.now c.requires.inside c.index.ensures a c.in_ok-weaker.weaker.items c.enter_each.new.list.items part (c.in_ok-weaker.ensures.each P B own.of_the_space) entered

pub returns-clause-others : goal.returns-clause-others
returns-clause-others c = λ P B a.
    let old = c.args.self.now.clauses.items in
    let space = c.args.space.now in
    let rest : c.remove-gone.new.self.items ≡ remove old c.args.at = c.remove-gone.ensures.items ∙ ap (λ (xs : List Clause). remove xs c.args.at) (c.in_ok-clauses.ensures ∙ c.deref.ensures.value) in
    let own = gone_form P B space old c.args.at c.index.result.now c.requires.inside c.index.ensures a in
    let part = c.in_ok-weaker.ensures.exactly P B own.of_the_space in
    let each = subst (Each (IsClauseOf P B space)) (sym c.deref-2.ensures.value) (part_each P B space (IsImmediateWeakening P B (clause_of space c.index.result.now)) c.in_ok-weaker.weaker.items part) in
    let forms = subst (AreForms P B space) (sym rest) (rest_forms P B space old c.args.at c.index.result.now c.requires.inside c.index.ensures a) in
    let entered = entered_as P B space c.deref-2.result.now c.in_ok-weaker.weaker.items c.remove-gone.new.self.items (remove old c.args.at) c.enter_each.new.list.items c.deref-2.ensures.value rest (c.in_ok-enter_each.ensures P B each forms) in
    subst (λ (m : Model.Clause). StandForOthers P B (clauses_of space old) m (clauses_of space c.enter_each.new.list.items)) (sym (member_is P B space old c.args.at c.index.result.now c.requires.inside c.index.ensures a))
    (stand_for_others P B space old c.args.at c.index.result.now c.requires.inside c.index.ensures a c.in_ok-weaker.weaker.items c.enter_each.new.list.items part (c.in_ok-weaker.ensures.each P B own.of_the_space) entered)
