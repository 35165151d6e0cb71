use Rattle.std.proofs.Common.{◌≤◌, List, Bool, false, get_or, refl, ap, ◌∙◌, arith}
use Rattle.std.specs.Prelude.{slice_index}
use Rattle.dai_template.specs.Spaces.{clause_of}
use Rattle.dai_order.specs.Weakenings.{IsWeakerByVariable}
use Rattle.dai_order.specs.Variables.{counts_at}
use Rattle.dai_order.proofs.Gaining.{gained_none}
use Rattle.dai_order.proofs.VariableGains.{HasVariableFrom, few_counts, known_in, count_is, first_small, movable, moved_of_space, gained_at, none_from, place_more, all_variables, no_larger}
use Rattle.dai_order.proofs.variables.add_with_variable.Goals as goal

pub larger_shape-requires-clause-few : goal.larger_shape-requires-clause-few
larger_shape-requires-clause-few c = few_counts c.requires.protocol c.requires.bounds c.args.space.now c.args.clause.now c.args.sort c.requires.is c.requires.known

pub returns-in_default : goal.returns-in_default
returns-in_default c = λ P B h forms.
    let known = known_in c.requires.protocol P c.requires.bounds B c.args.space.now c.args.clause.now c.args.sort c.requires.is h c.requires.known in
    gained_none P B c.args.space.now (IsWeakerByVariable P B (clause_of c.args.space.now c.args.clause.now) c.args.sort) c.args.list.now.items forms
    (λ d u w. no_larger P B c.args.space.now c.args.clause.now c.args.sort h known d (c.in_default.ensures.none refl) u w)

pub moved-requires : goal.moved-requires
moved-requires c =
    let inside : c.loop-place.place ≤ slice_index (counts_at c.args.space.now c.args.clause.now.shape) c.args.sort = let e = count_is c.requires.protocol c.requires.bounds c.args.space.now c.args.clause.now c.index.result.now c.args.sort c.from.result c.index-count.result.now c.requires.is c.requires.known c.index.ensures c.from.ensures c.index-count.ensures in let a = c.loop-place-test.true in omega (arith, e, a) in
    movable c.requires.protocol c.requires.bounds c.args.space.now c.args.clause.now c.args.sort c.requires.is c.requires.known c.in-Some.larger c.in-Some.ensures.some.0 c.in-Some.ensures.some.1 c.loop-place.place inside c.insertion.result (record { long = c.insertion.ensures.long; later = c.insertion.ensures.later; others = c.insertion.ensures.others })

pub add_form-requires : goal.add_form-requires
add_form-requires c =
    let inside : c.loop-place.place ≤ slice_index (counts_at c.args.space.now c.args.clause.now.shape) c.args.sort = let e = count_is c.requires.protocol c.requires.bounds c.args.space.now c.args.clause.now c.index.result.now c.args.sort c.from.result c.index-count.result.now c.requires.is c.requires.known c.index.ensures c.from.ensures c.index-count.ensures in let a = c.loop-place-test.true in omega (arith, e, a) in
    record {
      protocol = c.requires.protocol;
      bounds = c.requires.bounds;
      is = moved_of_space c.requires.protocol c.requires.bounds c.args.space.now c.args.clause.now c.args.sort c.requires.is c.requires.known c.in-Some.larger c.in-Some.ensures.some.0 c.in-Some.ensures.some.1 c.loop-place.place inside c.insertion.result (record { long = c.insertion.ensures.long; later = c.insertion.ensures.later; others = c.insertion.ensures.others }) c.moved.result c.moved.ensures.shape c.moved.ensures.literals;
      forms = (c.loop-place.invariant c.requires.protocol c.requires.bounds c.requires.is c.requires.forms).forms;
    }

pub loop-place-init : goal.loop-place-init
loop-place-init c = λ P B h forms.
    let known = known_in c.requires.protocol P c.requires.bounds B c.args.space.now c.args.clause.now c.args.sort c.requires.is h c.requires.known in
    gained_none P B c.args.space.now (HasVariableFrom P B (clause_of c.args.space.now c.args.clause.now) c.args.sort c.first_place-first.result c.first_place-first.result) c.args.list.now.items forms
    (λ d u q. none_from P B c.args.space.now c.args.clause.now c.args.sort h known c.first_place-first.result d q)

pub loop-place-preserved : goal.loop-place-preserved
loop-place-preserved c = λ P B h forms.
    let known = known_in c.requires.protocol P c.requires.bounds B c.args.space.now c.args.clause.now c.args.sort c.requires.is h c.requires.known in
    let inside : c.loop-place.place ≤ slice_index (counts_at c.args.space.now c.args.clause.now.shape) c.args.sort = let e = count_is P B c.args.space.now c.args.clause.now c.index.result.now c.args.sort c.from.result c.index-count.result.now h known c.index.ensures c.from.ensures c.index-count.ensures in let a = c.loop-place-test.true in omega (arith, e, a) in
    let so_far = c.loop-place.invariant P B h forms in
    let added = c.in_ok-add_form.ensures P B (moved_of_space P B c.args.space.now c.args.clause.now c.args.sort h known c.in-Some.larger c.in-Some.ensures.some.0 c.in-Some.ensures.some.1 c.loop-place.place inside c.insertion.result (record { long = c.insertion.ensures.long; later = c.insertion.ensures.later; others = c.insertion.ensures.others }) c.moved.result c.moved.ensures.shape c.moved.ensures.literals) so_far.forms in
    place_more P B c.args.space.now c.args.clause.now c.args.sort h known c.first_place-first.result c.loop-place.place c.args.list.now.items c.loop-place.list.items c.add_form.new.list.items c.loop-place.auto.place so_far
    (gained_at P B c.args.space.now c.args.clause.now c.args.sort h known c.in-Some.larger c.in-Some.ensures.some.0 c.in-Some.ensures.some.1 c.loop-place.place inside c.insertion.result (record { long = c.insertion.ensures.long; later = c.insertion.ensures.later; others = c.insertion.ensures.others }) c.moved.result c.moved.ensures.shape c.moved.ensures.literals c.loop-place.list.items c.add_form.new.list.items added)

pub returns : goal.returns
returns c = λ P B h forms.
    let known = known_in c.requires.protocol P c.requires.bounds B c.args.space.now c.args.clause.now c.args.sort c.requires.is h c.requires.known in
    let count = count_is P B c.args.space.now c.args.clause.now c.index.result.now c.args.sort c.from.result c.index-count.result.now h known c.index.ensures c.from.ensures c.index-count.ensures in
    let first = c.first_place-first.ensures in
    let small : c.first_place-first.result ≤ c.index-count.result.now = first_small (get_or c.orders.result.now c.from-2.result false) c.first_place-first.result c.index-count.result.now first.any first.last in
    all_variables P B c.args.space.now c.args.clause.now c.args.sort h known c.first_place-first.result c.loop-place.place (get_or c.orders.result.now c.from-2.result false) c.args.list.now.items c.loop-place.list.items
    (ap (λ (os : List Bool). get_or os c.from-2.result false) c.orders.ensures ∙ ap (λ n. get_or c.args.space.now.ordered.items n false) c.from-2.ensures)
    first.any
    (λ e. first.last e ∙ count)
    (let past = c.loop-place-test.false in let top = c.loop-place.auto.place-end in omega (arith, past, top, count, small))
    (c.loop-place.invariant P B h forms)
