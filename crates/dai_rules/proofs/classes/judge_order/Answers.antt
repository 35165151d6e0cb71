use Rattle.std.proofs.Common.{◌+◌, ◌<◌, ◌∙◌, ap, sym, subst, map, drop, length, get_or, arith}
use Rattle.std.specs.List.{flat_map}
use Rattle.std.proofs.Math.ListN.{get_or-map}
use Rattle.std.proofs.lemmas.List.{length-map}
use Rattle.dai_rules.specs.declared.judge.Ordering.{Ordering as Program}
use Rattle.dai_rules.specs.Sites.{Ordering}
use Rattle.dai_rules.specs.Classes.{ordering_faults}
use Rattle.dai_rules.specs.First.{noting_all}
use Rattle.dai_rules.specs.Views.{ordering_of}
use Rattle.dai_rules.proofs.Lists.{drop_from}
use Rattle.dai_rules.proofs.ViewLemmas.{noting_all-append}
use Rattle.dai_rules.proofs.classes.judge_order.Goals as goal

abbrev none : Program
none = record { at = 0; variable = 0 }

pub judge_one_order-requires-clause-within : goal.judge_one_order-requires-clause-within
judge_one_order-requires-clause-within c =
    let i = c.loop-ordering.ordering-index in
    let os = c.args.orderings.now in
    let n = length-map os ordering_of in
    let below = c.loop-ordering-test.true in
    subst (λ (o : Ordering). o.variable < length c.args.labels.now) (get_or-map ordering_of os i none) (c.requires.within i (ordering_of none) (omega arith))

pub loop-ordering-preserved : goal.loop-ordering-preserved
loop-ordering-preserved c = λ w h.
    let i = c.loop-ordering.ordering-index in
    let os = c.args.orderings.now in
    let F = ordering_faults w c.args.labels.now in
    let first = c.loop-ordering.first in
    ap (λ f. noting_all f (flat_map F (map ordering_of (drop (i + 1) os)))) (c.judge_one_order.ensures w h)
    ∙ sym (noting_all-append first (F (ordering_of (get_or os i none))) (flat_map F (map ordering_of (drop (i + 1) os))))
    ∙ ap (λ rest. noting_all first (flat_map F (map ordering_of rest))) (sym (drop_from os i none c.loop-ordering-test.true))
    ∙ c.loop-ordering.invariant w h
