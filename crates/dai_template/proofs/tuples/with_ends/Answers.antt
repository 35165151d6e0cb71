use Rattle.std.proofs.Common.{ℕ, List, [], ◌++◌, ◌∙◌, ap}
use Rattle.dai_model.proofs.Folds.{appended_part}
use Rattle.dai_model.proofs.Tuples.{ended}
use Rattle.dai_template.specs.Atoms.{lists_of}
use Rattle.dai_template.proofs.Views.{list_at, lists_below}
use Rattle.dai_template.proofs.tuples.with_ends.Goals as goal

pub loop-list-preserved : goal.loop-list-preserved
loop-list-preserved c =
    appended_part (ended c.args.limit) (lists_of c.args.lists.now) c.loop-list.list-index c.list-item.result.items [] (lists_of c.loop-list.longer.items) _
    (lists_below c.args.lists.now c.loop-list.list-index c.loop-list-test.true)
    (list_at c.args.lists.now c.loop-list.list-index c.list-item.result c.loop-list-test.true c.list-item.is)
    (c.in_ok-add_ends.ensures ∙ ap (λ (xs : List ℕ). lists_of c.loop-list.longer.items ++ ended c.args.limit xs) c.deref.ensures.value)
    c.loop-list.invariant
