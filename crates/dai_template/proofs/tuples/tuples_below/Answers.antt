use Rattle.std.proofs.Common.{ℕ, List, get_or, ◌∙◌, ap, Vec}
use Rattle.std.specs.declared.alloc.Global.{Global}
use Rattle.std.specs.List.{flat_map}
use Rattle.dai_model.proofs.Tuples.{ended}
use Rattle.dai_template.specs.Atoms.{lists_of}
use Rattle.dai_template.proofs.Views.{one_limit_more}
use Rattle.dai_template.proofs.tuples.tuples_below.Goals as goal

pub loop-limit-preserved : goal.loop-limit-preserved
loop-limit-preserved c =
    c.in_ok-tuples-2.ensures
    ∙ (ap (λ (vs : List (Vec ℕ Global)). flat_map (ended (get_or c.args.limits.now c.loop-limit.limit-index 0)) (lists_of vs)) c.deref.ensures.value
    ∙ (ap (flat_map (ended (get_or c.args.limits.now c.loop-limit.limit-index 0))) c.loop-limit.invariant
    ∙ one_limit_more c.args.limits.now c.loop-limit.limit-index 0 c.loop-limit-test.true))
