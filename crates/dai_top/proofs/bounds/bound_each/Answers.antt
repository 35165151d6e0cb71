use Rattle.std.proofs.Common.{ℕ, List, ◌∙◌, ap, map}
use Rattle.dai_logic.specs.declared.protocol.SortInfo.{SortInfo}
use Rattle.dai_top.specs.Bounds.{bound_of}
use Rattle.dai_top.proofs.Sorts.{each_sort}
use Rattle.dai_top.proofs.bounds.bound_each.Goals as goal

pub returns : goal.returns
returns c =
    let f : List ℕ → ℕ = bound_of c.args.given.now in
    c.in_ok-bound_all.ensures ∙ (ap (map (λ (s : SortInfo). f s.name)) c.deref.ensures.value ∙ each_sort f c.args.protocol.now.sorts.items)
