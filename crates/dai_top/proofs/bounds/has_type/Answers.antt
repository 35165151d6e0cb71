use Rattle.std.proofs.Common.{◌∙◌, ap}
use Rattle.std.specs.List.{list_any}
use Rattle.dai_logic.specs.declared.protocol.SortInfo.{SortInfo}
use Rattle.dai_top.specs.Bounds.{same_name}
use Rattle.dai_top.proofs.Sorts.{any_sort}
use Rattle.dai_top.proofs.bounds.has_type.Goals as goal

pub returns : goal.returns
returns c =
    c.are_named.ensures ∙ (ap (list_any (λ (s : SortInfo). same_name c.args.name.now s.name)) c.deref.ensures.value ∙ any_sort (same_name c.args.name.now) c.args.protocol.now.sorts.items)
