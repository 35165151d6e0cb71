use Rattle.std.proofs.Common.{[], length, get_or, ap, ◌∙◌, arith}
use Rattle.dai_logic.specs.Strides.{rows_of}
use Rattle.dai_logic.proofs.Strides.{count_whole}
use Rattle.dai_logic.proofs.layout.Layout.count.Goals as goal

pub bounds-row-0 : goal.bounds-row-0
bounds-row-0 c =
    let whole = (count_whole c.args.self.now.sizes.items (get_or (rows_of c.args.self.now.sorts) c.args.rel [])).1 in let same = ap length c.row.ensures in omega arith

pub returns : goal.returns
returns c =
    ap (λ xs. get_or xs 0 0) c.row.ensures ∙ (count_whole c.args.self.now.sizes.items (get_or (rows_of c.args.self.now.sorts) c.args.rel [])).0
