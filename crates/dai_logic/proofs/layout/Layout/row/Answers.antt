use Rattle.std.proofs.Common.{◌∙◌}
use Rattle.dai_logic.specs.Strides.{rows_of}
use Rattle.dai_logic.proofs.Strides.{rows_read, row_inside, row_exact}
use Rattle.dai_logic.proofs.layout.Layout.row.Goals as goal

pub returns : goal.returns
returns c =
    c.deref.ensures.value ∙ (rows_read c.args.self.now.counts c.args.rel c.index.result.now (row_inside c.args.self.now.sizes.items (rows_of c.args.self.now.sorts) (rows_of c.args.self.now.counts) c.args.rel c.args.self.now.strides c.requires) c.index.ensures ∙ row_exact c.args.self.now.sizes.items (rows_of c.args.self.now.sorts) (rows_of c.args.self.now.counts) c.args.rel c.args.self.now.strides c.requires)
