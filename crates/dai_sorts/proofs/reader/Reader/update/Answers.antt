use Rattle.std.proofs.Common.{◌∙◌, ap, sym}
use Rattle.dai_syntax.specs.Trees.{formula_of as tree_of}
use Rattle.dai_rules.specs.Kinds.{kind_value}
use Rattle.dai_rules.specs.Views.{context_of}
use Rattle.dai_sorts.proofs.Wholes.{not_neither, not_local, is_bare}
use Rattle.dai_sorts.proofs.reader.Reader.update.Goals as goal

pub update_value-requires : goal.update_value-requires
update_value-requires c =
    is_bare (context_of c.args.self.now.judge) c.args.name.now c.args.args.now (tree_of c.args.form.now) c.in-Individual.field-0.now c.requires (sym c.kind-kind.ensures ∙ ap kind_value c.in-Individual.is)

pub unreachable-requires : goal.unreachable-requires
unreachable-requires c =
    not_local (context_of c.args.self.now.judge) c.args.name.now c.args.args.now (tree_of c.args.form.now) c.in-Local.field-0.now c.requires (sym c.kind-kind.ensures ∙ ap kind_value c.in-Local.is)

pub unreachable-requires-in-Neither : goal.unreachable-requires-in-Neither
unreachable-requires-in-Neither c =
    not_neither (context_of c.args.self.now.judge) c.args.name.now c.args.args.now (tree_of c.args.form.now) c.requires (sym c.kind-kind.ensures ∙ ap kind_value c.in-Neither.is)
