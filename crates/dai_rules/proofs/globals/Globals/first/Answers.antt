use Rattle.std.proofs.Common.{◌∙◌, ap, sym, map}
use Rattle.std.proofs.lemmas.Option.{slice_get-map}
use Rattle.std.specs.Option.{option_map, option_copied}
use Rattle.dai_syntax.specs.Trees.{declaration_of}
use Rattle.dai_rules.proofs.NameTables.{none_first, some_first, item_copied}
use Rattle.dai_rules.proofs.globals.Globals.first.Goals as goal

pub returns-in_err-place : goal.returns-in_err-place
returns-in_err-place c = ap (λ o. option_map declaration_of (option_copied o)) c.from_residual.ensures ∙ sym (none_first (map declaration_of c.args.self.now.decls.now) c.args.name.now.text (sym c.in_err-place.ensures))

pub returns : goal.returns
returns c =
    ap (option_map declaration_of) (item_copied c.args.self.now.decls.now c.in_ok-place.field-0 c.get.result c.get.ensures.lookup)
    ∙ sym (slice_get-map declaration_of c.args.self.now.decls.now c.in_ok-place.field-0)
    ∙ some_first (map declaration_of c.args.self.now.decls.now) c.args.name.now.text c.in_ok-place.field-0 (sym c.in_ok-place.ensures)
