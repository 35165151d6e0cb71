use Rattle.std.proofs.Common.{◌∙◌, ap}
use Rattle.dai_rules.specs.Tables.{place_in}
use Rattle.dai_rules.proofs.globals.Globals.place.Goals as goal

pub returns : goal.returns
returns c = c.copied.ensures ∙ c.get.ensures.value ∙ ap (place_in c.args.self.now.places.entries) c.as_bytes.ensures ∙ c.args.self.now.table.0 c.args.name.now.text
