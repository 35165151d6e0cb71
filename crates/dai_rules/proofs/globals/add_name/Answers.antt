use Rattle.std.proofs.Common.{◌∙◌, ◌||◌, ap, sym}
use Rattle.dai_rules.specs.Names.{same_text, is_among}
use Rattle.dai_rules.specs.Tables.{texts_of}
use Rattle.dai_rules.proofs.Keys.{inserted_among, or_false}
use Rattle.dai_rules.proofs.globals.add_name.Goals as goal

pub returns : goal.returns
returns c = λ x.
    inserted_among x c.args.name.now.text c.args.names.now.keys c.insert.new.self.keys c.in_ok-from_slice.field-0 (c.in_ok-from_slice.ensures.items ∙ c.as_bytes.ensures) c.in_ok-insert.ensures.keys
    ∙ ap (λ b. is_among x (texts_of c.args.names.now.keys) || b) (sym (or_false (same_text x c.args.name.now.text)))
