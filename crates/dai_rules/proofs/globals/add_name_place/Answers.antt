use Rattle.std.proofs.Common.{◌≡◌, ◌∙◌, Some, None, if◌then◌else◌, ap, sym}
use Rattle.std.specs.Option.{option_or}
use Rattle.dai_rules.specs.Names.{same_text}
use Rattle.dai_rules.specs.Tables.{place_in}
use Rattle.dai_rules.proofs.NameTables.{none_copied, place_in-insert_entry}
use Rattle.dai_rules.proofs.globals.add_name_place.Goals as goal

pub returns-in_ok-insert : goal.returns-in_ok-insert
returns-in_ok-insert c =
    let old = c.args.places.now.entries in
    let key = c.in_ok-from_slice.field-0 in
    let absent : place_in old key.items ≡ None = ap (place_in old) (c.in_ok-from_slice.ensures.items ∙ c.as_bytes-then-is_none.ensures ∙ sym c.as_bytes.ensures) ∙ sym c.get.ensures.value ∙ none_copied c.get.result c.if-is_none.ensures in
    λ x. ap (λ es. place_in es x) c.in_ok-insert.ensures.entries
    ∙ place_in-insert_entry old key c.args.place x absent
    ∙ ap (λ name. option_or (place_in old x) (if same_text x name then Some c.args.place else None)) (c.in_ok-from_slice.ensures.items ∙ c.as_bytes-then-is_none.ensures)
