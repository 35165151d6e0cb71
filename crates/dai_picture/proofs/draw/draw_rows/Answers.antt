use Rattle.std.proofs.Common.{◌<◌, ℕ, List, length, ap, sym, ◌∙◌, subst}
use Rattle.std.specs.List.{All}
use Rattle.dai_trail.specs.Formula.{Formula}
use Rattle.dai_logic.specs.Protocols.{protocol_of}
use Rattle.dai_picture.specs.declared.draw.Drawing.{Drawing}
use Rattle.dai_picture.specs.declared.rows.Known.TheVariants.{Nowhere}
use Rattle.dai_picture.specs.Pictures.{rows_of, slots_of_each}
use Rattle.dai_picture.specs.Rows.{AreFreeRows}
use Rattle.dai_picture.proofs.Declared.{sorts_in, sorts_declared}
use Rattle.dai_picture.proofs.DrawnRows.{drawn}
use Rattle.dai_picture.proofs.draw.draw_rows.Goals as goal

pub type_rows-requires : goal.type_rows-requires
type_rows-requires c =
    subst (λ (xs : List ℕ). All (λ sort. sort < length c.args.slots.now) xs) (sym (c.as_slice.ensures.value ∙ c.in_ok-sorts.ensures))
    (subst (λ (n : ℕ). All (λ sort. sort < n) (sorts_in (protocol_of c.args.protocol.now))) (sym c.requires.one_each) (sorts_declared c.args.protocol.now))

pub returns : goal.returns
returns c =
    let x : Drawing = record {
      frame = record { slots = c.in_ok-slots_again.slots_again; used = c.in_ok-used.used; arguments = c.in_ok-arguments.arguments; choices = c.in_ok-choices.choices };
      picture = record { tables = c.in_ok-tables.tables; values = c.in_ok-values.values };
      start = c.vars-start.result;
    } in
    drawn (protocol_of c.args.protocol.now) c.args.parameters.now c.args.locals.now c.args.slots.now c.args.known c.args.circuit.now c.used_rows.new.circuit c.table_rows.new.circuit c.type_rows.new.circuit c.type_rows-2.new.circuit c.type_rows-3.new.circuit x
    c.requires.one_each c.requires.inhabited c.in_ok-slots_again.ensures.items
    c.in_ok-used.ensures c.in_ok-tables.ensures
    (subst (λ (xs : List ℕ). AreFreeRows c.table_rows.new.circuit c.type_rows.new.circuit Nowhere (slots_of_each c.args.slots.now xs) (rows_of c.in_ok-values.values)) (c.as_slice.ensures.value ∙ c.in_ok-sorts.ensures) c.in_ok-values.ensures)
    c.in_ok-choices.ensures
    (c.vars-start.ensures ∙ ap (λ (f : Formula). f.vars) c.formula.ensures)
    c.in_ok-arguments.ensures
