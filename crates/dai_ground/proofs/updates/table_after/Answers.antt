use Rattle.std.proofs.Common.{List, ℕ, map, sym, ◌∙◌, subst}
use Rattle.std.specs.List.{All}
use Rattle.dai_logic.specs.Strides.{AreNumbered}
use Rattle.dai_logic.specs.Protocols.{protocol_of, arguments_in}
use Rattle.dai_logic.specs.Trees.{term_of, formula_of}
use Rattle.dai_picture.specs.Pictures.{row_at, rows_of}
use Rattle.dai_ground.specs.Updating.{IsTable}
use Rattle.dai_ground.proofs.TableBits.{layout_numbered, relation_inside, relation_table, statement_update, laid_out}
use Rattle.dai_ground.proofs.updates.table_after.Goals as goal

pub of-requires : goal.of-requires
of-requires c =
    subst (λ (slots : List ℕ). All (AreNumbered slots) (arguments_in (protocol_of c.args.scene.now.protocol.now))) (sym c.deref.ensures.value)
    (layout_numbered c.args.scene.now.protocol.now c.args.scene.now.frame.now c.args.scene.now.picture.now c.args.circuit.now.vars _ c.requires.scope c.requires.placed)

pub row-old-requires : goal.row-old-requires
row-old-requires c = relation_inside (protocol_of c.args.scene.now.protocol.now) c.args.scene.now.frame.now c.args.scene.now.picture.now c.args.circuit.now.vars c.args.rel c.requires.sorted.0 c.requires.sorted.1 c.requires.placed.pictured

pub new_table-requires-clause-update : goal.new_table-requires-clause-update
new_table-requires-clause-update c = statement_update (protocol_of c.args.scene.now.protocol.now) c.args.scene.now.frame.now c.args.scene.now.picture.now c.args.circuit.now.vars c.args.rel (map term_of c.args.target.now) (formula_of c.args.body.now) c.sorts_of.result.now c.requires (c.sorts_of.ensures c.requires.sorted.0 c.requires.sorted.1)

pub new_table-requires-clause-layout : goal.new_table-requires-clause-layout
new_table-requires-clause-layout c =
    laid_out (protocol_of c.args.scene.now.protocol.now) c.args.scene.now.frame.now.slots.items c.sorts_of.result.now c.in_ok-layout.layout c.args.rel c.requires.sorted.0 c.requires.sorted.1 (c.in_ok-layout.ensures.sizes ∙ c.deref.ensures.value) c.in_ok-layout.ensures.sorts (c.sorts_of.ensures c.requires.sorted.0 c.requires.sorted.1)

pub new_table-requires-clause-old : goal.new_table-requires-clause-old
new_table-requires-clause-old c =
    let P = protocol_of c.args.scene.now.protocol.now in
    let slots = c.args.scene.now.frame.now.slots.items in
    subst (λ row. IsTable slots c.sorts_of.result.now c.args.circuit.now.vars row) (sym c.row-old.ensures)
    (subst (λ (xs : List ℕ). IsTable slots xs c.args.circuit.now.vars (row_at (rows_of c.args.scene.now.picture.now.tables) c.args.rel)) (sym (c.sorts_of.ensures c.requires.sorted.0 c.requires.sorted.1))
    (relation_table P c.args.scene.now.frame.now c.args.scene.now.picture.now c.args.circuit.now.vars c.args.rel c.requires.sorted.0 c.requires.sorted.1 c.requires.placed.pictured))
