use Rattle.std.proofs.Common.{map, refl}
use Rattle.dai_logic.specs.Protocols.{protocol_of}
use Rattle.dai_logic.specs.Trees.{term_of, formula_of}
use Rattle.dai_ground.proofs.Leavings.{rows_with}
use Rattle.dai_ground.proofs.TableBits.{table_leaves}
use Rattle.dai_ground.proofs.updates.update_table.Goals as goal

pub returns-clause-leaves : goal.returns-clause-leaves
returns-clause-leaves c = λ ok below.
    table_leaves (protocol_of c.args.protocol.now) c.args.frame.now c.args.picture.now (record { tables = _; values = c.args.picture.now.values }) c.args.rel (map term_of c.args.target.now) (formula_of c.args.body.now) c.requires.sorted.0 c.args.circuit.now c.table_after.new.circuit ok c.in_ok-table.table.items c.requires.sorted.1 c.table_after.ensures.extends c.requires below c.in_ok-table.ensures.long (c.in_ok-table.ensures.updated c.requires.sorted.0 c.requires.sorted.1)
    (rows_with c.args.picture.now.tables c.args.rel c.in_ok-table.table) refl
