use Rattle.std.proofs.Common.{◌<◌, Bool, List, [], length, get_or, map, Vec, sym, ap, ◌∙◌, subst, arith}
use Rattle.std.specs.declared.alloc.Global.{Global}
use Rattle.std.proofs.lemmas.List.{length-map}
use Rattle.dai_logic.specs.Trees.{term_of, formula_of}
use Rattle.dai_logic.specs.Protocols.{protocol_of}
use Rattle.dai_logic.specs.Environments.{environment_of}
use Rattle.dai_logic.specs.Tables.{structure_of, tables_of, bits_of, IsWritten}
use Rattle.dai_logic.proofs.Tuples.{relation_known}
use Rattle.dai_logic.proofs.Updating.{as_many, as_long_at, bits_read, bits_with, written_items, written_structure, table_fits, as_long_with}
use Rattle.dai_logic.proofs.updates.update_table.Goals as goal

pub write_table-requires-clause-room : goal.write_table-requires-clause-room
write_table-requires-clause-room c =
    ap length c.as_mut_slice.ensures.value ∙ (ap length (bits_read c.args.spare.now c.args.rel c.index_mut-table.result.now (let known = (relation_known (protocol_of c.args.protocol.now) c.args.s.now c.args.rel c.requires.statement.sorted.0 c.requires.fits c.requires.statement.sorted.1) in let many = (as_many (bits_of c.args.spare.now) (tables_of c.args.s.now) c.requires.spare) in let below : c.args.rel < length (bits_of c.args.spare.now) = omega arith in below) c.index_mut-table.ensures.value) ∙ (as_long_at (bits_of c.args.spare.now) (tables_of c.args.s.now) c.args.rel c.requires.spare))

pub index_mut-requires : goal.index_mut-requires
index_mut-requires c =
    let known = (relation_known (protocol_of c.args.protocol.now) c.args.s.now c.args.rel c.requires.statement.sorted.0 c.requires.fits c.requires.statement.sorted.1) in let many = length-map c.args.s.now.tables.items (λ (t : Vec Bool Global). t.items) in let long = c.args.s.now.tables.ok.0 in omega arith

pub returns-clause-after : goal.returns-clause-after
returns-clause-after c =
    written_structure (protocol_of c.args.protocol.now) c.args.s.now (environment_of c.args.env.now) c.args.rel (map term_of c.args.target.now) (formula_of c.args.body.now) c.requires.statement.sorted.0 c.swap.new.x c.requires.statement.sorted.1 (relation_known (protocol_of c.args.protocol.now) c.args.s.now c.args.rel c.requires.statement.sorted.0 c.requires.fits c.requires.statement.sorted.1) (subst (λ table. IsWritten (structure_of (protocol_of c.args.protocol.now) c.args.s.now) (environment_of c.args.env.now) (map term_of c.args.target.now) c.requires.statement.sorted.0.arguments (formula_of c.args.body.now) 0 (get_or (tables_of c.args.s.now) c.args.rel []) table) (sym (ap (λ (t : Vec Bool Global). t.items) c.swap.ensures.x_after ∙ written_items c.index_mut-table.result.now c.write_table.new.table (c.write_table.auto.table ∙ ap length c.as_mut_slice.ensures.value))) (c.write_table.ensures.written c.requires.statement.sorted.0 c.requires.statement.sorted.1))

pub returns-clause-fits : goal.returns-clause-fits
returns-clause-fits c =
    table_fits (protocol_of c.args.protocol.now) c.args.s.now c.args.rel c.swap.new.x c.requires.fits (ap length (ap (λ (t : Vec Bool Global). t.items) c.swap.ensures.x_after ∙ written_items c.index_mut-table.result.now c.write_table.new.table (c.write_table.auto.table ∙ ap length c.as_mut_slice.ensures.value)) ∙ ((c.write_table.auto.table ∙ ap length c.as_mut_slice.ensures.value) ∙ (ap length (bits_read c.args.spare.now c.args.rel c.index_mut-table.result.now (let known = (relation_known (protocol_of c.args.protocol.now) c.args.s.now c.args.rel c.requires.statement.sorted.0 c.requires.fits c.requires.statement.sorted.1) in let many = (as_many (bits_of c.args.spare.now) (tables_of c.args.s.now) c.requires.spare) in let below : c.args.rel < length (bits_of c.args.spare.now) = omega arith in below) c.index_mut-table.ensures.value) ∙ (as_long_at (bits_of c.args.spare.now) (tables_of c.args.s.now) c.args.rel c.requires.spare))))

pub returns-clause-spare : goal.returns-clause-spare
returns-clause-spare c =
    ap (map (λ (t : List Bool). length t)) (bits_with c.args.spare.now c.args.rel c.swap.new.y) ∙ (as_long_with (bits_of c.args.spare.now) (tables_of c.args.s.now) c.args.rel c.swap.new.y.items c.swap.new.x.items c.requires.spare (ap length (ap (λ (t : Vec Bool Global). t.items) c.swap.ensures.y_after ∙ bits_read c.args.s.now.tables c.args.rel c.index_mut.result.now (relation_known (protocol_of c.args.protocol.now) c.args.s.now c.args.rel c.requires.statement.sorted.0 c.requires.fits c.requires.statement.sorted.1) c.index_mut.ensures.value) ∙ sym (ap length (ap (λ (t : Vec Bool Global). t.items) c.swap.ensures.x_after ∙ written_items c.index_mut-table.result.now c.write_table.new.table (c.write_table.auto.table ∙ ap length c.as_mut_slice.ensures.value)) ∙ ((c.write_table.auto.table ∙ ap length c.as_mut_slice.ensures.value) ∙ (ap length (bits_read c.args.spare.now c.args.rel c.index_mut-table.result.now (let known = (relation_known (protocol_of c.args.protocol.now) c.args.s.now c.args.rel c.requires.statement.sorted.0 c.requires.fits c.requires.statement.sorted.1) in let many = (as_many (bits_of c.args.spare.now) (tables_of c.args.s.now) c.requires.spare) in let below : c.args.rel < length (bits_of c.args.spare.now) = omega arith in below) c.index_mut-table.ensures.value) ∙ (as_long_at (bits_of c.args.spare.now) (tables_of c.args.s.now) c.args.rel c.requires.spare))))) ∙ ap (map (λ (t : List Bool). length t)) (sym (bits_with c.args.s.now.tables c.args.rel c.swap.new.x)))
