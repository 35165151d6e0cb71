use Rattle.std.proofs.Common.{refl, ap, ◌∙◌, arith, set, Vec, Global}
use Rattle.std.proofs.lemmas.List.{length-map}
use Rattle.dai_circuit.specs.declared.bit.Bit.{Bit}
use Rattle.dai_logic.specs.Protocols.{protocol_of}
use Rattle.dai_logic.specs.Trees.{term_of}
use Rattle.dai_picture.specs.Pictures.{rows_of}
use Rattle.dai_ground.proofs.Leavings.{value_term, value_inside, value_leaves, rows_with}
use Rattle.dai_ground.proofs.values.update_value.Goals as goal

pub new_row-requires : goal.new_row-requires
new_row-requires c = (c.requires.0, c.requires.1.sorted.0.sort, value_term (protocol_of c.args.protocol.now) c.args.frame.now c.args.picture.now c.requires.0 c.args.ind (term_of c.args.to) c.requires.1)

pub index_mut-requires : goal.index_mut-requires
index_mut-requires c =
    let below = value_inside (protocol_of c.args.protocol.now) c.args.frame.now c.args.picture.now c.requires.0 c.args.ind (term_of c.args.to) c.requires.1 in
    let many = length-map c.args.picture.now.values.items (λ (row : Vec Bit Global). row.items) in
    let long = c.args.picture.now.values.ok.0 in
    omega arith

pub returns : goal.returns
returns c = λ clauses ok st below.
    value_leaves (protocol_of c.args.protocol.now) c.args.frame.now c.args.picture.now (record { tables = c.args.picture.now.tables; values = _ }) c.args.ind (term_of c.args.to) clauses ok st below refl
    (rows_with c.args.picture.now.values c.args.ind c.in_ok-row.row ∙ ap (set (rows_of c.args.picture.now.values) c.args.ind) c.in_ok-row.ensures)
