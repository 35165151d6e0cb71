use Rattle.std.proofs.Common.{rules, map, sym, subst}
use Rattle.dai_circuit.proofs.Extensions.{extends_self}
use Rattle.dai_logic.specs.Protocols.{protocol_of}
use Rattle.dai_logic.specs.Trees.{term_of}
use Rattle.dai_logic.proofs.Accepted.{relation_sorts}
use Rattle.dai_picture.specs.Pictures.{rows_of, row_at}
use Rattle.dai_ground.specs.Atoms.{IsLookup, IsLookedUp, columns_of}
use Rattle.dai_ground.specs.Findings.{Finds}
use Rattle.dai_ground.proofs.TupleBits.{terms_of, table_known, table_short, lookup_of, relates_grounds}
use Rattle.dai_ground.proofs.atoms.relates.Goals as goal

pub returns-in_err-columns : goal.returns-in_err-columns
returns-in_err-columns c = record { extends = extends_self c.args.circuit.now; answer = search rules }

pub row-requires : goal.row-requires
row-requires c =
    let P = protocol_of c.args.scene.now.protocol.now in
    let t = terms_of P c.args.scene.now.frame.now c.args.scene.now.picture.now c.args.circuit.now.vars c.args.binding.now c.args.rel (map term_of c.args.terms.now) c.requires in
    table_known P c.args.scene.now.frame.now.slots.items c.args.circuit.now.vars c.args.scene.now.picture.now c.args.rel t.relation t.terms.placed.pictured t.found

pub look_up-requires-clause-lookup : goal.look_up-requires-clause-lookup
look_up-requires-clause-lookup c =
    let P = protocol_of c.args.scene.now.protocol.now in
    let frame = c.args.scene.now.frame.now in
    let picture = c.args.scene.now.picture.now in
    let count = c.args.circuit.now.vars in
    let ts = map term_of c.args.terms.now in
    let t = terms_of P frame picture count c.args.binding.now c.args.rel ts c.requires in
    let columns = c.in_ok-columns.columns.items in
    let look = lookup_of P frame picture count c.args.binding.now c.args.rel ts (columns_of columns) t (relation_sorts c.args.scene.now.protocol.now c.args.rel t.relation t.found) (c.in_ok-columns.ensures count t.relation.arguments t.terms) (table_short picture.tables c.args.rel) in
    subst (λ slots. IsLookup count slots c.sorts_of.result.now c.row.result.now (columns_of c.as_slice-2.result.now) 0) (sym c.as_slice.ensures.value)
    (subst (λ sorts. IsLookup count frame.slots.items sorts c.row.result.now (columns_of c.as_slice-2.result.now) 0) (sym (c.sorts_of.ensures t.relation t.found))
    (subst (λ table. IsLookup count frame.slots.items t.relation.arguments table (columns_of c.as_slice-2.result.now) 0) (sym c.row.ensures)
    (subst (λ cs. IsLookup count frame.slots.items t.relation.arguments (row_at (rows_of picture.tables) c.args.rel) (columns_of cs) 0) (sym c.as_slice-2.ensures.value) look)))

pub returns : goal.returns
returns c =
    let P = protocol_of c.args.scene.now.protocol.now in
    let frame = c.args.scene.now.frame.now in
    let picture = c.args.scene.now.picture.now in
    let count = c.args.circuit.now.vars in
    let ts = map term_of c.args.terms.now in
    let t = terms_of P frame picture count c.args.binding.now c.args.rel ts c.requires in
    let columns = c.in_ok-columns.columns.items in
    let old = c.args.circuit.now in
    let new = c.look_up.new.circuit in
    let one = subst (λ slots. Finds (IsLookedUp slots c.sorts_of.result.now c.row.result.now (columns_of c.as_slice-2.result.now) 0) old new c.look_up.result) c.as_slice.ensures.value c.look_up.ensures in
    let two = subst (λ sorts. Finds (IsLookedUp frame.slots.items sorts c.row.result.now (columns_of c.as_slice-2.result.now) 0) old new c.look_up.result) (c.sorts_of.ensures t.relation t.found) one in
    let three = subst (λ table. Finds (IsLookedUp frame.slots.items t.relation.arguments table (columns_of c.as_slice-2.result.now) 0) old new c.look_up.result) c.row.ensures two in
    let four = subst (λ cs. Finds (IsLookedUp frame.slots.items t.relation.arguments (row_at (rows_of picture.tables) c.args.rel) (columns_of cs) 0) old new c.look_up.result) c.as_slice-2.ensures.value three in
    relates_grounds P frame picture count c.args.binding.now c.args.rel ts (columns_of columns) old new c.look_up.result t (c.in_ok-columns.ensures count t.relation.arguments t.terms) four
