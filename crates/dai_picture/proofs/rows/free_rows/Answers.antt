use Rattle.std.proofs.Common.{[], List, Vec, map, sym, ap, ◌∙◌, subst}
use Rattle.std.specs.declared.alloc.Global.{Global}
use Rattle.std.proofs.lemmas.List.{map_push}
use Rattle.dai_circuit.specs.declared.bit.Bit.{Bit}
use Rattle.dai_picture.specs.Pictures.{rows_of}
use Rattle.dai_picture.specs.Rows.{AreFreeRows}
use Rattle.dai_picture.proofs.FreeRows.{rows_none, rows_more}
use Rattle.dai_picture.proofs.rows.free_rows.Goals as goal

pub loop-many-init : goal.loop-many-init
loop-many-init c = subst (AreFreeRows c.args.circuit.now c.args.circuit.now c.args.known []) (sym (ap (map (λ (row : Vec Bit Global). row.items)) c.new-rows.ensures.items)) (rows_none c.args.circuit.now c.args.known)

pub loop-many-preserved : goal.loop-many-preserved
loop-many-preserved c =
    let f : Vec Bit Global → List Bit = λ (row : Vec Bit Global). row.items in
    rows_more c.args.circuit.now c.loop-many.circuit c.free_row.new.circuit c.args.known c.args.lengths.now c.loop-many.many-index (rows_of c.loop-many.rows) (rows_of c.push.new.self) c.in_ok-row.row.items c.loop-many-test.true c.loop-many.invariant c.in_ok-row.ensures
    (ap (map f) c.in_ok-push.ensures.items ∙ map_push f c.loop-many.rows.items c.in_ok-row.row)
