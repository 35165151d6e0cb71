use Rattle.std.proofs.Common.{◌<◌, ℕ, Bool, List, Vec, vec_len, map, ap, ◌∙◌, arith}
use Rattle.std.specs.declared.alloc.Global.{Global}
use Rattle.std.proofs.lemmas.List.{map_push}
use Rattle.dai_logic.specs.Tables.{bits_of}
use Rattle.dai_picture.specs.Pictures.{rows_of, row_at}
use Rattle.dai_picture.specs.Decoding.{sorts_at, table_shown}
use Rattle.dai_picture.proofs.Read.{read_row}
use Rattle.dai_picture.proofs.Values.{value_more}
use Rattle.dai_picture.proofs.decode.tables.Goals as goal

pub loop-r-preserved : goal.loop-r-preserved
loop-r-preserved c =
    let f : Vec Bool Global → List Bool = λ (t : Vec Bool Global). t.items in
    let h = c.loop-r-test.true in
    let m = c.len-r-end.ensures in
    let below : c.loop-r.r < vec_len c.args.rows.now = omega arith in
    let e = c.as_slice.ensures.value ∙ read_row c.args.rows.now c.loop-r.r c.index.result.now below c.index.ensures in
    value_more (λ (r : ℕ). table_shown c.args.model.now c.args.small.now.sizes.items c.args.wide.now.sizes.items (sorts_at c.args.small.now r) (row_at (rows_of c.args.rows.now) r)) (bits_of c.loop-r.tables) (bits_of c.push.new.self) c.loop-r.r c.in_ok-shown.shown.items c.loop-r.invariant
    (ap (map f) c.in_ok-push.ensures.items ∙ map_push f c.loop-r.tables.items c.in_ok-shown.shown)
    (c.in_ok-shown.ensures ∙ ap (λ row. table_shown c.args.model.now c.args.small.now.sizes.items c.args.wide.now.sizes.items (sorts_at c.args.small.now c.loop-r.r) row) e)
