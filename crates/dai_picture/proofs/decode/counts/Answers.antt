use Rattle.std.proofs.Common.{◌<◌, ◌^◌, List, [], Vec, vec_len, length, sym, ◌∙◌, subst, arith}
use Rattle.std.specs.declared.alloc.Global.{Global}
use Rattle.std.proofs.lemmas.List.{length-map}
use Rattle.dai_circuit.specs.declared.bit.Bit.{Bit}
use Rattle.dai_picture.specs.Pictures.{rows_of, row_at, Counts}
use Rattle.dai_picture.proofs.Read.{read_row, row_inside}
use Rattle.dai_picture.proofs.Values.{read_more}
use Rattle.dai_picture.proofs.decode.counts.Goals as goal

pub count-requires : goal.count-requires
count-requires c =
    let h = c.loop-k-test.true in
    let m = c.len-k-end.ensures in
    let below : c.loop-k.k < vec_len c.args.rows.now = omega arith in
    let e = c.as_slice.ensures.value ∙ read_row c.args.rows.now c.loop-k.k c.index.result.now below c.index.ensures in
    subst (λ (row : List Bit). length row < 2 ^ 16) (sym e) (c.requires c.loop-k.k [] (row_inside c.args.rows.now c.loop-k.k below))

pub loop-k-preserved : goal.loop-k-preserved
loop-k-preserved c =
    let h = c.loop-k-test.true in
    let m = c.len-k-end.ensures in
    let below : c.loop-k.k < vec_len c.args.rows.now = omega arith in
    let e = c.as_slice.ensures.value ∙ read_row c.args.rows.now c.loop-k.k c.index.result.now below c.index.ensures in
    let more = read_more (λ j x. Counts c.args.model.now (row_at (rows_of c.args.rows.now) j) x) c.loop-k.sizes.items c.push.new.self.items c.loop-k.k c.count.result c.in_ok-push.ensures.items c.loop-k.invariant.long c.loop-k.invariant.each
    (λ x p. c.count.ensures x (subst (λ (row : List Bit). Counts c.args.model.now row x) (sym e) p)) in
    record { long = more.0; each = more.1 }

pub returns : goal.returns
returns c =
    let h = c.loop-k-test.false in
    let m = c.len-k-end.ensures in
    let long = length-map c.args.rows.now.items (λ (row : Vec Bit Global). row.items) in
    let same = c.args.rows.now.ok.0 in
    let all = c.loop-k.invariant.long in
    let end = c.loop-k.auto in
    record {
      long = omega arith;
      each = λ j x l p. c.loop-k.invariant.each j x (omega arith) p;
    }
