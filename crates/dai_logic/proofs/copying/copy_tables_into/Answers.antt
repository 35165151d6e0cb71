use Rattle.std.proofs.Common.{◌<◌, Bool, length, Vec, sym, ap, ◌∙◌, arith}
use Rattle.std.specs.declared.alloc.Global.{Global}
use Rattle.std.proofs.lemmas.List.{length-map}
use Rattle.dai_logic.specs.Tables.{bits_of}
use Rattle.dai_logic.proofs.Copies.{copied_none, copied_more}
use Rattle.dai_logic.proofs.Updating.{as_many, as_long_at, bits_read}
use Rattle.dai_logic.proofs.copying.copy_tables_into.Goals as goal

pub loop-number-init : goal.loop-number-init
loop-number-init c = copied_none c.args.from.now c.args.to.now c.requires

pub copy_table-requires : goal.copy_table-requires
copy_table-requires c = ap length (bits_read c.loop-number.to c.loop-number.number c.index_mut.result.now (let below = (let here = c.loop-number-test.true in let count = c.len-number-end.ensures in let long = c.args.from.now.ok.0 in let many = length-map c.args.from.now.items (λ (t : Vec Bool Global). t.items) in let below : c.loop-number.number < length (bits_of c.args.from.now) = omega arith in below) in let many = as_many (bits_of c.loop-number.to) (bits_of c.args.from.now) c.loop-number.invariant.long in let inside : c.loop-number.number < length (bits_of c.loop-number.to) = omega arith in inside) c.index_mut.ensures.value) ∙ (as_long_at (bits_of c.loop-number.to) (bits_of c.args.from.now) c.loop-number.number c.loop-number.invariant.long ∙ ap length (sym (bits_read c.args.from.now c.loop-number.number c.index.result.now (let here = c.loop-number-test.true in let count = c.len-number-end.ensures in let long = c.args.from.now.ok.0 in let many = length-map c.args.from.now.items (λ (t : Vec Bool Global). t.items) in let below : c.loop-number.number < length (bits_of c.args.from.now) = omega arith in below) c.index.ensures)))

pub loop-number-preserved : goal.loop-number-preserved
loop-number-preserved c = copied_more c.args.from.now c.loop-number.to c.loop-number.number c.copy_table.new.to c.loop-number.invariant (let here = c.loop-number-test.true in let count = c.len-number-end.ensures in let long = c.args.from.now.ok.0 in let many = length-map c.args.from.now.items (λ (t : Vec Bool Global). t.items) in let below : c.loop-number.number < length (bits_of c.args.from.now) = omega arith in below) (c.copy_table.ensures ∙ (bits_read c.args.from.now c.loop-number.number c.index.result.now (let here = c.loop-number-test.true in let count = c.len-number-end.ensures in let long = c.args.from.now.ok.0 in let many = length-map c.args.from.now.items (λ (t : Vec Bool Global). t.items) in let below : c.loop-number.number < length (bits_of c.args.from.now) = omega arith in below) c.index.ensures))
