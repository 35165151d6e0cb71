use Rattle.std.proofs.Common.{ℕ}
use Rattle.dai_logic.specs.Counts.{tuple_place, tuple_at}
use Rattle.dai_circuit.specs.Circuits.{bit_value}
use Rattle.dai_picture.specs.Pictures.{bit_at}
use Rattle.dai_picture.specs.Decoding.{sorts_at}
use Rattle.dai_picture.proofs.Values.{value_more}
use Rattle.dai_picture.proofs.decode.table_in.Goals as goal

pub loop-place-preserved : goal.loop-place-preserved
loop-place-preserved c =
    value_more (λ (place : ℕ). bit_value c.args.model.now (bit_at c.args.row.now (tuple_place c.args.wide.now.sizes.items (sorts_at c.args.small.now c.args.rel) (tuple_at c.args.small.now.sizes.items (sorts_at c.args.small.now c.args.rel) place)))) c.loop-place.table.items c.push.new.self.items c.loop-place.place c.tuple_value.result c.loop-place.invariant c.in_ok-push.ensures.items c.tuple_value.ensures
