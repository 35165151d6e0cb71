use Rattle.std.proofs.Common.{◌≡◌, map}
use Rattle.std.specs.List.{range_with_len}
use Rattle.dai_logic.specs.Counts.{tuple_place, tuple_at}
use Rattle.dai_circuit.specs.Circuits.{bit_value}
use Rattle.dai_picture.specs.Pictures.{bit_at}
use Rattle.dai_picture.specs.Decoding.{sorts_at}
use Rattle.dai_picture.proofs.decode.table_in.Given as goal

abbrev pub invariant-loop-place : goal.invariant-loop-place
invariant-loop-place l = l.table.items ≡ map (λ place. bit_value l.model (bit_at l.row (tuple_place l.wide.sizes.items (sorts_at l.small l.rel) (tuple_at l.small.sizes.items (sorts_at l.small l.rel) place)))) (range_with_len 0 l.place)
