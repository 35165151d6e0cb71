use Rattle.std.proofs.Common.{◌≡◌, map}
use Rattle.std.specs.List.{range_with_len}
use Rattle.dai_logic.specs.Tables.{bits_of}
use Rattle.dai_picture.specs.Pictures.{rows_of, row_at}
use Rattle.dai_picture.specs.Decoding.{sorts_at, table_shown}
use Rattle.dai_picture.proofs.decode.tables.Given as goal

abbrev pub invariant-loop-r : goal.invariant-loop-r
invariant-loop-r l = bits_of l.tables ≡ map (λ r. table_shown l.model l.small.sizes.items l.wide.sizes.items (sorts_at l.small r) (row_at (rows_of l.rows) r)) (range_with_len 0 l.r)
