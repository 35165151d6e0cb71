use Rattle.std.proofs.Common.{arith, ◌≡◌, ◌≤◌, length, take, length-take}
use Rattle.std.proofs.lemmas.Grind.{common_steps}
use Rattle.dai_base.proofs.PlaceLemmas.{IsReached, is_place, column-le}
use Rattle.dai_base.proofs.position.place.Goals as goal

pub overflow_add-column : goal.overflow_add-column
overflow_add-column c =
    let short : length (take c.args.at c.args.bytes.now) ≤ length c.args.bytes.now = grind (arith, common_steps) in
    omega (arith, column-le _ _ _ c.loop-byte.invariant, length-take c.loop-byte.byte-index (take c.args.at c.args.bytes.now))

pub returns : goal.returns
returns c =
    let all : take c.loop-byte.byte-index (take c.args.at c.args.bytes.now) ≡ take c.args.at c.args.bytes.now = grind (arith, common_steps) in
    let reached : IsReached (take c.args.at c.args.bytes.now) c.loop-byte.line c.loop-byte.column = rw all at c.loop-byte.invariant in
    let counted = is_place _ _ _ reached in
    record { line = counted.0; column = counted.1 }
