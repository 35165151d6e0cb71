-- the literals before stay before
use Rattle.std.proofs.Common.{◌≡◌, ◌≤◌, ◌-◌, ◌++◌, length, take, drop}
use Rattle.dai_template.specs.Renamings.{put_in_order}
use Rattle.dai_order.proofs.literals.put.Given as goal

abbrev pub invariant-loop-place : goal.invariant-loop-place
invariant-loop-place l = record {
  inside : l.place ≤ length l.numbers.items;
  same : take l.place l.numbers.items ++ put_in_order l.number (drop l.place l.numbers.items) ≡ put_in_order l.number l.numbers.items;
}

abbrev pub decreases-loop-place : goal.decreases-loop-place
decreases-loop-place l = length l.numbers.items - l.place
