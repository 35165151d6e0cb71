-- the numbers before stay before
use Rattle.std.proofs.Common.{◌≡◌, ◌≤◌, ◌-◌, ◌++◌, length, take, drop}
use Rattle.dai_template.specs.Renamings.{put_in_order}
use Rattle.dai_template.proofs.canonical.put.Given as goal

abbrev pub invariant-loop-at : goal.invariant-loop-at
invariant-loop-at l = record {
  inside : l.at ≤ length l.numbers.items;
  same : take l.at l.numbers.items ++ put_in_order l.number (drop l.at l.numbers.items) ≡ put_in_order l.number l.numbers.items;
}

abbrev pub decreases-loop-at : goal.decreases-loop-at
decreases-loop-at l = length l.numbers.items - l.at
