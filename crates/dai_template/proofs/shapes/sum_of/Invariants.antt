-- the sum so far with the rest is the whole, at most 255 for each count
use Rattle.std.proofs.Common.{◌≡◌, ◌≤◌, ◌+◌, ◌*◌, drop}
use Rattle.std.specs.Prelude.{sum, sum_by}
use Rattle.dai_template.proofs.shapes.sum_of.Given as goal

abbrev pub invariant-loop-count : goal.invariant-loop-count
invariant-loop-count l = record {
  whole : l.total + sum_by (λ n. n) (drop l.count-index l.counts) ≡ sum l.counts;
  fits : l.total ≤ l.count-index * 255;
}
