use Rattle.std.proofs.Common.{◌≡◌, ◌≤◌, map, take, drop, length}
use Rattle.std.specs.Prelude.{find, reverse}
use Rattle.dai_rules.specs.Naming.{is_called}
use Rattle.dai_rules.proofs.variables.last_called.Given as goal

-- the last of this name is before the place
abbrev pub invariant-loop-place : goal.invariant-loop-place
invariant-loop-place l = record {
  within : l.place ≤ length l.numbers;
  from : l.start ≤ l.place;
  before : find (is_called (map (λ x. x.now) l.variables) l.name.text) (reverse (drop l.start (take l.place l.numbers))) ≡ find (is_called (map (λ x. x.now) l.variables) l.name.text) (reverse (drop l.start l.numbers));
}

abbrev pub decreases-loop-place : goal.decreases-loop-place
decreases-loop-place l = l.place
