use Rattle.std.proofs.Common.{◌≡◌, length}
use Rattle.dai_picture.proofs.tests.next.Given as goal

abbrev pub invariant-loop-place : goal.invariant-loop-place
invariant-loop-place l = length l.more.items ≡ l.place
