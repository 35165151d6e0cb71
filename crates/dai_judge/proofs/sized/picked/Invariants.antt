use Rattle.std.proofs.Common.{◌≡◌, take}
use Rattle.dai_inquiry.specs.Keys.{clauses_in}
use Rattle.dai_judge.specs.Memory.{picked_of}
use Rattle.dai_judge.proofs.sized.picked.Given as goal

abbrev pub invariant-loop-number : goal.invariant-loop-number
invariant-loop-number l = clauses_in l.picked.items ≡ picked_of (clauses_in l.keys) (take l.number-index l.numbers)
