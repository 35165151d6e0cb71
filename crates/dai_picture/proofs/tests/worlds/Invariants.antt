use Rattle.std.proofs.Common.{◌≡◌, length}
use Rattle.dai_picture.proofs.tests.worlds.Given as goal

abbrev pub invariant-loop : goal.invariant-loop
invariant-loop l = length l.values.items ≡ l.formula.vars
