-- the types of the variables so far were let go
use Rattle.std.proofs.Common.{◌≡◌, ◌<◌, ℕ, true, false, length, get_or}
use Rattle.dai_template.specs.Renamings.{IsSame}
use Rattle.dai_template.proofs.canonical.free_each.Given as goal

abbrev pub invariant-loop-var : goal.invariant-loop-var
invariant-loop-var l = record {
  long : length l.kept ≡ length l.initial.kept;
  freed : (k : ℕ) → k < l.var-index → IsSame l.kept l.ordered (get_or l.vars k (0, 0)).0;
  stays : (t : ℕ) → IsSame l.initial.kept l.ordered t → IsSame l.kept l.ordered t;
  keeps : (t : ℕ) → get_or l.ordered t false ≡ true → get_or l.initial.kept t false ≡ true → get_or l.kept t false ≡ true;
}
