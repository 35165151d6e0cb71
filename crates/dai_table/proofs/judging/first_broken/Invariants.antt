use Rattle.std.proofs.Common.{◌≡◌, ◌<◌, ℕ, true, false, get_or}
use Rattle.std.specs.Prelude.{slice_index_or}
use Rattle.std.specs.List.{list_any}
use Rattle.dai_table.specs.declared.steps.Step.{Step}
use Rattle.dai_table.specs.Flags.{holds_in}
use Rattle.dai_table.proofs.judging.first_broken.Given as goal

-- no step so far breaks the clause
abbrev pub invariant-loop-place : goal.invariant-loop-place
invariant-loop-place l = (k : ℕ) (d : Step) → k < l.place → slice_index_or l.met (get_or l.steps k d).from false ≡ true → list_any (holds_in (get_or l.steps k d).after.items) l.goal.lits.items ≡ true
