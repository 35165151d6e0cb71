use Rattle.std.proofs.Common.{◌≡◌, ◌<◌, ◌≤◌, take, length}
use Rattle.std.specs.Prelude.{reverse}
use Rattle.std.specs.List.{All}
use Rattle.dai_logic.specs.Trees.{formula_of}
use Rattle.dai_sorts.specs.Formulas.{over}
use Rattle.dai_sorts.proofs.formulas.quantified.Given as goal

-- with the variables to come around it, it is the whole
abbrev pub invariant-loop-place : goal.invariant-loop-place
invariant-loop-place l = record {
  within : l.place ≤ length l.variables;
  few : All (λ v. v < 256) (reverse (take l.place l.variables));
  rest : over l.universal l.types (reverse (take l.place l.variables)) (formula_of l.whole) ≡ over l.universal l.types (reverse l.variables) (formula_of l.fn.body);
}

abbrev pub decreases-loop-place : goal.decreases-loop-place
decreases-loop-place l = l.place
