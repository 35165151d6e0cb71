use Rattle.std.proofs.Common.{◌≡◌, map, drop}
use Rattle.std.specs.Prelude.{find}
use Rattle.dai_rules.specs.Naming.{is_called}
use Rattle.dai_rules.proofs.variables.first_called.Given as goal

-- the first of this name is among those to come
abbrev pub invariant-loop-number : goal.invariant-loop-number
invariant-loop-number l = find (is_called (map (λ x. x.now) l.variables) l.name.text) (drop l.number-index l.numbers) ≡ find (is_called (map (λ x. x.now) l.variables) l.name.text) l.numbers
