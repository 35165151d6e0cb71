use Rattle.std.proofs.Common.{◌≡◌, map, drop}
use Rattle.std.specs.Prelude.{find}
use Rattle.dai_rules.specs.Names.{is_named}
use Rattle.dai_rules.specs.Views.{context_of}
use Rattle.dai_rules.proofs.judge.Judge.local.Given as goal

-- the first of this name is among those to come
abbrev pub invariant-loop-binder : goal.invariant-loop-binder
invariant-loop-binder l = find (is_named l.name.text) (map (λ x. x.now) (drop l.binder-index l.binder-items)) ≡ find (is_named l.name.text) (context_of l.self).inside
