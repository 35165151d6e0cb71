use Rattle.std.proofs.Common.{◌≡◌, drop}
use Rattle.std.specs.List.{list_any}
use Rattle.dai_rules.specs.Names.{is_named}
use Rattle.dai_rules.proofs.judge_terms.has_binder.Given as goal

-- one of this name is among those to come, or none is there
abbrev pub invariant-loop-binder : goal.invariant-loop-binder
invariant-loop-binder l = list_any (is_named l.name.text) (drop l.binder-index l.binders) ≡ list_any (is_named l.name.text) l.binders
