use Rattle.std.proofs.Common.{◌≡◌, drop}
use Rattle.std.specs.List.{list_any}
use Rattle.dai_rules.specs.Rules.{is_variable_of}
use Rattle.dai_rules.proofs.judge_terms.has_variable.Given as goal

-- one of this name is among those to come, or none is there
abbrev pub invariant-loop-arg : goal.invariant-loop-arg
invariant-loop-arg l = list_any (is_variable_of l.name.text) (drop l.arg-index l.args) ≡ list_any (is_variable_of l.name.text) l.args
