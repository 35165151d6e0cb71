use Rattle.std.proofs.Common.{◌≡◌, map, drop}
use Rattle.dai_syntax.specs.declared.tree.Name.{Name}
use Rattle.dai_rules.specs.First.{numbered, noting_all}
use Rattle.dai_rules.proofs.judge_wholes.note_names.Given as goal

-- with those to come, all are noted
abbrev pub invariant-loop-name : goal.invariant-loop-name
invariant-loop-name l = noting_all l.first (numbered l.number (map (λ (name : Name). name.at) (map (λ x. x.now) (drop l.name-index l.names)))) ≡ noting_all l.fn.first (numbered l.number (map (λ (name : Name). name.at) (map (λ x. x.now) l.names)))
