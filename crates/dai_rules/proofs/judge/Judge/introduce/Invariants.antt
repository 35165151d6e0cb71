use Rattle.std.proofs.Common.{◌≡◌, ◌-◌, drop}
use Rattle.dai_rules.specs.declared.judge.Judge.{Judge}
use Rattle.dai_rules.specs.Views.{Introduces}
use Rattle.dai_rules.proofs.judge.Judge.introduce.Given as goal

-- what introduces the binders to come introduces them all
abbrev pub invariant-loop-binder : goal.invariant-loop-binder
invariant-loop-binder l = record {
  rest : (j : Judge) → Introduces l.left (drop l.binder-index l.binders) l.self j → Introduces l.fn.room l.binders l.fn.self j;
  left : l.left ≡ l.fn.room - l.binder-index;
}
