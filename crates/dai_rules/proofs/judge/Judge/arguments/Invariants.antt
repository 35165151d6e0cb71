use Rattle.std.proofs.Common.{◌≡◌, [], take, drop}
use Rattle.dai_rules.specs.Sites.{arguments_at}
use Rattle.dai_rules.specs.Views.{view_of, seen}
use Rattle.dai_rules.proofs.judge.Judge.arguments.Given as goal

-- with the sites of the arguments to come, all are seen
abbrev pub invariant-loop-number : goal.invariant-loop-number
invariant-loop-number l = seen (view_of l.self) (arguments_at (take l.number l.args) (drop l.number l.args)) ≡ seen (view_of l.fn.self) (arguments_at [] l.args)
