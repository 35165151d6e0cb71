use Rattle.std.proofs.Common.{◌≡◌, drop}
use Rattle.dai_rules.specs.Sites.{relation_sites}
use Rattle.dai_rules.specs.Views.{context_of, view_of, seen}
use Rattle.dai_rules.proofs.judge.Judge.relation.Given as goal

-- with the arguments to come, all are seen
abbrev pub invariant-loop-binder : goal.invariant-loop-binder
invariant-loop-binder l = seen (view_of l.self) (relation_sites (context_of l.self).declarations l.left (drop l.binder-index l.args)) ≡ seen (view_of l.fn.self) (relation_sites (context_of l.fn.self).declarations 5 l.args)
