use Rattle.std.proofs.Common.{◌≡◌, ◌++◌, map, drop}
use Rattle.dai_rules.specs.Views.{view_of, context_of}
use Rattle.dai_rules.specs.Names.{with_inside}
use Rattle.dai_sorts.specs.Readers.{fresh_view}
use Rattle.dai_sorts.proofs.reader.Reader.fresh.Given as goal

-- with the parameters and locals to come, it stands there
abbrev pub invariant-loop-binder : goal.invariant-loop-binder
invariant-loop-binder l =
    record (view_of l.judge) { context = with_inside (context_of l.judge) ((context_of l.judge).inside ++ map (λ x. x.now) (drop l.binder-index l.binder-items)) } ≡ fresh_view (context_of l.self.judge)
