use Rattle.std.proofs.Common.{◌≡◌, ◌++◌, map, drop}
use Rattle.dai_rules.specs.Views.{context_of}
use Rattle.dai_sorts.specs.Scopes.{binder_type}
use Rattle.dai_sorts.proofs.draft.types_of.Given as goal

-- with those of the arguments to come, these are the types of all
abbrev pub invariant-loop-arg : goal.invariant-loop-arg
invariant-loop-arg l = l.types.items ++ map (binder_type (context_of l.reader.judge).declarations) (drop l.arg-index l.args) ≡ map (binder_type (context_of l.reader.judge).declarations) l.args
