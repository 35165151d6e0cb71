use Rattle.std.proofs.Common.{◌≡◌, ◌++◌, map, drop, length}
use Rattle.dai_rules.specs.Views.{context_of}
use Rattle.dai_sorts.specs.Scopes.{with_terms, parameters_from, binder_type}
use Rattle.dai_sorts.specs.Readers.{scope_of}
use Rattle.dai_sorts.proofs.reader.Reader.enter_parameters.Given as goal

-- with the parameters to come, all are in scope
abbrev pub invariant-loop-binder : goal.invariant-loop-binder
invariant-loop-binder l = record {
  scope : with_terms (scope_of l.self) (drop l.binder-index l.binders) (parameters_from (length l.types.items) (drop l.binder-index l.binders)) ≡ with_terms (scope_of l.fn.self) l.binders (parameters_from 0 l.binders);
  declarations : (context_of l.self.judge).declarations ≡ (context_of l.fn.self.judge).declarations;
  count : length l.types.items ≡ l.binder-index;
  types : l.types.items ++ map (binder_type (context_of l.fn.self.judge).declarations) (drop l.binder-index l.binders) ≡ map (binder_type (context_of l.fn.self.judge).declarations) l.binders;
}
