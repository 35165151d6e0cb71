use Rattle.std.proofs.Common.{◌≡◌, ◌++◌, ◌+◌, map, drop, length}
use Rattle.dai_rules.specs.Views.{context_of}
use Rattle.dai_sorts.specs.Scopes.{with_terms, choices_from, binder_type}
use Rattle.dai_sorts.specs.Readers.{scope_of}
use Rattle.dai_sorts.proofs.reader.Reader.enter_locals.Given as goal

-- with the locals to come, all are in scope
abbrev pub invariant-loop-binder : goal.invariant-loop-binder
invariant-loop-binder l = record {
  scope : with_terms (scope_of l.self) (drop l.binder-index l.binders) (choices_from (length l.locals.items) (drop l.binder-index l.binders)) ≡ with_terms (scope_of l.fn.self) l.binders (choices_from (length l.fn.locals.items) l.binders);
  declarations : (context_of l.self.judge).declarations ≡ (context_of l.fn.self.judge).declarations;
  count : length l.locals.items ≡ length l.fn.locals.items + l.binder-index;
  locals : l.locals.items ++ map (binder_type (context_of l.fn.self.judge).declarations) (drop l.binder-index l.binders) ≡ l.fn.locals.items ++ map (binder_type (context_of l.fn.self.judge).declarations) l.binders;
}
