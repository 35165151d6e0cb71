use Rattle.std.proofs.Common.{◌≡◌, ◌++◌, map, drop}
use Rattle.dai_logic.specs.Trees.{term_of}
use Rattle.dai_rules.specs.Naming.{after_terms}
use Rattle.dai_rules.specs.Views.{naming_of}
use Rattle.dai_sorts.specs.Scopes.{terms_in}
use Rattle.dai_sorts.specs.Readers.{scope_of}
use Rattle.dai_sorts.proofs.formulas.terms.Given as goal

-- with the terms to come, these are all
abbrev pub invariant-loop-arg : goal.invariant-loop-arg
invariant-loop-arg l = record {
  terms : map term_of l.terms.items ++ terms_in (scope_of l.reader) (naming_of l.naming) (drop l.arg-index l.args) ≡ terms_in (scope_of l.reader) (naming_of l.fn.naming) l.args;
  naming : after_terms (naming_of l.naming) (drop l.arg-index l.args) ≡ after_terms (naming_of l.fn.naming) l.args;
}
