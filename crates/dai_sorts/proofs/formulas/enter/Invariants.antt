use Rattle.std.proofs.Common.{◌≡◌, drop}
use Rattle.dai_rules.specs.Naming.{Binding, at_quantifier, bound_by, with_binding}
use Rattle.dai_rules.specs.Views.{naming_of}
use Rattle.std.proofs.Common.{length}
use Rattle.dai_sorts.proofs.formulas.enter.Given as goal

-- with the variables to come, all are bound
abbrev pub invariant-loop-binder : goal.invariant-loop-binder
invariant-loop-binder l =
    (b : Binding) × record {
      begins : l.start ≡ length (naming_of l.fn.naming).bound;
      named : naming_of l.naming ≡ with_binding (naming_of l.fn.naming) b;
      rest : bound_by b (drop l.binder-index l.binders) ≡ bound_by (at_quantifier (naming_of l.fn.naming)) l.binders;
    }
