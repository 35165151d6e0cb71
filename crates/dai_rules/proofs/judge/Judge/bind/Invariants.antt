use Rattle.std.proofs.Common.{◌≡◌, [], take, drop}
use Rattle.dai_rules.specs.Naming.{Binding, at_quantifier, entered, bound_by}
use Rattle.dai_rules.specs.Sites.{binders_output}
use Rattle.dai_rules.specs.Views.{view_of, context_of, naming_of, given, IsAtQuantifier}
use Rattle.dai_rules.proofs.judge.Judge.bind.Given as goal

-- with what the variables to come give, all are bound
abbrev pub invariant-loop-number : goal.invariant-loop-number
invariant-loop-number l =
    (b : Binding) × record {
      here : IsAtQuantifier l.start (naming_of l.fn.self.naming) b l.self;
      rest : bound_by b (drop l.number l.binders) ≡ bound_by (at_quantifier (naming_of l.fn.self.naming)) l.binders;
      output : given (view_of l.self) (binders_output (context_of l.self) l.witness b (take l.number l.binders) (drop l.number l.binders)) (entered (naming_of l.fn.self.naming) l.binders)
          ≡ given (view_of l.fn.self) (binders_output (context_of l.fn.self) l.witness (at_quantifier (naming_of l.fn.self.naming)) [] l.binders) (entered (naming_of l.fn.self.naming) l.binders);
    }
