use Rattle.std.proofs.Common.{◌≡◌, drop}
use Rattle.dai_rules.specs.Naming.{after_terms}
use Rattle.dai_rules.specs.Sites.{terms_output}
use Rattle.dai_rules.specs.Views.{view_of, context_of, naming_of, role_in, given}
use Rattle.dai_rules.proofs.judge.Judge.terms.Given as goal

-- with what the terms to come give, all is given
abbrev pub invariant-loop-number : goal.invariant-loop-number
invariant-loop-number l =
    given (view_of l.self) (terms_output (context_of l.self) (role_in (context_of l.self) l.role) (naming_of l.self.naming) (drop l.number l.places) (drop l.number l.terms)) (after_terms (naming_of l.self.naming) (drop l.number l.terms))
    ≡ given (view_of l.fn.self) (terms_output (context_of l.fn.self) (role_in (context_of l.fn.self) l.fn.role) (naming_of l.fn.self.naming) l.fn.places l.fn.terms) (after_terms (naming_of l.fn.self.naming) l.fn.terms)
