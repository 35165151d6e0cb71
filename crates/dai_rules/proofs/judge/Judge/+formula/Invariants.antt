use Rattle.std.proofs.Common.{◌≡◌, drop}
use Rattle.dai_syntax.specs.Trees.{formulas_of}
use Rattle.dai_rules.specs.Naming.{after_formulas}
use Rattle.dai_rules.specs.Sites.{formulas_output}
use Rattle.dai_rules.specs.Views.{view_of, context_of, naming_of, force_of, role_in, given}
use Rattle.dai_rules.proofs.judge.Judge.+formula.Given as goal

-- with what the formulas to come give, all is given
abbrev pub invariant-formulas-loop-form : goal.invariant-formulas-loop-form
invariant-formulas-loop-form l =
    given (view_of l.self) (formulas_output (context_of l.self) (role_in (context_of l.self) l.role) (force_of l.force) (naming_of l.self.naming) (formulas_of (drop l.form-index l.forms))) (after_formulas (naming_of l.self.naming) (formulas_of (drop l.form-index l.forms)))
    ≡ given (view_of l.fn.self) (formulas_output (context_of l.fn.self) (role_in (context_of l.fn.self) l.fn.role) (force_of l.fn.force) (naming_of l.fn.self.naming) (formulas_of l.fn.forms)) (after_formulas (naming_of l.fn.self.naming) (formulas_of l.fn.forms))
