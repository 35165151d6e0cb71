use Rattle.std.proofs.Common.{◌≡◌, drop}
use Rattle.dai_syntax.specs.Trees.{formulas_of as trees_of}
use Rattle.dai_logic.specs.Trees.{formulas_of}
use Rattle.dai_rules.specs.Naming.{after_formulas}
use Rattle.dai_rules.specs.Views.{naming_of}
use Rattle.dai_sorts.specs.Formulas.{formulas_in}
use Rattle.dai_sorts.specs.Readers.{scope_of}
use Rattle.dai_sorts.proofs.Walking.{followed}
use Rattle.dai_sorts.proofs.formulas.+formula.Given as goal

-- with the formulas to come, these are all
abbrev pub invariant-formulas-loop-form : goal.invariant-formulas-loop-form
invariant-formulas-loop-form l = record {
  formulas : followed (formulas_of l.parts.items) (formulas_in (scope_of l.reader) l.types (naming_of l.naming) (trees_of (drop l.form-index l.forms))) ≡ formulas_in (scope_of l.reader) l.types (naming_of l.fn.naming) (trees_of l.forms);
  naming : after_formulas (naming_of l.naming) (trees_of (drop l.form-index l.forms)) ≡ after_formulas (naming_of l.fn.naming) (trees_of l.forms);
}
