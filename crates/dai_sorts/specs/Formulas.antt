-- Which formula of the model a formula of the file stands for.
use Rattle.std.specs.Prelude.{◌≡◌, ℕ, ◌<◌, Bool, true, false, List, [], ◌∷◌, length, reverse, Some, slice_get, slice_index}
use Rattle.dai_syntax.specs.declared.tree.Name.{Name}
use Rattle.dai_syntax.specs.declared.tree.Op.{Op}
use Rattle.dai_syntax.specs.declared.tree.Op.TheVariants.{Equal, Unequal, Less, LessEqual}
use Rattle.dai_syntax.specs.Tree.{Formula, truth, atom, comparison, negation, conjunction, disjunction, equivalence, implication, quantified, Formulas, no_formulas, with_formula, Declaration}
use Rattle.dai_model.specs.Formula as Model
use Rattle.dai_rules.specs.Naming.{Naming, no_variables, bound_by, at_quantifier, entered, after_term, after_formula}
use Rattle.dai_rules.specs.Types.{Use, HasType}
use Rattle.dai_rules.specs.Sites.{Role, sentence_output}
use Rattle.dai_sorts.specs.Scopes.{Scope, type_number, relation_number, term_in, terms_in}

-- a comparison; `a ~= b` is the negation of `a = b`
abbrev pub compared : Op → Model.Term → Model.Term → Model.Formula
compared Equal a b = Model.same a b
compared Unequal a b = Model.negation (Model.same a b)
compared Less a b = Model.less a b
compared LessEqual a b = Model.less_or_same a b

-- a quantifier over a variable of this type
abbrev pub over_one : Bool → ℕ → ℕ → Model.Formula → Model.Formula
over_one true v type f = Model.universal v type f
over_one false v type f = Model.existential v type f

-- quantifiers over these variables, innermost first; the types of the variables stand in a list
abbrev pub over : Bool → List ℕ → List ℕ → Model.Formula → Model.Formula
over universal types [] f = f
over universal types (v ∷ vs) f = over universal types vs (over_one universal v (slice_index types v) f)

-- a formula at this naming, where the variables of the whole have these types
abbrev mutual
  pub formula_in : Scope → List ℕ → Naming → Formula → Model.Formula
  formula_in scope types n (truth b) = Model.truth b
  formula_in scope types n (atom name args) = Model.relates (relation_number scope.context.declarations name.text) (terms_in scope n args)
  formula_in scope types n (comparison a op b) = compared op (term_in scope n a) (term_in scope (after_term n a) b)
  formula_in scope types n (negation f) = Model.negation (formula_in scope types n f)
  formula_in scope types n (conjunction fs) = Model.conjunction (formulas_in scope types n fs)
  formula_in scope types n (disjunction fs) = Model.disjunction (formulas_in scope types n fs)
  formula_in scope types n (equivalence fs) = Model.equivalence (formulas_in scope types n fs)
  formula_in scope types n (implication f g) = Model.implication (formula_in scope types n f) (formula_in scope types (after_formula n f) g)
  formula_in scope types n (quantified universal binders f at) =
      over universal types (bound_by (at_quantifier n) binders).own (formula_in scope types (entered n binders) f)

  pub formulas_in : Scope → List ℕ → Naming → Formulas → Model.Formulas
  formulas_in scope types n no_formulas = Model.no_formulas
  formulas_in scope types n (with_formula f fs) = Model.with_formula (formula_in scope types n f) (formulas_in scope types (after_formula n f) fs)

-- each of these variables has the type whose number stands at its place
pub record AreTypes (ds : List Declaration) (variables : List Name) (uses : List Use) (types : List ℕ) : Type 0 where
  pub count : length types ≡ length variables
  pub each : (v : ℕ) → v < length variables → (t : List ℕ) × HasType uses v t × (slice_get types v ≡ Some (type_number ds t))

-- A formula as a whole, for this role. The free variables are bound by universal quantifiers around it, in the order
-- in which they first occur.
pub record IsSentence (scope : Scope) (role : Role) (f : Formula) (g : Model.Formula) : Type 0 where
  pub types : List ℕ
  pub typed : AreTypes scope.context.declarations (after_formula no_variables f).variables (sentence_output scope.context role f).uses types
  pub same : g ≡ over true types (reverse (after_formula no_variables f).free) (formula_in scope types no_variables f)
