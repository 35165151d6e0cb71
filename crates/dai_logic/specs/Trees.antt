-- Which trees of the model the program's formulas and statements stand for, one case for each variant.
use Rattle.std.specs.Prelude.{List, [], ◌∷◌, map}
use Rattle.dai_model.specs.Formula as Model
use Rattle.dai_logic.specs.declared.protocol.Term.{Term}
use Rattle.dai_logic.specs.declared.protocol.Term.TheVariants.{Var, Ind, Par, Loc}
use Rattle.dai_logic.specs.declared.protocol.Formula.{Formula, Truth, Rel, Same, Less, LessEq, Not', All', Any', Implies', Iff', Forall', Exists', Row_of-Formula, end_of-Formula, more_of-Formula}
use Rattle.dai_logic.specs.declared.protocol.Step.{Step, Require, SetTable, SetValue, Cond', Row_of-Step, end_of-Step, more_of-Step}

abbrev pub term_of : Term → Model.Term
term_of (Var v) = Model.variable v
term_of (Ind i) = Model.individual i
term_of (Par p) = Model.parameter p
term_of (Loc l) = Model.choice l

abbrev mutual
  pub formula_of : Formula → Model.Formula
  formula_of (Truth b) = Model.truth b
  formula_of (Rel r args) = Model.relates r (map term_of args.items)
  formula_of (Same a b) = Model.same (term_of a) (term_of b)
  formula_of (Less a b) = Model.less (term_of a) (term_of b)
  formula_of (LessEq a b) = Model.less_or_same (term_of a) (term_of b)
  formula_of (Not' p f) = Model.negation (formula_of f)
  formula_of (All' shape fs) = Model.conjunction (formulas_of_row fs)
  formula_of (Any' shape fs) = Model.disjunction (formulas_of_row fs)
  formula_of (Implies' p f q g) = Model.implication (formula_of f) (formula_of g)
  formula_of (Iff' shape fs) = Model.equivalence (formulas_of_row fs)
  formula_of (Forall' v t p f) = Model.universal v t (formula_of f)
  formula_of (Exists' v t p f) = Model.existential v t (formula_of f)

  pub formulas_of_row : {m : _} → Row_of-Formula m → Model.Formulas
  formulas_of_row end_of-Formula = Model.no_formulas
  formulas_of_row (more_of-Formula f fs) = Model.with_formula (formula_of f) (formulas_of_row fs)

-- the same of a list
abbrev pub formulas_of : List Formula → Model.Formulas
formulas_of [] = Model.no_formulas
formulas_of (f ∷ fs) = Model.with_formula (formula_of f) (formulas_of fs)

abbrev mutual
  pub statement_of : Step → Model.Statement
  statement_of (Require f) = Model.requirement (formula_of f)
  statement_of (SetTable r args f) = Model.update_relation r (map term_of args.items) (formula_of f)
  statement_of (SetValue i t) = Model.update_individual i (term_of t)
  statement_of (Cond' f shape first shape2 second) = Model.conditional (formula_of f) (statements_of_row first) (statements_of_row second)

  pub statements_of_row : {m : _} → Row_of-Step m → Model.Statements
  statements_of_row end_of-Step = Model.no_statements
  statements_of_row (more_of-Step c cs) = Model.with_statement (statement_of c) (statements_of_row cs)

-- the same of a list
abbrev pub statements_of : List Step → Model.Statements
statements_of [] = Model.no_statements
statements_of (c ∷ cs) = Model.with_statement (statement_of c) (statements_of cs)
