-- Which tree a value of the program stands for, one case for each variant.
use Rattle.std.specs.Prelude.{List, [], ◌∷◌, map}
use Rattle.dai_syntax.specs.Tree as Tree
use Rattle.dai_syntax.specs.declared.tree.Form.{Form, Truth, Atom, Compare, Not', All', Any', Implies', Same', Quant', Row_of-Form, end_of-Form, more_of-Form}
use Rattle.dai_syntax.specs.declared.tree.Stat.{Stat, Require, Assign, Cond', Local', Row_of-Stat, end_of-Stat, more_of-Stat}
use Rattle.dai_syntax.specs.declared.tree.Decl.{Decl}
use Rattle.dai_syntax.specs.declared.tree.Decl.TheVariants.{SortDecl, RelDecl, IndDecl, AxiomDecl, InitDecl, ActionDecl, ExportDecl, InvDecl}
use Rattle.dai_syntax.specs.declared.tree.File.{File}

abbrev mutual
  pub formula_of : Form → Tree.Formula
  formula_of (Truth b) = Tree.truth b
  formula_of (Atom name args) = Tree.atom name args.items
  formula_of (Compare a op b) = Tree.comparison a.value op b.value
  formula_of (Not' p f) = Tree.negation (formula_of f)
  formula_of (All' shape fs) = Tree.conjunction (formulas_of_row fs)
  formula_of (Any' shape fs) = Tree.disjunction (formulas_of_row fs)
  formula_of (Implies' p f q g) = Tree.implication (formula_of f) (formula_of g)
  formula_of (Same' shape fs) = Tree.equivalence (formulas_of_row fs)
  formula_of (Quant' universal binders p body at) = Tree.quantified universal binders.items (formula_of body) at

  pub formulas_of_row : {m : _} → Row_of-Form m → Tree.Formulas
  formulas_of_row end_of-Form = Tree.no_formulas
  formulas_of_row (more_of-Form f fs) = Tree.with_formula (formula_of f) (formulas_of_row fs)

-- the same of a list
abbrev pub formulas_of : List Form → Tree.Formulas
formulas_of [] = Tree.no_formulas
formulas_of (f ∷ fs) = Tree.with_formula (formula_of f) (formulas_of fs)

abbrev mutual
  pub statement_of : Stat → Tree.Statement
  statement_of (Require f) = Tree.requirement (formula_of f)
  statement_of (Assign name args f) = Tree.assignment name args.items (formula_of f)
  statement_of (Cond' f shape first shape2 second) = Tree.conditional (formula_of f) (statements_of_row first) (statements_of_row second)
  statement_of (Local' binders shape body) = Tree.with_locals binders.items (statements_of_row body)

  pub statements_of_row : {m : _} → Row_of-Stat m → Tree.Statements
  statements_of_row end_of-Stat = Tree.no_statements
  statements_of_row (more_of-Stat c cs) = Tree.with_statement (statement_of c) (statements_of_row cs)

-- the same of a list
abbrev pub statements_of : List Stat → Tree.Statements
statements_of [] = Tree.no_statements
statements_of (c ∷ cs) = Tree.with_statement (statement_of c) (statements_of cs)

abbrev pub declaration_of : Decl → Tree.Declaration
declaration_of (SortDecl name ordered) = Tree.sort name ordered
declaration_of (RelDecl name args) = Tree.relation name args.items
declaration_of (IndDecl name sort) = Tree.individual name sort
declaration_of (AxiomDecl body at) = Tree.axiom_of (formula_of body) at
declaration_of (InitDecl body) = Tree.init (statements_of body.items)
declaration_of (ActionDecl name params body exported) = Tree.action name params.items (statements_of body.items) exported
declaration_of (ExportDecl name) = Tree.export name
declaration_of (InvDecl label body at) = Tree.invariant label (formula_of body) at

abbrev pub declarations_of : File → List Tree.Declaration
declarations_of file = map declaration_of file.decls.items
