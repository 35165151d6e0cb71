-- The places that a tree keeps: those of its names, of its quantifiers, and of the words that begin axioms and
-- invariants. All of them are offsets of at most `n`.
use Rattle.std.specs.Prelude.{ℕ, ◌≤◌, List, [], ◌∷◌, Option, None, Some}
use Rattle.dai_syntax.specs.declared.tree.Name.{Name}
use Rattle.dai_syntax.specs.declared.tree.Binder.{Binder}
use Rattle.dai_syntax.specs.declared.tree.Arg.{Arg}
use Rattle.dai_syntax.specs.declared.tree.Arg.TheVariants as A
use Rattle.dai_syntax.specs.Tree as Tree
use Rattle.dai_syntax.specs.Tree.{Formula, Formulas, Statement, Statements, Declaration}

abbrev pub NameWithin : ℕ → Name → Type 0
NameWithin n x = x.at ≤ n

-- a type or a label, if there is one
abbrev pub MarkWithin : ℕ → Option Name → Type 0
MarkWithin n None = Unit {0}
MarkWithin n (Some x) = NameWithin n x

abbrev pub BinderWithin : ℕ → Binder → Type 0
BinderWithin n b = NameWithin n b.name × MarkWithin n b.sort

abbrev pub BindersWithin : ℕ → List Binder → Type 0
BindersWithin n [] = Unit {0}
BindersWithin n (b ∷ bs) = BinderWithin n b × BindersWithin n bs

abbrev pub TermWithin : ℕ → Arg → Type 0
TermWithin n (A.Variable x m) = NameWithin n x × MarkWithin n m
TermWithin n (A.Symbol x) = NameWithin n x

abbrev pub TermsWithin : ℕ → List Arg → Type 0
TermsWithin n [] = Unit {0}
TermsWithin n (a ∷ args) = TermWithin n a × TermsWithin n args

abbrev mutual
  pub FormulaWithin : ℕ → Formula → Type 0
  FormulaWithin n (Tree.truth value) = Unit {0}
  FormulaWithin n (Tree.atom x args) = NameWithin n x × TermsWithin n args
  FormulaWithin n (Tree.comparison a op b) = TermWithin n a × TermWithin n b
  FormulaWithin n (Tree.negation f) = FormulaWithin n f
  FormulaWithin n (Tree.conjunction fs) = FormulasWithin n fs
  FormulaWithin n (Tree.disjunction fs) = FormulasWithin n fs
  FormulaWithin n (Tree.equivalence fs) = FormulasWithin n fs
  FormulaWithin n (Tree.implication f g) = FormulaWithin n f × FormulaWithin n g
  FormulaWithin n (Tree.quantified universal bs f at) = BindersWithin n bs × FormulaWithin n f × (at ≤ n)

  pub FormulasWithin : ℕ → Formulas → Type 0
  FormulasWithin n Tree.no_formulas = Unit {0}
  FormulasWithin n (Tree.with_formula f fs) = FormulaWithin n f × FormulasWithin n fs

abbrev mutual
  pub StatementWithin : ℕ → Statement → Type 0
  StatementWithin n (Tree.requirement f) = FormulaWithin n f
  StatementWithin n (Tree.assignment x args f) = NameWithin n x × TermsWithin n args × FormulaWithin n f
  StatementWithin n (Tree.conditional f first second) = FormulaWithin n f × StatementsWithin n first × StatementsWithin n second
  StatementWithin n (Tree.with_locals bs body) = BindersWithin n bs × StatementsWithin n body

  pub StatementsWithin : ℕ → Statements → Type 0
  StatementsWithin n Tree.no_statements = Unit {0}
  StatementsWithin n (Tree.with_statement c cs) = StatementWithin n c × StatementsWithin n cs

abbrev pub DeclarationWithin : ℕ → Declaration → Type 0
DeclarationWithin n (Tree.sort x ordered) = NameWithin n x
DeclarationWithin n (Tree.relation x bs) = NameWithin n x × BindersWithin n bs
DeclarationWithin n (Tree.individual x y) = NameWithin n x × NameWithin n y
DeclarationWithin n (Tree.axiom_of f at) = FormulaWithin n f × (at ≤ n)
DeclarationWithin n (Tree.init cs) = StatementsWithin n cs
DeclarationWithin n (Tree.action x bs cs is_exported) = NameWithin n x × BindersWithin n bs × StatementsWithin n cs
DeclarationWithin n (Tree.export x) = NameWithin n x
DeclarationWithin n (Tree.invariant label f at) = MarkWithin n label × FormulaWithin n f × (at ≤ n)

abbrev pub DeclarationsWithin : ℕ → List Declaration → Type 0
DeclarationsWithin n [] = Unit {0}
DeclarationsWithin n (d ∷ ds) = DeclarationWithin n d × DeclarationsWithin n ds
