-- The trees of lists of formulas and of statements.
use Rattle.std.proofs.Common.{◌≡◌, List, [], ◌∷◌, ◌++◌, refl, ap, ◌∙◌, sym, Vec}
use Rattle.std.specs.declared.alloc.Global.{Global}
use Rattle.dai_syntax.specs.Tree as Tree
use Rattle.dai_syntax.specs.declared.tree.Form.{Form, Row_of-Form, end_of-Form, more_of-Form, items-the_row-Form}
use Rattle.dai_syntax.specs.declared.tree.Form.TheBlock.{hidden-the_row-Form-0, items_hidden-the_row-Form-0}
use Rattle.dai_syntax.specs.declared.tree.Stat.{Stat, Cond, Row_of-Stat, end_of-Stat, more_of-Stat, items-the_row-Stat}
use Rattle.dai_syntax.specs.declared.tree.Stat.TheBlock.{hidden-the_row-Stat-0, items_hidden-the_row-Stat-0}
use Rattle.dai_syntax.specs.Trees.{formula_of, formulas_of, formulas_of_row, statement_of, statements_of, statements_of_row}

formulas_of_row_is : (n : _) (k : Row_of-Form n) → formulas_of_row k ≡ formulas_of (items-the_row-Form n k)
formulas_of_row_is _ end_of-Form = refl
formulas_of_row_is _ (more_of-Form f fs) = ap (Tree.with_formula (formula_of f)) (formulas_of_row_is _ fs)

pub formulas_hidden : (v : Vec Form Global) → formulas_of_row (hidden-the_row-Form-0 v) ≡ formulas_of v.items
formulas_hidden v = formulas_of_row_is _ (hidden-the_row-Form-0 v) ∙ ap formulas_of (items_hidden-the_row-Form-0 v)

statements_of_row_is : (n : _) (k : Row_of-Stat n) → statements_of_row k ≡ statements_of (items-the_row-Stat n k)
statements_of_row_is _ end_of-Stat = refl
statements_of_row_is _ (more_of-Stat c cs) = ap (Tree.with_statement (statement_of c)) (statements_of_row_is _ cs)

pub statements_hidden : (v : Vec Stat Global) → statements_of_row (hidden-the_row-Stat-0 v) ≡ statements_of v.items
statements_hidden v = statements_of_row_is _ (hidden-the_row-Stat-0 v) ∙ ap statements_of (items_hidden-the_row-Stat-0 v)

pub conditional_of : (f : Form) (first second : Vec Stat Global) → statement_of (Cond f first second) ≡ Tree.conditional (formula_of f) (statements_of first.items) (statements_of second.items)
conditional_of f first second = ap (λ ys. Tree.conditional (formula_of f) ys (statements_of_row (hidden-the_row-Stat-0 second))) (statements_hidden first) ∙ ap (λ ns. Tree.conditional (formula_of f) (statements_of first.items) ns) (statements_hidden second)

-- the formulas of the one and then those of the other
abbrev pub joined : Tree.Formulas → Tree.Formulas → Tree.Formulas
joined Tree.no_formulas gs = gs
joined (Tree.with_formula f fs) gs = Tree.with_formula f (joined fs gs)

pub joined_none : (fs : Tree.Formulas) → joined fs Tree.no_formulas ≡ fs
joined_none Tree.no_formulas = refl
joined_none (Tree.with_formula f fs) = ap (Tree.with_formula f) (joined_none fs)

joined_one : (items : List Form) (x : Form) (more : Tree.Formulas) → joined (formulas_of (items ++ x ∷ [])) more ≡ joined (formulas_of items) (Tree.with_formula (formula_of x) more)
joined_one [] x more = refl
joined_one (y ∷ items) x more = ap (Tree.with_formula (formula_of y)) (joined_one items x more)

pub joined_more : (items now : List Form) (x : Form) (more : Tree.Formulas) → now ≡ items ++ x ∷ [] → joined (formulas_of items) (Tree.with_formula (formula_of x) more) ≡ joined (formulas_of now) more
joined_more items now x more e = sym (joined_one items x more) ∙ ap (λ xs. joined (formulas_of xs) more) (sym e)

-- the same of statements
abbrev pub followed : Tree.Statements → Tree.Statements → Tree.Statements
followed Tree.no_statements ds = ds
followed (Tree.with_statement c cs) ds = Tree.with_statement c (followed cs ds)

pub followed_none : (cs : Tree.Statements) → followed cs Tree.no_statements ≡ cs
followed_none Tree.no_statements = refl
followed_none (Tree.with_statement c cs) = ap (Tree.with_statement c) (followed_none cs)

followed_one : (items : List Stat) (x : Stat) (more : Tree.Statements) → followed (statements_of (items ++ x ∷ [])) more ≡ followed (statements_of items) (Tree.with_statement (statement_of x) more)
followed_one [] x more = refl
followed_one (y ∷ items) x more = ap (Tree.with_statement (statement_of y)) (followed_one items x more)

pub followed_more : (items now : List Stat) (x : Stat) (more : Tree.Statements) → now ≡ items ++ x ∷ [] → followed (statements_of items) (Tree.with_statement (statement_of x) more) ≡ followed (statements_of now) more
followed_more items now x more e = sym (followed_one items x more) ∙ ap (λ xs. followed (statements_of xs) more) (sym e)
