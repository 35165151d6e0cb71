-- Which tree of the model a list of formulas or of statements stands for.
use Rattle.std.proofs.Common.{◌≡◌, ℕ, ◌+◌, ◌<◌, ◌≤◌, List, length, get_or, drop, ap, sym, ◌∙◌, refl, Vec}
use Rattle.std.proofs.lemmas.List.{drop_more, at_drop_all}
use Rattle.std.specs.declared.alloc.Global.{Global}
use Rattle.dai_model.specs.Formula as Model
use Rattle.dai_logic.specs.declared.protocol.Formula.{Formula, All, Any, Iff, Row_of-Formula, end_of-Formula, more_of-Formula, items-the_row-Formula}
use Rattle.dai_logic.specs.declared.protocol.Formula.TheBlock.{hidden-the_row-Formula-0, items_hidden-the_row-Formula-0}
use Rattle.dai_logic.specs.declared.protocol.Step.{Step, Cond, Row_of-Step, end_of-Step, more_of-Step, items-the_row-Step}
use Rattle.dai_logic.specs.declared.protocol.Step.TheBlock.{hidden-the_row-Step-0, items_hidden-the_row-Step-0}
use Rattle.dai_logic.specs.Trees.{formula_of, formulas_of, formulas_of_row, statement_of, statements_of, statements_of_row}

formulas_of_row_is : (n : _) (k : Row_of-Formula n) → formulas_of_row k ≡ formulas_of (items-the_row-Formula n k)
formulas_of_row_is _ end_of-Formula = refl
formulas_of_row_is _ (more_of-Formula f fs) = ap (Model.with_formula (formula_of f)) (formulas_of_row_is _ fs)

formulas_hidden : (v : Vec Formula Global) → formulas_of_row (hidden-the_row-Formula-0 v) ≡ formulas_of v.items
formulas_hidden v = formulas_of_row_is _ (hidden-the_row-Formula-0 v) ∙ ap formulas_of (items_hidden-the_row-Formula-0 v)

pub formula_of-All : (v : Vec Formula Global) → formula_of (All v) ≡ Model.conjunction (formulas_of v.items)
formula_of-All v = ap Model.conjunction (formulas_hidden v)

pub formula_of-Any : (v : Vec Formula Global) → formula_of (Any v) ≡ Model.disjunction (formulas_of v.items)
formula_of-Any v = ap Model.disjunction (formulas_hidden v)

pub formula_of-Iff : (v : Vec Formula Global) → formula_of (Iff v) ≡ Model.equivalence (formulas_of v.items)
formula_of-Iff v = ap Model.equivalence (formulas_hidden v)

-- the rest from an index on begins with the formula there
pub formulas_of-drop : (xs : List Formula) (i : ℕ) (x : Formula) → i < length xs → x ≡ get_or xs i x → formulas_of (drop i xs) ≡ Model.with_formula (formula_of x) (formulas_of (drop (i + 1) xs))
formulas_of-drop xs i x below is =
    ap formulas_of (drop_more xs i x below) ∙ ap (λ y. Model.with_formula (formula_of y) (formulas_of (drop (i + 1) xs))) (sym is)

pub formulas_of-drop_all : (xs : List Formula) (i : ℕ) → length xs ≤ i → formulas_of (drop i xs) ≡ Model.no_formulas
formulas_of-drop_all xs i past = at_drop_all formulas_of xs i past

statements_of_row_is : (n : _) (k : Row_of-Step n) → statements_of_row k ≡ statements_of (items-the_row-Step n k)
statements_of_row_is _ end_of-Step = refl
statements_of_row_is _ (more_of-Step c cs) = ap (Model.with_statement (statement_of c)) (statements_of_row_is _ cs)

statements_hidden : (v : Vec Step Global) → statements_of_row (hidden-the_row-Step-0 v) ≡ statements_of v.items
statements_hidden v = statements_of_row_is _ (hidden-the_row-Step-0 v) ∙ ap statements_of (items_hidden-the_row-Step-0 v)

pub statement_of-Cond : (f : Formula) (first second : Vec Step Global) → statement_of (Cond f first second) ≡ Model.conditional (formula_of f) (statements_of first.items) (statements_of second.items)
statement_of-Cond f first second =
    ap (λ cs. Model.conditional (formula_of f) cs (statements_of_row (hidden-the_row-Step-0 second))) (statements_hidden first) ∙ ap (Model.conditional (formula_of f) (statements_of first.items)) (statements_hidden second)

pub statements_of-drop : (xs : List Step) (i : ℕ) (x : Step) → i < length xs → x ≡ get_or xs i x → statements_of (drop i xs) ≡ Model.with_statement (statement_of x) (statements_of (drop (i + 1) xs))
statements_of-drop xs i x below is =
    ap statements_of (drop_more xs i x below) ∙ ap (λ y. Model.with_statement (statement_of y) (statements_of (drop (i + 1) xs))) (sym is)

pub statements_of-drop_all : (xs : List Step) (i : ℕ) → length xs ≤ i → statements_of (drop i xs) ≡ Model.no_statements
statements_of-drop_all xs i past = at_drop_all statements_of xs i past
