-- How the values of the parts of a production become that of the whole. The values of the parts stand in front, in
-- order, and those of what comes after stay as they are.
use Rattle.std.specs.Prelude.{Bool, List, [], ◌∷◌, ℕ, Option, Some, None}
use Rattle.dai_lex.specs.declared.token.Token.{Token}
use Rattle.dai_syntax.specs.declared.tree.Name.{Name}
use Rattle.dai_syntax.specs.declared.tree.Arg.TheVariants.{Variable as variable, Symbol as symbol}
use Rattle.dai_syntax.specs.declared.tree.Op.{Op}
use Rattle.dai_syntax.specs.Tree as Tree
use Rattle.dai_syntax.specs.Tree.{Formula, Formulas}
use Rattle.dai_syntax.specs.Symbols.{Rest, bare, applied, compared, name_of, part1, part2, part3, after1, after2, after3}
use Rattle.dai_syntax.specs.Symbols.{Value, v_name, v_mark, v_binder, v_binders, v_term, v_terms, v_operator, v_rest}
use Rattle.dai_syntax.specs.Symbols.{v_formula, v_formulas, v_consequence, v_statement, v_statements, v_declaration, v_declarations}
use Rattle.dai_syntax.specs.Symbols.{the_name, the_mark, the_binder, the_binders, the_term, the_terms, the_operator, the_rest}
use Rattle.dai_syntax.specs.Symbols.{the_formula, the_formulas, the_consequence, the_statement, the_statements, the_declaration, the_declarations}

-- of a production that begins with this token
abbrev pub Effect : Type 0
Effect = Token → List Value → List Value

-- the values of the parts are those of the whole
abbrev pub passed : Effect
passed t vs = vs

-- Names and labels.

abbrev pub named : List ℕ → Effect
named bytes t vs = v_name (name_of bytes t) ∷ vs

abbrev pub as_mark : Effect
as_mark t vs = v_mark (Some (the_name (part1 vs))) ∷ after1 vs

-- Declarations.

abbrev pub as_type : Bool → Effect
as_type ordered t vs = v_declaration (Tree.sort (the_name (part1 vs)) ordered) ∷ after1 vs

abbrev pub as_relation : Effect
as_relation t vs = v_declaration (Tree.relation (the_name (part1 vs)) (the_binders (part2 vs))) ∷ after2 vs

abbrev pub as_individual : Effect
as_individual t vs = v_declaration (Tree.individual (the_name (part1 vs)) (the_name (part2 vs))) ∷ after2 vs

abbrev pub as_axiom : Effect
as_axiom t vs = v_declaration (Tree.axiom_of (the_formula (part2 vs)) t.start) ∷ after2 vs

abbrev pub as_init : Effect
as_init t vs = v_declaration (Tree.init (the_statements (part1 vs))) ∷ after1 vs

abbrev pub as_export : List ℕ → Effect
as_export bytes t vs = v_declaration (Tree.export (name_of bytes t)) ∷ vs

abbrev pub as_action : List ℕ → Bool → Effect
as_action bytes is_exported t vs = v_declaration (Tree.action (name_of bytes t) (the_binders (part1 vs)) (the_statements (part2 vs)) is_exported) ∷ after2 vs

abbrev pub as_invariant : Effect
as_invariant t vs = v_declaration (Tree.invariant (the_mark (part1 vs)) (the_formula (part2 vs)) t.start) ∷ after2 vs

abbrev pub as_declarations : List Value → List Value
as_declarations vs = v_declarations (the_declaration (part1 vs) ∷ the_declarations (part2 vs)) ∷ after2 vs

-- Binders.

abbrev pub as_binder : List ℕ → Effect
as_binder bytes t vs = v_binder (record { name = name_of bytes t; sort = the_mark (part1 vs) }) ∷ after1 vs

abbrev pub as_binders : List Value → List Value
as_binders vs = v_binders (the_binder (part1 vs) ∷ the_binders (part2 vs)) ∷ after2 vs

-- Statements, each before those that follow it.

abbrev pub before_others : Tree.Statement → Value → Value
before_others c others = v_statements (Tree.with_statement c (the_statements others))

abbrev pub as_requirement : Effect
as_requirement t vs = before_others (Tree.requirement (the_formula (part1 vs))) (part2 vs) ∷ after2 vs

abbrev pub as_assignment : List ℕ → Effect
as_assignment bytes t vs = before_others (Tree.assignment (name_of bytes t) (the_terms (part1 vs)) (the_formula (part2 vs))) (part3 vs) ∷ after3 vs

abbrev pub as_statements : Effect
as_statements t vs = before_others (the_statement (part1 vs)) (part2 vs) ∷ after2 vs

abbrev pub as_locals : Effect
as_locals t vs = before_others (Tree.with_locals (the_binders (part1 vs)) (the_statements (part2 vs))) (part3 vs) ∷ after3 vs

abbrev pub as_conditional : List Value → List Value
as_conditional vs = v_statement (Tree.conditional (the_formula (part1 vs)) (the_statements (part2 vs)) (the_statements (part3 vs))) ∷ after3 vs

abbrev pub as_one_statement : Effect
as_one_statement t vs = v_statements (Tree.with_statement (the_statement (part1 vs)) Tree.no_statements) ∷ after1 vs

-- Formulas. One part of a chain stands for itself, and more are a chain.

abbrev pub chain : (Formulas → Formula) → Formula → Formulas → Formula
chain connect f Tree.no_formulas = f
chain connect f (Tree.with_formula g gs) = connect (Tree.with_formula f (Tree.with_formula g gs))

abbrev pub as_chain : (Formulas → Formula) → List Value → List Value
as_chain connect vs = v_formula (chain connect (the_formula (part1 vs)) (the_formulas (part2 vs))) ∷ after2 vs

abbrev pub as_formulas : Effect
as_formulas t vs = v_formulas (Tree.with_formula (the_formula (part1 vs)) (the_formulas (part2 vs))) ∷ after2 vs

abbrev pub implies : Formula → Option Formula → Formula
implies f None = f
implies f (Some g) = Tree.implication f g

abbrev pub as_implication : List Value → List Value
as_implication vs = v_formula (implies (the_formula (part1 vs)) (the_consequence (part2 vs))) ∷ after2 vs

abbrev pub as_consequence : Effect
as_consequence t vs = v_consequence (Some (the_formula (part1 vs))) ∷ after1 vs

abbrev pub as_negation : Effect
as_negation t vs = v_formula (Tree.negation (the_formula (part1 vs))) ∷ after1 vs

abbrev pub as_truth : Bool → Effect
as_truth value t vs = v_formula (Tree.truth value) ∷ vs

abbrev pub as_quantified : Bool → Effect
as_quantified universal t vs = v_formula (Tree.quantified universal (the_binders (part1 vs)) (the_formula (part2 vs)) t.start) ∷ after2 vs

-- Atoms, comparisons and terms.

abbrev pub atom : Name → Rest → Formula
atom n bare = Tree.atom n []
atom n (applied args) = Tree.atom n args
atom n (compared op right) = Tree.comparison (symbol n) op right

abbrev pub as_atom : List ℕ → Effect
as_atom bytes t vs = v_formula (atom (name_of bytes t) (the_rest (part1 vs))) ∷ after1 vs

abbrev pub as_comparison : List ℕ → Effect
as_comparison bytes t vs = v_formula (Tree.comparison (variable (name_of bytes t) (the_mark (part1 vs))) (the_operator (part2 vs)) (the_term (part3 vs))) ∷ after3 vs

abbrev pub as_applied : Effect
as_applied t vs = v_rest (applied (the_terms (part1 vs))) ∷ after1 vs

abbrev pub as_compared : Op → Effect
as_compared op t vs = v_rest (compared op (the_term (part1 vs))) ∷ after1 vs

abbrev pub as_operator : Op → Effect
as_operator op t vs = v_operator op ∷ vs

abbrev pub as_symbol : List ℕ → Effect
as_symbol bytes t vs = v_term (symbol (name_of bytes t)) ∷ vs

abbrev pub as_variable : List ℕ → Effect
as_variable bytes t vs = v_term (variable (name_of bytes t) (the_mark (part1 vs))) ∷ after1 vs

abbrev pub as_terms : List Value → List Value
as_terms vs = v_terms (the_term (part1 vs) ∷ the_terms (part2 vs)) ∷ after2 vs
