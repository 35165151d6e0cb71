-- The places of the trees of a file are within its bytes: an induction over derivations, whose values hold trees.
use Rattle.std.proofs.Common.{ℕ, suc, ◌≤◌, List, [], ◌∷◌, Option, None, Some, length, subst, sym, arith}
use Rattle.std.specs.List.{All}
use Rattle.dai_lex.specs.declared.token.Kind.{Kind}
use Rattle.dai_lex.specs.declared.token.Token.{Token}
use Rattle.dai_lex.specs.Tokens.{IsPlaced}
use Rattle.dai_syntax.specs.declared.tree.Name.{Name}
use Rattle.dai_syntax.specs.declared.tree.Binder.{Binder}
use Rattle.dai_syntax.specs.declared.tree.Arg.{Arg}
use Rattle.dai_syntax.specs.declared.tree.Op.{Op}
use Rattle.dai_syntax.specs.Tree as Tree
use Rattle.dai_syntax.specs.Within.{NameWithin, MarkWithin, BinderWithin, BindersWithin, TermWithin, TermsWithin, FormulaWithin, FormulasWithin, StatementWithin, StatementsWithin, DeclarationWithin, DeclarationsWithin}
use Rattle.dai_syntax.specs.Symbols.{Symbol, Rest, bare, applied, compared, part1, after1}
use Rattle.dai_syntax.specs.Symbols.{Value, v_name, v_mark, v_binder, v_binders, v_term, v_terms, v_operator, v_rest, v_formula, v_formulas, v_consequence, v_statement, v_statements, v_declaration, v_declarations}
use Rattle.dai_syntax.specs.Symbols.{the_name, the_mark, the_binder, the_binders, the_term, the_terms, the_rest, the_formula, the_formulas, the_consequence, the_statement, the_statements, the_declaration, the_declarations}
use Rattle.dai_syntax.specs.Values.{Effect, atom, chain, implies}
use Rattle.dai_syntax.specs.Grammar.{Production, a_sign, a_name, a_type, an_ordered_type, a_relation, an_individual, an_axiom, an_init, an_action, an_export, an_exported_action, an_exported_name, the_action, an_invariant, a_conjecture, a_label, a_small_label, a_capital_label, a_number_label, some_binders, further_binders, a_named_argument, a_variable_argument, a_named_parameter, a_bound_variable, a_mark, a_block, a_requirement, an_assumption, an_assignment, a_conditional, some_locals, a_semicolon, a_free_semicolon, an_alternative, a_further_condition, some_targets, an_equivalent, a_consequence, a_disjunct, a_conjunct, a_negation, a_truth, a_falsehood, a_bracket, a_universal, an_existential, an_atom, a_comparison, some_terms, same_as, other_than, less_than, at_most, an_equal_sign, an_unequal_sign, a_less_sign, an_at_most_sign, a_symbol, a_term_variable, further_terms}
use Rattle.dai_syntax.specs.Grammar.{Lookahead, Rewriting, no_declarations, further_declarations, no_label, no_binders, some_of_class, last_binder, no_mark, no_statement, last_statement, no_semicolon, the_condition, no_alternative, a_last_alternative, no_targets, a_right_side, a_formula, last_equivalent, an_implication, no_consequence, a_disjunction, last_disjunct, a_conjunction, last_conjunct, a_bare_atom, the_terms_of, last_term}
use Rattle.dai_syntax.specs.Grammar.{whole, Derives, stop, take, skip}
use Rattle.dai_syntax.specs.Reading.{setting}

abbrev RestWithin : ℕ → Rest → Type 0
RestWithin n bare = Unit {0}
RestWithin n (applied args) = TermsWithin n args
RestWithin n (compared op a) = TermWithin n a

abbrev ConsequenceWithin : ℕ → Option Tree.Formula → Type 0
ConsequenceWithin n None = Unit {0}
ConsequenceWithin n (Some f) = FormulaWithin n f

-- whatever the value is taken for
record ValueWithin (n : ℕ) (v : Value) : Type 0 where
  name : NameWithin n (the_name v)
  mark : MarkWithin n (the_mark v)
  binder : BinderWithin n (the_binder v)
  binders : BindersWithin n (the_binders v)
  term : TermWithin n (the_term v)
  terms : TermsWithin n (the_terms v)
  rest : RestWithin n (the_rest v)
  formula : FormulaWithin n (the_formula v)
  formulas : FormulasWithin n (the_formulas v)
  consequence : ConsequenceWithin n (the_consequence v)
  statement : StatementWithin n (the_statement v)
  statements : StatementsWithin n (the_statements v)
  declaration : DeclarationWithin n (the_declaration v)
  declarations : DeclarationsWithin n (the_declarations v)

abbrev ValuesWithin : ℕ → List Value → Type 0
ValuesWithin n [] = Unit {0}
ValuesWithin n (v ∷ vs) = ValueWithin n v × ValuesWithin n vs

least : {n : ℕ} → 0 ≤ n
least = omega arith

of_operator : {n : ℕ} (op : Op) → ValueWithin n (v_operator op)
of_operator op = record { name = least; mark = tt; binder = (least, tt); binders = tt; term = least; terms = tt; rest = tt; formula = tt; formulas = tt; consequence = tt; statement = tt; statements = tt; declaration = tt; declarations = tt }

of_name : {n : ℕ} (x : Name) → NameWithin n x → ValueWithin n (v_name x)
of_name x h = record { name = h; mark = tt; binder = (least, tt); binders = tt; term = least; terms = tt; rest = tt; formula = tt; formulas = tt; consequence = tt; statement = tt; statements = tt; declaration = tt; declarations = tt }

of_mark : {n : ℕ} (x : Option Name) → MarkWithin n x → ValueWithin n (v_mark x)
of_mark x h = record { name = least; mark = h; binder = (least, tt); binders = tt; term = least; terms = tt; rest = tt; formula = tt; formulas = tt; consequence = tt; statement = tt; statements = tt; declaration = tt; declarations = tt }

of_binder : {n : ℕ} (x : Binder) → BinderWithin n x → ValueWithin n (v_binder x)
of_binder x h = record { name = least; mark = tt; binder = h; binders = tt; term = least; terms = tt; rest = tt; formula = tt; formulas = tt; consequence = tt; statement = tt; statements = tt; declaration = tt; declarations = tt }

of_binders : {n : ℕ} (x : List Binder) → BindersWithin n x → ValueWithin n (v_binders x)
of_binders x h = record { name = least; mark = tt; binder = (least, tt); binders = h; term = least; terms = tt; rest = tt; formula = tt; formulas = tt; consequence = tt; statement = tt; statements = tt; declaration = tt; declarations = tt }

of_term : {n : ℕ} (x : Arg) → TermWithin n x → ValueWithin n (v_term x)
of_term x h = record { name = least; mark = tt; binder = (least, tt); binders = tt; term = h; terms = tt; rest = tt; formula = tt; formulas = tt; consequence = tt; statement = tt; statements = tt; declaration = tt; declarations = tt }

of_terms : {n : ℕ} (x : List Arg) → TermsWithin n x → ValueWithin n (v_terms x)
of_terms x h = record { name = least; mark = tt; binder = (least, tt); binders = tt; term = least; terms = h; rest = tt; formula = tt; formulas = tt; consequence = tt; statement = tt; statements = tt; declaration = tt; declarations = tt }

of_rest : {n : ℕ} (x : Rest) → RestWithin n x → ValueWithin n (v_rest x)
of_rest x h = record { name = least; mark = tt; binder = (least, tt); binders = tt; term = least; terms = tt; rest = h; formula = tt; formulas = tt; consequence = tt; statement = tt; statements = tt; declaration = tt; declarations = tt }

of_formula : {n : ℕ} (x : Tree.Formula) → FormulaWithin n x → ValueWithin n (v_formula x)
of_formula x h = record { name = least; mark = tt; binder = (least, tt); binders = tt; term = least; terms = tt; rest = tt; formula = h; formulas = tt; consequence = tt; statement = tt; statements = tt; declaration = tt; declarations = tt }

of_formulas : {n : ℕ} (x : Tree.Formulas) → FormulasWithin n x → ValueWithin n (v_formulas x)
of_formulas x h = record { name = least; mark = tt; binder = (least, tt); binders = tt; term = least; terms = tt; rest = tt; formula = tt; formulas = h; consequence = tt; statement = tt; statements = tt; declaration = tt; declarations = tt }

of_consequence : {n : ℕ} (x : Option Tree.Formula) → ConsequenceWithin n x → ValueWithin n (v_consequence x)
of_consequence x h = record { name = least; mark = tt; binder = (least, tt); binders = tt; term = least; terms = tt; rest = tt; formula = tt; formulas = tt; consequence = h; statement = tt; statements = tt; declaration = tt; declarations = tt }

of_statement : {n : ℕ} (x : Tree.Statement) → StatementWithin n x → ValueWithin n (v_statement x)
of_statement x h = record { name = least; mark = tt; binder = (least, tt); binders = tt; term = least; terms = tt; rest = tt; formula = tt; formulas = tt; consequence = tt; statement = h; statements = tt; declaration = tt; declarations = tt }

of_statements : {n : ℕ} (x : Tree.Statements) → StatementsWithin n x → ValueWithin n (v_statements x)
of_statements x h = record { name = least; mark = tt; binder = (least, tt); binders = tt; term = least; terms = tt; rest = tt; formula = tt; formulas = tt; consequence = tt; statement = tt; statements = h; declaration = tt; declarations = tt }

of_declaration : {n : ℕ} (x : Tree.Declaration) → DeclarationWithin n x → ValueWithin n (v_declaration x)
of_declaration x h = record { name = least; mark = tt; binder = (least, tt); binders = tt; term = least; terms = tt; rest = tt; formula = tt; formulas = tt; consequence = tt; statement = tt; statements = tt; declaration = h; declarations = tt }

of_declarations : {n : ℕ} (x : List Tree.Declaration) → DeclarationsWithin n x → ValueWithin n (v_declarations x)
of_declarations x h = record { name = least; mark = tt; binder = (least, tt); binders = tt; term = least; terms = tt; rest = tt; formula = tt; formulas = tt; consequence = tt; statement = tt; statements = tt; declaration = tt; declarations = h }

first : (n : ℕ) (vs : List Value) → ValuesWithin n vs → ValueWithin n (part1 vs)
first n [] h = of_mark None tt
first n (v ∷ vs) h = h.0

rest : (n : ℕ) (vs : List Value) → ValuesWithin n vs → ValuesWithin n (after1 vs)
rest n [] h = tt
rest n (v ∷ vs) h = h.1

second : (n : ℕ) (vs : List Value) → ValuesWithin n vs → ValueWithin n (part1 (after1 vs))
second n vs h = first n (after1 vs) (rest n vs h)

rest2 : (n : ℕ) (vs : List Value) → ValuesWithin n vs → ValuesWithin n (after1 (after1 vs))
rest2 n vs h = rest n (after1 vs) (rest n vs h)

third : (n : ℕ) (vs : List Value) → ValuesWithin n vs → ValueWithin n (part1 (after1 (after1 vs)))
third n vs h = first n (after1 (after1 vs)) (rest2 n vs h)

rest3 : (n : ℕ) (vs : List Value) → ValuesWithin n vs → ValuesWithin n (after1 (after1 (after1 vs)))
rest3 n vs h = rest n (after1 (after1 vs)) (rest2 n vs h)

atom_within : (n : ℕ) (x : Name) (r : Rest) → NameWithin n x → RestWithin n r → FormulaWithin n (atom x r)
atom_within n x bare p h = (p, tt)
atom_within n x (applied args) p h = (p, h)
atom_within n x (compared op a) p h = (p, h)

implies_within : (n : ℕ) (f : Tree.Formula) (g : Option Tree.Formula) → FormulaWithin n f → ConsequenceWithin n g → FormulaWithin n (implies f g)
implies_within n f None p h = p
implies_within n f (Some g) p h = (p, h)

conjunction_within : (n : ℕ) (f : Tree.Formula) (fs : Tree.Formulas) → FormulaWithin n f → FormulasWithin n fs → FormulaWithin n (chain Tree.conjunction f fs)
conjunction_within n f Tree.no_formulas p h = p
conjunction_within n f (Tree.with_formula g gs) p h = (p, h)

disjunction_within : (n : ℕ) (f : Tree.Formula) (fs : Tree.Formulas) → FormulaWithin n f → FormulasWithin n fs → FormulaWithin n (chain Tree.disjunction f fs)
disjunction_within n f Tree.no_formulas p h = p
disjunction_within n f (Tree.with_formula g gs) p h = (p, h)

equivalence_within : (n : ℕ) (f : Tree.Formula) (fs : Tree.Formulas) → FormulaWithin n f → FormulasWithin n fs → FormulaWithin n (chain Tree.equivalence f fs)
equivalence_within n f Tree.no_formulas p h = p
equivalence_within n f (Tree.with_formula g gs) p h = (p, h)

-- the values of a production, where those of its parts are within, and so is its token
produced : {bytes : List ℕ} {limit : ℕ} {x : Symbol} {k : Kind} {body : List Symbol} {f : Effect} (n : ℕ) (t : Token) (vs : List Value) → t.start ≤ n → ValuesWithin n vs → Production bytes limit x k body f → ValuesWithin n (f t vs)
produced n t vs s h (a_sign q) = h
produced n t vs s h a_name = (of_name _ s, h)
produced n t vs s h a_type = (of_declaration _ (first n vs h).name, rest n vs h)
produced n t vs s h an_ordered_type = (of_declaration _ (first n vs h).name, rest n vs h)
produced n t vs s h a_relation = (of_declaration _ ((first n vs h).name, (second n vs h).binders), rest2 n vs h)
produced n t vs s h an_individual = (of_declaration _ ((first n vs h).name, (second n vs h).name), rest2 n vs h)
produced n t vs s h an_axiom = (of_declaration _ ((second n vs h).formula, s), rest2 n vs h)
produced n t vs s h an_init = (of_declaration _ (first n vs h).statements, rest n vs h)
produced n t vs s h an_action = h
produced n t vs s h an_export = h
produced n t vs s h an_exported_action = h
produced n t vs s h an_exported_name = (of_declaration _ s, h)
produced n t vs s h the_action = (of_declaration _ (s, (first n vs h).binders, (second n vs h).statements), rest2 n vs h)
produced n t vs s h an_invariant = (of_declaration _ ((first n vs h).mark, (second n vs h).formula, s), rest2 n vs h)
produced n t vs s h a_conjecture = (of_declaration _ ((first n vs h).mark, (second n vs h).formula, s), rest2 n vs h)
produced n t vs s h a_label = (of_mark _ (first n vs h).name, rest n vs h)
produced n t vs s h a_small_label = (of_name _ s, h)
produced n t vs s h a_capital_label = (of_name _ s, h)
produced n t vs s h a_number_label = (of_name _ s, h)
produced n t vs s h some_binders = h
produced n t vs s h further_binders = (of_binders _ ((first n vs h).binder, (second n vs h).binders), rest2 n vs h)
produced n t vs s h a_named_argument = (of_binder _ (s, (first n vs h).mark), rest n vs h)
produced n t vs s h a_variable_argument = (of_binder _ (s, (first n vs h).mark), rest n vs h)
produced n t vs s h a_named_parameter = (of_binder _ (s, (first n vs h).mark), rest n vs h)
produced n t vs s h a_bound_variable = (of_binder _ (s, (first n vs h).mark), rest n vs h)
produced n t vs s h a_mark = (of_mark _ (first n vs h).name, rest n vs h)
produced n t vs s h (a_block q) = h
produced n t vs s h a_requirement = (of_statements _ ((first n vs h).formula, (second n vs h).statements), rest2 n vs h)
produced n t vs s h an_assumption = (of_statements _ ((first n vs h).formula, (second n vs h).statements), rest2 n vs h)
produced n t vs s h an_assignment = (of_statements _ ((s, (first n vs h).terms, (second n vs h).formula), (third n vs h).statements), rest3 n vs h)
produced n t vs s h (a_conditional q) = (of_statements _ ((first n vs h).statement, (second n vs h).statements), rest2 n vs h)
produced n t vs s h (some_locals q) = (of_statements _ (((first n vs h).binders, (second n vs h).statements), (third n vs h).statements), rest3 n vs h)
produced n t vs s h a_semicolon = h
produced n t vs s h a_free_semicolon = h
produced n t vs s h (an_alternative q) = h
produced n t vs s h (a_further_condition q) = (of_statements _ ((first n vs h).statement, tt), rest n vs h)
produced n t vs s h some_targets = h
produced n t vs s h an_equivalent = (of_formulas _ ((first n vs h).formula, (second n vs h).formulas), rest2 n vs h)
produced n t vs s h (a_consequence q) = (of_consequence _ (first n vs h).formula, rest n vs h)
produced n t vs s h a_disjunct = (of_formulas _ ((first n vs h).formula, (second n vs h).formulas), rest2 n vs h)
produced n t vs s h a_conjunct = (of_formulas _ ((first n vs h).formula, (second n vs h).formulas), rest2 n vs h)
produced n t vs s h (a_negation q) = (of_formula _ (first n vs h).formula, rest n vs h)
produced n t vs s h a_truth = (of_formula _ tt, h)
produced n t vs s h a_falsehood = (of_formula _ tt, h)
produced n t vs s h (a_bracket q) = h
produced n t vs s h (a_universal q) = (of_formula _ ((first n vs h).binders, (second n vs h).formula, s), rest2 n vs h)
produced n t vs s h (an_existential q) = (of_formula _ ((first n vs h).binders, (second n vs h).formula, s), rest2 n vs h)
produced n t vs s h an_atom = (of_formula _ (atom_within n _ _ s (first n vs h).rest), rest n vs h)
produced n t vs s h a_comparison = (of_formula _ ((s, (first n vs h).mark), (third n vs h).term), rest3 n vs h)
produced n t vs s h some_terms = (of_rest _ (first n vs h).terms, rest n vs h)
produced n t vs s h same_as = (of_rest _ (first n vs h).term, rest n vs h)
produced n t vs s h other_than = (of_rest _ (first n vs h).term, rest n vs h)
produced n t vs s h less_than = (of_rest _ (first n vs h).term, rest n vs h)
produced n t vs s h at_most = (of_rest _ (first n vs h).term, rest n vs h)
produced n t vs s h an_equal_sign = (of_operator _, h)
produced n t vs s h an_unequal_sign = (of_operator _, h)
produced n t vs s h a_less_sign = (of_operator _, h)
produced n t vs s h an_at_most_sign = (of_operator _, h)
produced n t vs s h a_symbol = (of_term _ s, h)
produced n t vs s h a_term_variable = (of_term _ (s, (first n vs h).mark), rest n vs h)
produced n t vs s h further_terms = (of_terms _ ((first n vs h).term, (second n vs h).terms), rest2 n vs h)

rewritten : {x : Symbol} {ahead : Lookahead} {body : List Symbol} {g : List Value → List Value} (n : ℕ) (vs : List Value) → ValuesWithin n vs → Rewriting x ahead body g → ValuesWithin n (g vs)
rewritten n vs h no_declarations = (of_declarations [] tt, h)
rewritten n vs h further_declarations = (of_declarations _ ((first n vs h).declaration, (second n vs h).declarations), rest2 n vs h)
rewritten n vs h no_label = (of_mark None tt, h)
rewritten n vs h no_binders = (of_binders [] tt, h)
rewritten n vs h some_of_class = (of_binders _ ((first n vs h).binder, (second n vs h).binders), rest2 n vs h)
rewritten n vs h last_binder = (of_binders [] tt, h)
rewritten n vs h no_mark = (of_mark None tt, h)
rewritten n vs h no_statement = (of_statements _ tt, h)
rewritten n vs h last_statement = (of_statements _ tt, h)
rewritten n vs h no_semicolon = h
rewritten n vs h the_condition = (of_statement _ ((first n vs h).formula, (second n vs h).statements, (third n vs h).statements), rest3 n vs h)
rewritten n vs h no_alternative = (of_statements _ tt, h)
rewritten n vs h a_last_alternative = h
rewritten n vs h no_targets = (of_terms [] tt, h)
rewritten n vs h a_right_side = h
rewritten n vs h a_formula = (of_formula _ (equivalence_within n _ _ (first n vs h).formula (second n vs h).formulas), rest2 n vs h)
rewritten n vs h last_equivalent = (of_formulas _ tt, h)
rewritten n vs h an_implication = (of_formula _ (implies_within n (the_formula (part1 vs)) (the_consequence (part1 (after1 vs))) (first n vs h).formula (second n vs h).consequence), rest2 n vs h)
rewritten n vs h no_consequence = (of_consequence None tt, h)
rewritten n vs h a_disjunction = (of_formula _ (disjunction_within n _ _ (first n vs h).formula (second n vs h).formulas), rest2 n vs h)
rewritten n vs h last_disjunct = (of_formulas _ tt, h)
rewritten n vs h a_conjunction = (of_formula _ (conjunction_within n _ _ (first n vs h).formula (second n vs h).formulas), rest2 n vs h)
rewritten n vs h last_conjunct = (of_formulas _ tt, h)
rewritten n vs h a_bare_atom = (of_rest bare tt, h)
rewritten n vs h the_terms_of = (of_terms _ ((first n vs h).term, (second n vs h).terms), rest2 n vs h)
rewritten n vs h last_term = (of_terms [] tt, h)

abbrev BeginWithin : ℕ → List Token → Type 0
BeginWithin n [] = Unit {0}
BeginWithin n (t ∷ ts) = (t.start ≤ n) × BeginWithin n ts

placed_tail : (bytes : List ℕ) (t : Token) (ts : List Token) → All (IsPlaced bytes) (t ∷ ts) → All (IsPlaced bytes) ts
placed_tail bytes t ts h = λ k d lt. h (suc k) d (omega arith)

pub begin_within : (bytes : List ℕ) (ts : List Token) → All (IsPlaced bytes) ts → BeginWithin (length bytes) ts
begin_within bytes [] h = tt
begin_within bytes (t ∷ ts) h =
    let p = h 0 t (omega arith) in
    let some = p.some in
    let end = p.within in
    let begin : t.start ≤ length bytes = omega arith in
    (begin, begin_within bytes ts (placed_tail bytes t ts h))

derived : (bytes : List ℕ) (limit : ℕ) (n : ℕ) {stack : List Symbol} {ts : List Token} {vs : List Value} → BeginWithin n ts → Derives (setting bytes limit whole) stack ts vs → ValuesWithin n vs
derived bytes limit n {stack = []} b (stop m) = let P : List Value → Type 0 = λ vs. ValuesWithin n vs in subst P (sym m) tt
derived bytes limit n {stack = x ∷ stack} b (stop m) = absurd m
derived bytes limit n b (take {t} {vs} p d) = produced n t vs b.0 (derived bytes limit n b.1 d) p
derived bytes limit n b (skip {vs} r see d) = rewritten n vs (derived bytes limit n b d) r

-- the declarations of a file
pub declared_within : (bytes : List ℕ) (limit : ℕ) {stack : List Symbol} {ts : List Token} (ds : List Tree.Declaration) → All (IsPlaced bytes) ts → Derives (setting bytes limit whole) stack ts (v_declarations ds ∷ []) → DeclarationsWithin (length bytes) ds
declared_within bytes limit ds placed d = (derived bytes limit (length bytes) (begin_within bytes _ placed) d).0.declarations
