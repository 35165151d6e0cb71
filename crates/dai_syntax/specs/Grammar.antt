-- The grammar: its productions, and derivations.
--
-- A symbol is replaced by the symbols that it consists of, from the left. Where a production begins with a
-- token, it is chosen by that token. The others are chosen by what isn't next: an optional part is absent, and a
-- chain ends, where its next token doesn't begin more of it. So a quantifier reaches as far as it can.
use Rattle.std.specs.Prelude.{ℕ, ◌≡◌, ◌+◌, ◌<◌, Bool, true, false, List, [], ◌∷◌, ◌++◌, None}
use Rattle.dai_lex.specs.declared.token.Kind.{Kind}
use Rattle.dai_lex.specs.declared.token.Kind.TheVariants as K
use Rattle.dai_lex.specs.declared.token.Token.{Token}
use Rattle.dai_syntax.specs.declared.tree.Op.TheVariants as O
use Rattle.dai_syntax.specs.Tree as Tree
use Rattle.dai_syntax.specs.declared.binders.Class.{Class}
use Rattle.dai_syntax.specs.declared.binders.Class.TheVariants.{Argument, Parameter, Variable}
use Rattle.dai_syntax.specs.Symbols.{Symbol, sign, name, declarations, declaration, exported, action_parts, label, label_word}
use Rattle.dai_syntax.specs.Symbols.{bracketed, binders, binder, more_binders, type_mark, targets, right_side}
use Rattle.dai_syntax.specs.Symbols.{block, statements, after_statement, after_block, condition, otherwise, alternative}
use Rattle.dai_syntax.specs.Symbols.{formula, more_equivalents, implication, consequence, disjunction, more_disjuncts}
use Rattle.dai_syntax.specs.Symbols.{conjunction, more_conjuncts, operand, atom_rest, comparison, terms, term, more_terms}
use Rattle.dai_syntax.specs.Symbols.{Value, v_mark, v_binders, v_terms, v_rest, bare, v_formulas, v_consequence, v_statements, v_declarations}
use Rattle.dai_syntax.specs.Values.{Effect, passed, named, as_mark, as_type, as_relation, as_individual, as_axiom, as_init}
use Rattle.dai_syntax.specs.Values.{as_export, as_action, as_invariant, as_declarations, as_binder, as_binders, as_requirement}
use Rattle.dai_syntax.specs.Values.{as_assignment, as_statements, as_locals, as_conditional, as_one_statement, as_chain, as_formulas}
use Rattle.dai_syntax.specs.Values.{as_implication, as_consequence, as_negation, as_truth, as_quantified, as_atom, as_comparison}
use Rattle.dai_syntax.specs.Values.{as_applied, as_compared, as_operator, as_symbol, as_variable, as_terms}

-- Productions that begin with a token: the symbol, the kind of the token, what follows it, and the value. What
-- nests deeper stands within the limit.
pub data Production (bytes : List ℕ) (limit : ℕ) : Symbol → Kind → List Symbol → Effect → Type 0 where
  a_sign : {k next : Kind} → next ≡ k → Production bytes limit (sign k) next [] passed
  a_name : Production bytes limit name K.Lower [] (named bytes)
  -- "type" Lower | "ordered" "type" Lower
  a_type : Production bytes limit declaration K.WordType (name ∷ []) (as_type false)
  an_ordered_type : Production bytes limit declaration K.WordOrdered (sign K.WordType ∷ name ∷ []) (as_type true)
  -- "relation" Lower [ "(" binder { "," binder } ")" ]
  a_relation : Production bytes limit declaration K.WordRelation (name ∷ bracketed Argument ∷ []) as_relation
  -- "individual" Lower ":" Lower
  an_individual : Production bytes limit declaration K.WordIndividual (name ∷ sign K.Colon ∷ name ∷ []) as_individual
  -- "axiom" [ label ] formula
  an_axiom : Production bytes limit declaration K.WordAxiom (label ∷ formula 0 ∷ []) as_axiom
  -- "after" "init" block
  an_init : Production bytes limit declaration K.WordAfter (sign K.WordInit ∷ block 0 ∷ []) as_init
  -- [ "export" ] "action" Lower [ "(" param { "," param } ")" ] "=" block | "export" Lower
  an_action : Production bytes limit declaration K.WordAction (action_parts false ∷ []) passed
  an_export : Production bytes limit declaration K.WordExport (exported ∷ []) passed
  an_exported_action : Production bytes limit exported K.WordAction (action_parts true ∷ []) passed
  an_exported_name : Production bytes limit exported K.Lower [] (as_export bytes)
  the_action : {is_exported : Bool}
      → Production bytes limit (action_parts is_exported) K.Lower (bracketed Parameter ∷ sign K.Equal ∷ block 0 ∷ []) (as_action bytes is_exported)
  -- ( "invariant" | "conjecture" ) [ label ] formula
  an_invariant : Production bytes limit declaration K.WordInvariant (label ∷ formula 0 ∷ []) as_invariant
  a_conjecture : Production bytes limit declaration K.WordConjecture (label ∷ formula 0 ∷ []) as_invariant
  -- "[" ( Lower | Upper | Digits ) "]"
  a_label : Production bytes limit label K.OpenSquare (label_word ∷ sign K.CloseSquare ∷ []) as_mark
  a_small_label : Production bytes limit label_word K.Lower [] (named bytes)
  a_capital_label : Production bytes limit label_word K.Upper [] (named bytes)
  a_number_label : Production bytes limit label_word K.Digits [] (named bytes)
  -- binder { "," binder }, where a binder is a name or variable with ":" and its type
  some_binders : {class : Class}
      → Production bytes limit (bracketed class) K.OpenRound (binders class ∷ sign K.CloseRound ∷ []) passed
  further_binders : {class : Class}
      → Production bytes limit (more_binders class) K.Comma (binder class ∷ more_binders class ∷ []) (λ t. as_binders)
  a_named_argument : Production bytes limit (binder Argument) K.Lower (type_mark Argument ∷ []) (as_binder bytes)
  a_variable_argument : Production bytes limit (binder Argument) K.Upper (type_mark Argument ∷ []) (as_binder bytes)
  a_named_parameter : Production bytes limit (binder Parameter) K.Lower (type_mark Parameter ∷ []) (as_binder bytes)
  a_bound_variable : Production bytes limit (binder Variable) K.Upper (type_mark Variable ∷ []) (as_binder bytes)
  a_mark : {class : Class} → Production bytes limit (type_mark class) K.Colon (name ∷ []) as_mark
  -- "{" [ stat { [";"] stat } [ ";" ] ] "}"
  a_block : {depth : ℕ} → depth < limit
      → Production bytes limit (block depth) K.OpenCurly (statements (depth + 1) ∷ sign K.CloseCurly ∷ []) passed
  -- ( "require" | "assume" ) formula
  a_requirement : {depth : ℕ}
      → Production bytes limit (statements depth) K.WordRequire (formula depth ∷ after_statement depth ∷ []) as_requirement
  an_assumption : {depth : ℕ}
      → Production bytes limit (statements depth) K.WordAssume (formula depth ∷ after_statement depth ∷ []) as_requirement
  -- Lower [ "(" term { "," term } ")" ] ":=" formula
  an_assignment : {depth : ℕ}
      → Production bytes limit (statements depth) K.Lower (targets ∷ sign K.Assign ∷ right_side depth ∷ after_statement depth ∷ []) (as_assignment bytes)
  -- "if" formula block [ "else" ( block | cond ) ]
  a_conditional : {depth : ℕ} → depth < limit
      → Production bytes limit (statements depth) K.WordIf (condition depth ∷ after_block depth ∷ []) as_statements
  -- "local" param { "," param } block
  some_locals : {depth : ℕ} → depth < limit
      → Production bytes limit (statements depth) K.WordLocal (binders Parameter ∷ block depth ∷ after_block depth ∷ []) as_locals
  a_semicolon : {depth : ℕ} → Production bytes limit (after_statement depth) K.Semicolon (statements depth ∷ []) passed
  a_free_semicolon : {depth : ℕ} → Production bytes limit (after_block depth) K.Semicolon (statements depth ∷ []) passed
  an_alternative : {depth : ℕ} → depth + 1 < limit
      → Production bytes limit (otherwise depth) K.WordElse (alternative (depth + 1) ∷ []) passed
  a_further_condition : {depth : ℕ} → depth < limit
      → Production bytes limit (alternative depth) K.WordIf (condition depth ∷ []) as_one_statement
  some_targets : Production bytes limit targets K.OpenRound (terms ∷ sign K.CloseRound ∷ []) passed
  -- formula = imp { "<->" imp }, imp = or [ "->" imp ], or = and { "|" and }, and = unary { "&" unary }
  an_equivalent : {depth : ℕ}
      → Production bytes limit (more_equivalents depth) K.DoubleArrow (implication depth ∷ more_equivalents depth ∷ []) as_formulas
  a_consequence : {depth : ℕ} → depth < limit
      → Production bytes limit (consequence depth) K.Arrow (implication (depth + 1) ∷ []) as_consequence
  a_disjunct : {depth : ℕ}
      → Production bytes limit (more_disjuncts depth) K.Bar (conjunction depth ∷ more_disjuncts depth ∷ []) as_formulas
  a_conjunct : {depth : ℕ}
      → Production bytes limit (more_conjuncts depth) K.Ampersand (operand depth ∷ more_conjuncts depth ∷ []) as_formulas
  -- unary = "~" unary | quant | "true" | "false" | "(" formula ")" | atom
  a_negation : {depth : ℕ} → depth < limit
      → Production bytes limit (operand depth) K.Tilde (operand (depth + 1) ∷ []) as_negation
  a_truth : {depth : ℕ} → Production bytes limit (operand depth) K.WordTrue [] (as_truth true)
  a_falsehood : {depth : ℕ} → Production bytes limit (operand depth) K.WordFalse [] (as_truth false)
  a_bracket : {depth : ℕ} → depth < limit
      → Production bytes limit (operand depth) K.OpenRound (formula (depth + 1) ∷ sign K.CloseRound ∷ []) passed
  -- quant = ( "forall" | "exists" ) qvar { "," qvar } "." formula
  a_universal : {depth : ℕ} → depth < limit
      → Production bytes limit (operand depth) K.WordForall (binders Variable ∷ sign K.Dot ∷ formula (depth + 1) ∷ []) (as_quantified true)
  an_existential : {depth : ℕ} → depth < limit
      → Production bytes limit (operand depth) K.WordExists (binders Variable ∷ sign K.Dot ∷ formula (depth + 1) ∷ []) (as_quantified false)
  -- atom = Lower "(" term { "," term } ")" | Lower [ cmp term ] | Upper [ ":" Lower ] cmp term
  an_atom : {depth : ℕ} → Production bytes limit (operand depth) K.Lower (atom_rest ∷ []) (as_atom bytes)
  a_comparison : {depth : ℕ}
      → Production bytes limit (operand depth) K.Upper (type_mark Variable ∷ comparison ∷ term ∷ []) (as_comparison bytes)
  some_terms : Production bytes limit atom_rest K.OpenRound (terms ∷ sign K.CloseRound ∷ []) as_applied
  -- cmp = "=" | "~=" | "<" | "<="
  same_as : Production bytes limit atom_rest K.Equal (term ∷ []) (as_compared O.Equal)
  other_than : Production bytes limit atom_rest K.NotEqual (term ∷ []) (as_compared O.Unequal)
  less_than : Production bytes limit atom_rest K.Less (term ∷ []) (as_compared O.Less)
  at_most : Production bytes limit atom_rest K.LessOrEqual (term ∷ []) (as_compared O.LessEqual)
  an_equal_sign : Production bytes limit comparison K.Equal [] (as_operator O.Equal)
  an_unequal_sign : Production bytes limit comparison K.NotEqual [] (as_operator O.Unequal)
  a_less_sign : Production bytes limit comparison K.Less [] (as_operator O.Less)
  an_at_most_sign : Production bytes limit comparison K.LessOrEqual [] (as_operator O.LessEqual)
  -- term = Lower | Upper [ ":" Lower ]
  a_symbol : Production bytes limit term K.Lower [] (as_symbol bytes)
  a_term_variable : Production bytes limit term K.Upper (type_mark Variable ∷ []) (as_variable bytes)
  further_terms : Production bytes limit more_terms K.Comma (term ∷ more_terms ∷ []) (λ t. as_terms)

-- What has to be next, or not to be: no token; a token of none of these kinds; no such token, if any.
pub data Lookahead : Type 0 where
  nothing : Lookahead
  another : List Kind → Lookahead
  unless : List Kind → Lookahead

abbrev pub IsNoneOf : Kind → List Kind → Type 0
IsNoneOf kind [] = Unit {0}
IsNoneOf kind (k ∷ ks) = (kind ≡ k → ⊥) × IsNoneOf kind ks

abbrev pub Sees : Lookahead → List Token → Type 0
Sees nothing [] = Unit {0}
Sees nothing (t ∷ ts) = ⊥
Sees (another kinds) [] = ⊥
Sees (another kinds) (t ∷ ts) = IsNoneOf t.kind kinds
Sees (unless kinds) [] = Unit {0}
Sees (unless kinds) (t ∷ ts) = IsNoneOf t.kind kinds

-- Productions that begin with no token: the symbol, what has to be next, the symbols that it consists of, and the
-- value.
pub data Rewriting : Symbol → Lookahead → List Symbol → (List Value → List Value) → Type 0 where
  no_declarations : Rewriting declarations nothing [] (λ vs. v_declarations [] ∷ vs)
  further_declarations : Rewriting declarations (another (K.LeftOut ∷ [])) (declaration ∷ declarations ∷ []) as_declarations
  no_label : Rewriting label (unless (K.OpenSquare ∷ [])) [] (λ vs. v_mark None ∷ vs)
  no_binders : {class : Class} → Rewriting (bracketed class) (unless (K.OpenRound ∷ [])) [] (λ vs. v_binders [] ∷ vs)
  some_of_class : {class : Class}
      → Rewriting (binders class) (unless []) (binder class ∷ more_binders class ∷ []) as_binders
  last_binder : {class : Class} → Rewriting (more_binders class) (unless (K.Comma ∷ [])) [] (λ vs. v_binders [] ∷ vs)
  no_mark : Rewriting (type_mark Variable) (unless (K.Colon ∷ [])) [] (λ vs. v_mark None ∷ vs)
  no_statement : {depth : ℕ}
      → Rewriting (statements depth) (unless (K.WordRequire ∷ K.WordAssume ∷ K.Lower ∷ K.WordIf ∷ K.WordLocal ∷ K.LeftOut ∷ [])) [] (λ vs. v_statements Tree.no_statements ∷ vs)
  last_statement : {depth : ℕ}
      → Rewriting (after_statement depth) (unless (K.Semicolon ∷ [])) [] (λ vs. v_statements Tree.no_statements ∷ vs)
  no_semicolon : {depth : ℕ}
      → Rewriting (after_block depth) (unless (K.Semicolon ∷ [])) (statements depth ∷ []) (λ vs. vs)
  the_condition : {depth : ℕ}
      → Rewriting (condition depth) (unless []) (formula depth ∷ block depth ∷ otherwise depth ∷ []) as_conditional
  no_alternative : {depth : ℕ}
      → Rewriting (otherwise depth) (unless (K.WordElse ∷ [])) [] (λ vs. v_statements Tree.no_statements ∷ vs)
  a_last_alternative : {depth : ℕ}
      → Rewriting (alternative depth) (unless (K.WordIf ∷ [])) (block depth ∷ []) (λ vs. vs)
  no_targets : Rewriting targets (unless (K.OpenRound ∷ [])) [] (λ vs. v_terms [] ∷ vs)
  a_right_side : {depth : ℕ} → Rewriting (right_side depth) (unless (K.Asterisk ∷ [])) (formula depth ∷ []) (λ vs. vs)
  a_formula : {depth : ℕ}
      → Rewriting (formula depth) (unless []) (implication depth ∷ more_equivalents depth ∷ []) (as_chain Tree.equivalence)
  last_equivalent : {depth : ℕ}
      → Rewriting (more_equivalents depth) (unless (K.DoubleArrow ∷ [])) [] (λ vs. v_formulas Tree.no_formulas ∷ vs)
  an_implication : {depth : ℕ}
      → Rewriting (implication depth) (unless []) (disjunction depth ∷ consequence depth ∷ []) as_implication
  no_consequence : {depth : ℕ}
      → Rewriting (consequence depth) (unless (K.Arrow ∷ [])) [] (λ vs. v_consequence None ∷ vs)
  a_disjunction : {depth : ℕ}
      → Rewriting (disjunction depth) (unless []) (conjunction depth ∷ more_disjuncts depth ∷ []) (as_chain Tree.disjunction)
  last_disjunct : {depth : ℕ}
      → Rewriting (more_disjuncts depth) (unless (K.Bar ∷ [])) [] (λ vs. v_formulas Tree.no_formulas ∷ vs)
  a_conjunction : {depth : ℕ}
      → Rewriting (conjunction depth) (unless []) (operand depth ∷ more_conjuncts depth ∷ []) (as_chain Tree.conjunction)
  last_conjunct : {depth : ℕ}
      → Rewriting (more_conjuncts depth) (unless (K.Ampersand ∷ [])) [] (λ vs. v_formulas Tree.no_formulas ∷ vs)
  a_bare_atom : Rewriting atom_rest (unless (K.OpenRound ∷ K.Equal ∷ K.NotEqual ∷ K.Less ∷ K.LessOrEqual ∷ [])) [] (λ vs. v_rest bare ∷ vs)
  the_terms_of : Rewriting terms (unless []) (term ∷ more_terms ∷ []) as_terms
  last_term : Rewriting more_terms (unless (K.Comma ∷ [])) [] (λ vs. v_terms [] ∷ vs)

-- Where a derivation may stop, with no token left: at its end; anywhere; where a token of this kind begins a part
-- of Ivy that the profile leaves out.
pub data End : Type 0 where
  whole : End
  anywhere : End
  left_out : Kind → End

-- a left-out word where a declaration or a statement may begin, and `*` where a right side begins
pub data IsLeftOut : Kind → List Symbol → Type 0 where
  left_out_declaration : {stack : List Symbol} → IsLeftOut K.LeftOut (declarations ∷ stack)
  left_out_statement : {depth : ℕ} {stack : List Symbol} → IsLeftOut K.LeftOut (statements depth ∷ stack)
  left_out_right_side : {depth : ℕ} {stack : List Symbol} → IsLeftOut K.Asterisk (right_side depth ∷ stack)

abbrev pub MayStop : End → List Symbol → List Value → Type 0
MayStop whole [] vs = vs ≡ []
MayStop whole (x ∷ stack) vs = ⊥
MayStop anywhere stack vs = Unit {0}
MayStop (left_out kind) stack vs = IsLeftOut kind stack

-- The bytes, the limit of nesting, and where a derivation may stop.
pub record Setting : Type 0 where
  pub bytes : List ℕ
  pub limit : ℕ
  pub end : End

-- from these symbols the tokens are derived, and these are the values of the symbols
pub data Derives (s : Setting) : List Symbol → List Token → List Value → Type 0 where
  stop : {stack : List Symbol} {vs : List Value} → MayStop s.end stack vs → Derives s stack [] vs
  take : {x : Symbol} {body stack : List Symbol} {effect : Effect} {t : Token} {ts : List Token} {vs : List Value}
      → Production s.bytes s.limit x t.kind body effect
      → Derives s (body ++ stack) ts vs
      → Derives s (x ∷ stack) (t ∷ ts) (effect t vs)
  skip : {x : Symbol} {ahead : Lookahead} {body stack : List Symbol} {effect : List Value → List Value}
      {ts : List Token} {vs : List Value}
      → Rewriting x ahead body effect → Sees ahead ts
      → Derives s (body ++ stack) ts vs
      → Derives s (x ∷ stack) ts (effect vs)
