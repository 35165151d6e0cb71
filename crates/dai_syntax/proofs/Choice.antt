-- At most one production fits: those that begin with a token are told apart by it, and the others by what isn't next.
use Rattle.std.proofs.Common.{ℕ, ◌≡◌, List, [], ◌∷◌, refl}
use Rattle.dai_lex.specs.declared.token.Kind.{Kind}
use Rattle.dai_lex.specs.declared.token.Token.{Token}
use Rattle.dai_syntax.specs.Symbols.{Symbol, Value}
use Rattle.dai_syntax.specs.Values.{Effect}
use Rattle.dai_syntax.specs.Grammar.{Production, a_sign, a_name, a_type, an_ordered_type, a_relation, an_individual, an_axiom, an_init, an_action, an_export, an_exported_action, an_exported_name, the_action, an_invariant, a_conjecture, a_label, a_small_label, a_capital_label, a_number_label, some_binders, further_binders, a_named_argument, a_variable_argument, a_named_parameter, a_bound_variable, a_mark, a_block, a_requirement, an_assumption, an_assignment, a_conditional, some_locals, a_semicolon, a_free_semicolon, an_alternative, a_further_condition, some_targets, an_equivalent, a_consequence, a_disjunct, a_conjunct, a_negation, a_truth, a_falsehood, a_bracket, a_universal, an_existential, an_atom, a_comparison, some_terms, same_as, other_than, less_than, at_most, an_equal_sign, an_unequal_sign, a_less_sign, an_at_most_sign, a_symbol, a_term_variable, further_terms, Lookahead, nothing, another, unless, IsNoneOf, Sees, Rewriting, no_declarations, further_declarations, no_label, no_binders, some_of_class, last_binder, no_mark, no_statement, last_statement, no_semicolon, the_condition, no_alternative, a_last_alternative, no_targets, a_right_side, a_formula, last_equivalent, an_implication, no_consequence, a_disjunction, last_disjunct, a_conjunction, last_conjunct, a_bare_atom, the_terms_of, last_term}

-- the parts of a production are those of the other
pub record AreSame {A : Type 0} (body other : List Symbol) (effect effect' : A) : Type 0 where
  pub bodies : body ≡ other
  pub effects : effect ≡ effect'

pub only_production : {bytes : List ℕ} {limit : ℕ} {x : Symbol} {k : Kind} {body other : List Symbol} {f g : Effect} → Production bytes limit x k body f → Production bytes limit x k other g → AreSame body other f g
only_production (a_sign p) (a_sign q) = record { bodies = refl; effects = refl }
only_production a_name a_name = record { bodies = refl; effects = refl }
only_production a_type a_type = record { bodies = refl; effects = refl }
only_production an_ordered_type an_ordered_type = record { bodies = refl; effects = refl }
only_production a_relation a_relation = record { bodies = refl; effects = refl }
only_production an_individual an_individual = record { bodies = refl; effects = refl }
only_production an_axiom an_axiom = record { bodies = refl; effects = refl }
only_production an_init an_init = record { bodies = refl; effects = refl }
only_production an_action an_action = record { bodies = refl; effects = refl }
only_production an_export an_export = record { bodies = refl; effects = refl }
only_production an_exported_action an_exported_action = record { bodies = refl; effects = refl }
only_production an_exported_name an_exported_name = record { bodies = refl; effects = refl }
only_production the_action the_action = record { bodies = refl; effects = refl }
only_production an_invariant an_invariant = record { bodies = refl; effects = refl }
only_production a_conjecture a_conjecture = record { bodies = refl; effects = refl }
only_production a_label a_label = record { bodies = refl; effects = refl }
only_production a_small_label a_small_label = record { bodies = refl; effects = refl }
only_production a_capital_label a_capital_label = record { bodies = refl; effects = refl }
only_production a_number_label a_number_label = record { bodies = refl; effects = refl }
only_production some_binders some_binders = record { bodies = refl; effects = refl }
only_production further_binders further_binders = record { bodies = refl; effects = refl }
only_production a_named_argument a_named_argument = record { bodies = refl; effects = refl }
only_production a_variable_argument a_variable_argument = record { bodies = refl; effects = refl }
only_production a_named_parameter a_named_parameter = record { bodies = refl; effects = refl }
only_production a_bound_variable a_bound_variable = record { bodies = refl; effects = refl }
only_production a_mark a_mark = record { bodies = refl; effects = refl }
only_production (a_block p) (a_block q) = record { bodies = refl; effects = refl }
only_production a_requirement a_requirement = record { bodies = refl; effects = refl }
only_production an_assumption an_assumption = record { bodies = refl; effects = refl }
only_production an_assignment an_assignment = record { bodies = refl; effects = refl }
only_production (a_conditional p) (a_conditional q) = record { bodies = refl; effects = refl }
only_production (some_locals p) (some_locals q) = record { bodies = refl; effects = refl }
only_production a_semicolon a_semicolon = record { bodies = refl; effects = refl }
only_production a_free_semicolon a_free_semicolon = record { bodies = refl; effects = refl }
only_production (an_alternative p) (an_alternative q) = record { bodies = refl; effects = refl }
only_production (a_further_condition p) (a_further_condition q) = record { bodies = refl; effects = refl }
only_production some_targets some_targets = record { bodies = refl; effects = refl }
only_production an_equivalent an_equivalent = record { bodies = refl; effects = refl }
only_production (a_consequence p) (a_consequence q) = record { bodies = refl; effects = refl }
only_production a_disjunct a_disjunct = record { bodies = refl; effects = refl }
only_production a_conjunct a_conjunct = record { bodies = refl; effects = refl }
only_production (a_negation p) (a_negation q) = record { bodies = refl; effects = refl }
only_production a_truth a_truth = record { bodies = refl; effects = refl }
only_production a_falsehood a_falsehood = record { bodies = refl; effects = refl }
only_production (a_bracket p) (a_bracket q) = record { bodies = refl; effects = refl }
only_production (a_universal p) (a_universal q) = record { bodies = refl; effects = refl }
only_production (an_existential p) (an_existential q) = record { bodies = refl; effects = refl }
only_production an_atom an_atom = record { bodies = refl; effects = refl }
only_production a_comparison a_comparison = record { bodies = refl; effects = refl }
only_production some_terms some_terms = record { bodies = refl; effects = refl }
only_production same_as same_as = record { bodies = refl; effects = refl }
only_production other_than other_than = record { bodies = refl; effects = refl }
only_production less_than less_than = record { bodies = refl; effects = refl }
only_production at_most at_most = record { bodies = refl; effects = refl }
only_production an_equal_sign an_equal_sign = record { bodies = refl; effects = refl }
only_production an_unequal_sign an_unequal_sign = record { bodies = refl; effects = refl }
only_production a_less_sign a_less_sign = record { bodies = refl; effects = refl }
only_production an_at_most_sign an_at_most_sign = record { bodies = refl; effects = refl }
only_production a_symbol a_symbol = record { bodies = refl; effects = refl }
only_production a_term_variable a_term_variable = record { bodies = refl; effects = refl }
only_production further_terms further_terms = record { bodies = refl; effects = refl }

pub only_rewriting : {x : Symbol} {ahead other_ahead : Lookahead} {body other : List Symbol} {f g : List Value → List Value} (ts : List Token) → Rewriting x ahead body f → Sees ahead ts → Rewriting x other_ahead other g → Sees other_ahead ts → AreSame body other f g
only_rewriting ts no_declarations see no_declarations sees = record { bodies = refl; effects = refl }
only_rewriting ts further_declarations see further_declarations sees = record { bodies = refl; effects = refl }
only_rewriting ts no_label see no_label sees = record { bodies = refl; effects = refl }
only_rewriting ts no_binders see no_binders sees = record { bodies = refl; effects = refl }
only_rewriting ts some_of_class see some_of_class sees = record { bodies = refl; effects = refl }
only_rewriting ts last_binder see last_binder sees = record { bodies = refl; effects = refl }
only_rewriting ts no_mark see no_mark sees = record { bodies = refl; effects = refl }
only_rewriting ts no_statement see no_statement sees = record { bodies = refl; effects = refl }
only_rewriting ts last_statement see last_statement sees = record { bodies = refl; effects = refl }
only_rewriting ts no_semicolon see no_semicolon sees = record { bodies = refl; effects = refl }
only_rewriting ts the_condition see the_condition sees = record { bodies = refl; effects = refl }
only_rewriting ts no_alternative see no_alternative sees = record { bodies = refl; effects = refl }
only_rewriting ts a_last_alternative see a_last_alternative sees = record { bodies = refl; effects = refl }
only_rewriting ts no_targets see no_targets sees = record { bodies = refl; effects = refl }
only_rewriting ts a_right_side see a_right_side sees = record { bodies = refl; effects = refl }
only_rewriting ts a_formula see a_formula sees = record { bodies = refl; effects = refl }
only_rewriting ts last_equivalent see last_equivalent sees = record { bodies = refl; effects = refl }
only_rewriting ts an_implication see an_implication sees = record { bodies = refl; effects = refl }
only_rewriting ts no_consequence see no_consequence sees = record { bodies = refl; effects = refl }
only_rewriting ts a_disjunction see a_disjunction sees = record { bodies = refl; effects = refl }
only_rewriting ts last_disjunct see last_disjunct sees = record { bodies = refl; effects = refl }
only_rewriting ts a_conjunction see a_conjunction sees = record { bodies = refl; effects = refl }
only_rewriting ts last_conjunct see last_conjunct sees = record { bodies = refl; effects = refl }
only_rewriting ts a_bare_atom see a_bare_atom sees = record { bodies = refl; effects = refl }
only_rewriting ts the_terms_of see the_terms_of sees = record { bodies = refl; effects = refl }
only_rewriting ts last_term see last_term sees = record { bodies = refl; effects = refl }
only_rewriting [] no_declarations see further_declarations sees = absurd sees
only_rewriting (t ∷ ts) no_declarations see further_declarations sees = absurd see
only_rewriting [] further_declarations see no_declarations sees = absurd see
only_rewriting (t ∷ ts) further_declarations see no_declarations sees = absurd sees

-- the same of the kind of the next token
abbrev pub SeesKind : Lookahead → Kind → Type 0
SeesKind nothing k = ⊥
SeesKind (another kinds) k = IsNoneOf k kinds
SeesKind (unless kinds) k = IsNoneOf k kinds

SeesKind-next : (ahead : Lookahead) (t : Token) (ts : List Token) → Sees ahead (t ∷ ts) → SeesKind ahead t.kind
SeesKind-next nothing t ts h = h
SeesKind-next (another kinds) t ts h = h
SeesKind-next (unless kinds) t ts h = h

not_both_of : {bytes : List ℕ} {limit : ℕ} {x : Symbol} {k : Kind} {body other : List Symbol} {f : Effect} {ahead : Lookahead} {g : List Value → List Value} → Rewriting x ahead body g → SeesKind ahead k → Production bytes limit x k other f → ⊥
not_both_of no_declarations h p = elim p [ ]
not_both_of further_declarations h p = elim p [ ]
not_both_of no_label h a_label = h.0 refl
not_both_of no_binders h some_binders = h.0 refl
not_both_of some_of_class h p = elim p [ ]
not_both_of last_binder h further_binders = h.0 refl
not_both_of no_mark h a_mark = h.0 refl
not_both_of no_statement h a_requirement = h.0 refl
not_both_of no_statement h an_assumption = h.1.0 refl
not_both_of no_statement h an_assignment = h.1.1.0 refl
not_both_of no_statement h (a_conditional q) = h.1.1.1.0 refl
not_both_of no_statement h (some_locals q) = h.1.1.1.1.0 refl
not_both_of last_statement h a_semicolon = h.0 refl
not_both_of no_semicolon h a_free_semicolon = h.0 refl
not_both_of the_condition h p = elim p [ ]
not_both_of no_alternative h (an_alternative q) = h.0 refl
not_both_of a_last_alternative h (a_further_condition q) = h.0 refl
not_both_of no_targets h some_targets = h.0 refl
not_both_of a_right_side h p = elim p [ ]
not_both_of a_formula h p = elim p [ ]
not_both_of last_equivalent h an_equivalent = h.0 refl
not_both_of an_implication h p = elim p [ ]
not_both_of no_consequence h (a_consequence q) = h.0 refl
not_both_of a_disjunction h p = elim p [ ]
not_both_of last_disjunct h a_disjunct = h.0 refl
not_both_of a_conjunction h p = elim p [ ]
not_both_of last_conjunct h a_conjunct = h.0 refl
not_both_of a_bare_atom h some_terms = h.0 refl
not_both_of a_bare_atom h same_as = h.1.0 refl
not_both_of a_bare_atom h other_than = h.1.1.0 refl
not_both_of a_bare_atom h less_than = h.1.1.1.0 refl
not_both_of a_bare_atom h at_most = h.1.1.1.1.0 refl
not_both_of the_terms_of h p = elim p [ ]
not_both_of last_term h further_terms = h.0 refl

pub not_both : {bytes : List ℕ} {limit : ℕ} {x : Symbol} (t : Token) (ts : List Token) {body other : List Symbol} {f : Effect} {ahead : Lookahead} {g : List Value → List Value} → Rewriting x ahead body g → Sees ahead (t ∷ ts) → Production bytes limit x t.kind other f → ⊥
not_both t ts {ahead} r see p = not_both_of r (SeesKind-next ahead t ts see) p
