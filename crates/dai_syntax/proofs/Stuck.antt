-- Symbols that need a token of some kind, where no such token is next.
use Rattle.std.proofs.Common.{ℕ, ◌≡◌, List, [], ◌∷◌, Bool, refl, sym, subst, Some, None}
use Rattle.dai_lex.specs.declared.token.Kind.{Kind}
use Rattle.dai_lex.specs.declared.token.Kind.TheVariants as K
use Rattle.dai_lex.specs.declared.token.Token.{Token}
use Rattle.dai_syntax.specs.declared.binders.Class.TheVariants.{Argument, Parameter, Variable}
use Rattle.dai_syntax.specs.declared.error.SyntaxError.TheVariants.{Unexpected}
use Rattle.dai_syntax.specs.Symbols.{Symbol, sign, name, declaration, exported, action_parts, label_word, binder, type_mark, block, operand, comparison, term}
use Rattle.dai_syntax.specs.Values.{Effect}
use Rattle.dai_syntax.specs.Grammar.{Production, a_sign, a_name, a_type, an_ordered_type, a_relation, an_individual, an_axiom, an_init, an_action, an_export, an_exported_action, an_exported_name, the_action, an_invariant, a_conjecture, a_small_label, a_capital_label, a_number_label, a_named_argument, a_variable_argument, a_named_parameter, a_bound_variable, a_mark, a_block, a_negation, a_truth, a_falsehood, a_bracket, a_universal, an_existential, an_atom, a_comparison, an_equal_sign, an_unequal_sign, a_less_sign, an_at_most_sign, a_symbol, a_term_variable, unless, IsNoneOf, Sees, IsLeftOut}
use Rattle.dai_syntax.specs.Reading.{IsStuck, kind_ahead, place_ahead}
use Rattle.dai_syntax.proofs.Leading.{stuck_here}

-- none of these kinds is next
abbrev pub NoneAhead : List Token → List Kind → Type 0
NoneAhead tokens [] = Unit {0}
NoneAhead tokens (k ∷ ks) = (kind_ahead tokens ≡ Some k → ⊥) × NoneAhead tokens ks

none_of : (t : Token) (ts : List Token) (kinds : List Kind) → NoneAhead (t ∷ ts) kinds → IsNoneOf t.kind kinds
none_of t ts [] h = tt
none_of t ts (k ∷ ks) h = (λ e. h.0 (let n : Some t.kind ≡ Some k = cc in n), none_of t ts ks h.1)

pub sees_none : (tokens : List Token) (kinds : List Kind) → NoneAhead tokens kinds → Sees (unless kinds) tokens
sees_none [] kinds h = tt
sees_none (t ∷ ts) kinds h = none_of t ts kinds h

none_next : (tokens : List Token) (kinds : List Kind) (t : Token) (ts : List Token) → Sees (unless kinds) tokens → tokens ≡ t ∷ ts → IsNoneOf t.kind kinds
none_next tokens kinds t ts h e = let P : List Token → Type 0 = λ us. Sees (unless kinds) us in subst P e h

bars_sign : {bytes : List ℕ} {limit : ℕ} {k next : Kind} {body : List Symbol} {f : Effect} → Production bytes limit (sign k) next body f → IsNoneOf next (k ∷ []) → ⊥
bars_sign (a_sign e) h = h.0 e

none_left_out_sign : {kind k : Kind} {stack : List Symbol} → IsLeftOut kind (sign k ∷ stack) → ⊥
none_left_out_sign l = elim l [ ]

pub stuck_sign : (bytes : List ℕ) {k : Kind} (stack : List Symbol) (tokens : List Token) → (kind_ahead tokens ≡ Some k → ⊥) → IsStuck bytes (sign k ∷ stack) tokens (Unexpected (place_ahead bytes tokens))
stuck_sign bytes {k} stack tokens h = stuck_here tokens (λ ahead body g r. elim r [ ]) (λ t ts limit body f e p. bars_sign p (none_next tokens (k ∷ []) t ts (sees_none tokens (k ∷ []) (h, tt)) e)) (λ kind l. none_left_out_sign l)

bars_name : {bytes : List ℕ} {limit : ℕ} {k : Kind} {body : List Symbol} {f : Effect} → Production bytes limit name k body f → IsNoneOf k (K.Lower ∷ []) → ⊥
bars_name a_name h = h.0 refl

none_left_out_name : {kind : Kind} {stack : List Symbol} → IsLeftOut kind (name ∷ stack) → ⊥
none_left_out_name l = elim l [ ]

pub stuck_name : (bytes : List ℕ) (stack : List Symbol) (tokens : List Token) → Sees (unless (K.Lower ∷ [])) tokens → IsStuck bytes (name ∷ stack) tokens (Unexpected (place_ahead bytes tokens))
stuck_name bytes stack tokens h = stuck_here tokens (λ ahead body g r. elim r [ ]) (λ t ts limit body f e p. bars_name p (none_next tokens (K.Lower ∷ []) t ts h e)) (λ kind l. none_left_out_name l)

bars_declaration : {bytes : List ℕ} {limit : ℕ} {k : Kind} {body : List Symbol} {f : Effect} → Production bytes limit declaration k body f → IsNoneOf k (K.WordType ∷ K.WordOrdered ∷ K.WordRelation ∷ K.WordIndividual ∷ K.WordAxiom ∷ K.WordAfter ∷ K.WordAction ∷ K.WordExport ∷ K.WordInvariant ∷ K.WordConjecture ∷ []) → ⊥
bars_declaration a_type h = h.0 refl
bars_declaration an_ordered_type h = h.1.0 refl
bars_declaration a_relation h = h.1.1.0 refl
bars_declaration an_individual h = h.1.1.1.0 refl
bars_declaration an_axiom h = h.1.1.1.1.0 refl
bars_declaration an_init h = h.1.1.1.1.1.0 refl
bars_declaration an_action h = h.1.1.1.1.1.1.0 refl
bars_declaration an_export h = h.1.1.1.1.1.1.1.0 refl
bars_declaration an_invariant h = h.1.1.1.1.1.1.1.1.0 refl
bars_declaration a_conjecture h = h.1.1.1.1.1.1.1.1.1.0 refl

none_left_out_declaration : {kind : Kind} {stack : List Symbol} → IsLeftOut kind (declaration ∷ stack) → ⊥
none_left_out_declaration l = elim l [ ]

pub stuck_declaration : (bytes : List ℕ) (stack : List Symbol) (tokens : List Token) → Sees (unless (K.WordType ∷ K.WordOrdered ∷ K.WordRelation ∷ K.WordIndividual ∷ K.WordAxiom ∷ K.WordAfter ∷ K.WordAction ∷ K.WordExport ∷ K.WordInvariant ∷ K.WordConjecture ∷ [])) tokens → IsStuck bytes (declaration ∷ stack) tokens (Unexpected (place_ahead bytes tokens))
stuck_declaration bytes stack tokens h = stuck_here tokens (λ ahead body g r. elim r [ ]) (λ t ts limit body f e p. bars_declaration p (none_next tokens (K.WordType ∷ K.WordOrdered ∷ K.WordRelation ∷ K.WordIndividual ∷ K.WordAxiom ∷ K.WordAfter ∷ K.WordAction ∷ K.WordExport ∷ K.WordInvariant ∷ K.WordConjecture ∷ []) t ts h e)) (λ kind l. none_left_out_declaration l)

bars_exported : {bytes : List ℕ} {limit : ℕ} {k : Kind} {body : List Symbol} {f : Effect} → Production bytes limit exported k body f → IsNoneOf k (K.WordAction ∷ K.Lower ∷ []) → ⊥
bars_exported an_exported_action h = h.0 refl
bars_exported an_exported_name h = h.1.0 refl

none_left_out_exported : {kind : Kind} {stack : List Symbol} → IsLeftOut kind (exported ∷ stack) → ⊥
none_left_out_exported l = elim l [ ]

pub stuck_exported : (bytes : List ℕ) (stack : List Symbol) (tokens : List Token) → Sees (unless (K.WordAction ∷ K.Lower ∷ [])) tokens → IsStuck bytes (exported ∷ stack) tokens (Unexpected (place_ahead bytes tokens))
stuck_exported bytes stack tokens h = stuck_here tokens (λ ahead body g r. elim r [ ]) (λ t ts limit body f e p. bars_exported p (none_next tokens (K.WordAction ∷ K.Lower ∷ []) t ts h e)) (λ kind l. none_left_out_exported l)

bars_action_parts : {bytes : List ℕ} {limit : ℕ} {is_exported : Bool} {k : Kind} {body : List Symbol} {f : Effect} → Production bytes limit (action_parts is_exported) k body f → IsNoneOf k (K.Lower ∷ []) → ⊥
bars_action_parts the_action h = h.0 refl

none_left_out_action_parts : {kind : Kind} {is_exported : Bool} {stack : List Symbol} → IsLeftOut kind (action_parts is_exported ∷ stack) → ⊥
none_left_out_action_parts l = elim l [ ]

pub stuck_action_parts : (bytes : List ℕ) (is_exported : Bool) (stack : List Symbol) (tokens : List Token) → Sees (unless (K.Lower ∷ [])) tokens → IsStuck bytes (action_parts is_exported ∷ stack) tokens (Unexpected (place_ahead bytes tokens))
stuck_action_parts bytes is_exported stack tokens h = stuck_here tokens (λ ahead body g r. elim r [ ]) (λ t ts limit body f e p. bars_action_parts p (none_next tokens (K.Lower ∷ []) t ts h e)) (λ kind l. none_left_out_action_parts l)

bars_label_word : {bytes : List ℕ} {limit : ℕ} {k : Kind} {body : List Symbol} {f : Effect} → Production bytes limit label_word k body f → IsNoneOf k (K.Lower ∷ K.Upper ∷ K.Digits ∷ []) → ⊥
bars_label_word a_small_label h = h.0 refl
bars_label_word a_capital_label h = h.1.0 refl
bars_label_word a_number_label h = h.1.1.0 refl

none_left_out_label_word : {kind : Kind} {stack : List Symbol} → IsLeftOut kind (label_word ∷ stack) → ⊥
none_left_out_label_word l = elim l [ ]

pub stuck_label_word : (bytes : List ℕ) (stack : List Symbol) (tokens : List Token) → Sees (unless (K.Lower ∷ K.Upper ∷ K.Digits ∷ [])) tokens → IsStuck bytes (label_word ∷ stack) tokens (Unexpected (place_ahead bytes tokens))
stuck_label_word bytes stack tokens h = stuck_here tokens (λ ahead body g r. elim r [ ]) (λ t ts limit body f e p. bars_label_word p (none_next tokens (K.Lower ∷ K.Upper ∷ K.Digits ∷ []) t ts h e)) (λ kind l. none_left_out_label_word l)

bars_binder_argument : {bytes : List ℕ} {limit : ℕ} {k : Kind} {body : List Symbol} {f : Effect} → Production bytes limit (binder Argument) k body f → IsNoneOf k (K.Lower ∷ K.Upper ∷ []) → ⊥
bars_binder_argument a_named_argument h = h.0 refl
bars_binder_argument a_variable_argument h = h.1.0 refl

none_left_out_binder_argument : {kind : Kind} {stack : List Symbol} → IsLeftOut kind (binder Argument ∷ stack) → ⊥
none_left_out_binder_argument l = elim l [ ]

pub stuck_binder_argument : (bytes : List ℕ) (stack : List Symbol) (tokens : List Token) → Sees (unless (K.Lower ∷ K.Upper ∷ [])) tokens → IsStuck bytes (binder Argument ∷ stack) tokens (Unexpected (place_ahead bytes tokens))
stuck_binder_argument bytes stack tokens h = stuck_here tokens (λ ahead body g r. elim r [ ]) (λ t ts limit body f e p. bars_binder_argument p (none_next tokens (K.Lower ∷ K.Upper ∷ []) t ts h e)) (λ kind l. none_left_out_binder_argument l)

bars_binder_parameter : {bytes : List ℕ} {limit : ℕ} {k : Kind} {body : List Symbol} {f : Effect} → Production bytes limit (binder Parameter) k body f → IsNoneOf k (K.Lower ∷ []) → ⊥
bars_binder_parameter a_named_parameter h = h.0 refl

none_left_out_binder_parameter : {kind : Kind} {stack : List Symbol} → IsLeftOut kind (binder Parameter ∷ stack) → ⊥
none_left_out_binder_parameter l = elim l [ ]

pub stuck_binder_parameter : (bytes : List ℕ) (stack : List Symbol) (tokens : List Token) → Sees (unless (K.Lower ∷ [])) tokens → IsStuck bytes (binder Parameter ∷ stack) tokens (Unexpected (place_ahead bytes tokens))
stuck_binder_parameter bytes stack tokens h = stuck_here tokens (λ ahead body g r. elim r [ ]) (λ t ts limit body f e p. bars_binder_parameter p (none_next tokens (K.Lower ∷ []) t ts h e)) (λ kind l. none_left_out_binder_parameter l)

bars_binder_variable : {bytes : List ℕ} {limit : ℕ} {k : Kind} {body : List Symbol} {f : Effect} → Production bytes limit (binder Variable) k body f → IsNoneOf k (K.Upper ∷ []) → ⊥
bars_binder_variable a_bound_variable h = h.0 refl

none_left_out_binder_variable : {kind : Kind} {stack : List Symbol} → IsLeftOut kind (binder Variable ∷ stack) → ⊥
none_left_out_binder_variable l = elim l [ ]

pub stuck_binder_variable : (bytes : List ℕ) (stack : List Symbol) (tokens : List Token) → Sees (unless (K.Upper ∷ [])) tokens → IsStuck bytes (binder Variable ∷ stack) tokens (Unexpected (place_ahead bytes tokens))
stuck_binder_variable bytes stack tokens h = stuck_here tokens (λ ahead body g r. elim r [ ]) (λ t ts limit body f e p. bars_binder_variable p (none_next tokens (K.Upper ∷ []) t ts h e)) (λ kind l. none_left_out_binder_variable l)

bars_mark_argument : {bytes : List ℕ} {limit : ℕ} {k : Kind} {body : List Symbol} {f : Effect} → Production bytes limit (type_mark Argument) k body f → IsNoneOf k (K.Colon ∷ []) → ⊥
bars_mark_argument a_mark h = h.0 refl

none_left_out_mark_argument : {kind : Kind} {stack : List Symbol} → IsLeftOut kind (type_mark Argument ∷ stack) → ⊥
none_left_out_mark_argument l = elim l [ ]

pub stuck_mark_argument : (bytes : List ℕ) (stack : List Symbol) (tokens : List Token) → Sees (unless (K.Colon ∷ [])) tokens → IsStuck bytes (type_mark Argument ∷ stack) tokens (Unexpected (place_ahead bytes tokens))
stuck_mark_argument bytes stack tokens h = stuck_here tokens (λ ahead body g r. elim r [ ]) (λ t ts limit body f e p. bars_mark_argument p (none_next tokens (K.Colon ∷ []) t ts h e)) (λ kind l. none_left_out_mark_argument l)

bars_mark_parameter : {bytes : List ℕ} {limit : ℕ} {k : Kind} {body : List Symbol} {f : Effect} → Production bytes limit (type_mark Parameter) k body f → IsNoneOf k (K.Colon ∷ []) → ⊥
bars_mark_parameter a_mark h = h.0 refl

none_left_out_mark_parameter : {kind : Kind} {stack : List Symbol} → IsLeftOut kind (type_mark Parameter ∷ stack) → ⊥
none_left_out_mark_parameter l = elim l [ ]

pub stuck_mark_parameter : (bytes : List ℕ) (stack : List Symbol) (tokens : List Token) → Sees (unless (K.Colon ∷ [])) tokens → IsStuck bytes (type_mark Parameter ∷ stack) tokens (Unexpected (place_ahead bytes tokens))
stuck_mark_parameter bytes stack tokens h = stuck_here tokens (λ ahead body g r. elim r [ ]) (λ t ts limit body f e p. bars_mark_parameter p (none_next tokens (K.Colon ∷ []) t ts h e)) (λ kind l. none_left_out_mark_parameter l)

bars_block : {bytes : List ℕ} {limit : ℕ} {depth : ℕ} {k : Kind} {body : List Symbol} {f : Effect} → Production bytes limit (block depth) k body f → IsNoneOf k (K.OpenCurly ∷ []) → ⊥
bars_block (a_block q) h = h.0 refl

none_left_out_block : {kind : Kind} {depth : ℕ} {stack : List Symbol} → IsLeftOut kind (block depth ∷ stack) → ⊥
none_left_out_block l = elim l [ ]

pub stuck_block : (bytes : List ℕ) (depth : ℕ) (stack : List Symbol) (tokens : List Token) → Sees (unless (K.OpenCurly ∷ [])) tokens → IsStuck bytes (block depth ∷ stack) tokens (Unexpected (place_ahead bytes tokens))
stuck_block bytes depth stack tokens h = stuck_here tokens (λ ahead body g r. elim r [ ]) (λ t ts limit body f e p. bars_block p (none_next tokens (K.OpenCurly ∷ []) t ts h e)) (λ kind l. none_left_out_block l)

bars_operand : {bytes : List ℕ} {limit : ℕ} {depth : ℕ} {k : Kind} {body : List Symbol} {f : Effect} → Production bytes limit (operand depth) k body f → IsNoneOf k (K.Tilde ∷ K.WordTrue ∷ K.WordFalse ∷ K.OpenRound ∷ K.WordForall ∷ K.WordExists ∷ K.Lower ∷ K.Upper ∷ []) → ⊥
bars_operand (a_negation q) h = h.0 refl
bars_operand a_truth h = h.1.0 refl
bars_operand a_falsehood h = h.1.1.0 refl
bars_operand (a_bracket q) h = h.1.1.1.0 refl
bars_operand (a_universal q) h = h.1.1.1.1.0 refl
bars_operand (an_existential q) h = h.1.1.1.1.1.0 refl
bars_operand an_atom h = h.1.1.1.1.1.1.0 refl
bars_operand a_comparison h = h.1.1.1.1.1.1.1.0 refl

none_left_out_operand : {kind : Kind} {depth : ℕ} {stack : List Symbol} → IsLeftOut kind (operand depth ∷ stack) → ⊥
none_left_out_operand l = elim l [ ]

pub stuck_operand : (bytes : List ℕ) (depth : ℕ) (stack : List Symbol) (tokens : List Token) → Sees (unless (K.Tilde ∷ K.WordTrue ∷ K.WordFalse ∷ K.OpenRound ∷ K.WordForall ∷ K.WordExists ∷ K.Lower ∷ K.Upper ∷ [])) tokens → IsStuck bytes (operand depth ∷ stack) tokens (Unexpected (place_ahead bytes tokens))
stuck_operand bytes depth stack tokens h = stuck_here tokens (λ ahead body g r. elim r [ ]) (λ t ts limit body f e p. bars_operand p (none_next tokens (K.Tilde ∷ K.WordTrue ∷ K.WordFalse ∷ K.OpenRound ∷ K.WordForall ∷ K.WordExists ∷ K.Lower ∷ K.Upper ∷ []) t ts h e)) (λ kind l. none_left_out_operand l)

bars_comparison : {bytes : List ℕ} {limit : ℕ} {k : Kind} {body : List Symbol} {f : Effect} → Production bytes limit comparison k body f → IsNoneOf k (K.Equal ∷ K.NotEqual ∷ K.Less ∷ K.LessOrEqual ∷ []) → ⊥
bars_comparison an_equal_sign h = h.0 refl
bars_comparison an_unequal_sign h = h.1.0 refl
bars_comparison a_less_sign h = h.1.1.0 refl
bars_comparison an_at_most_sign h = h.1.1.1.0 refl

none_left_out_comparison : {kind : Kind} {stack : List Symbol} → IsLeftOut kind (comparison ∷ stack) → ⊥
none_left_out_comparison l = elim l [ ]

pub stuck_comparison : (bytes : List ℕ) (stack : List Symbol) (tokens : List Token) → Sees (unless (K.Equal ∷ K.NotEqual ∷ K.Less ∷ K.LessOrEqual ∷ [])) tokens → IsStuck bytes (comparison ∷ stack) tokens (Unexpected (place_ahead bytes tokens))
stuck_comparison bytes stack tokens h = stuck_here tokens (λ ahead body g r. elim r [ ]) (λ t ts limit body f e p. bars_comparison p (none_next tokens (K.Equal ∷ K.NotEqual ∷ K.Less ∷ K.LessOrEqual ∷ []) t ts h e)) (λ kind l. none_left_out_comparison l)

bars_term : {bytes : List ℕ} {limit : ℕ} {k : Kind} {body : List Symbol} {f : Effect} → Production bytes limit term k body f → IsNoneOf k (K.Lower ∷ K.Upper ∷ []) → ⊥
bars_term a_symbol h = h.0 refl
bars_term a_term_variable h = h.1.0 refl

none_left_out_term : {kind : Kind} {stack : List Symbol} → IsLeftOut kind (term ∷ stack) → ⊥
none_left_out_term l = elim l [ ]

pub stuck_term : (bytes : List ℕ) (stack : List Symbol) (tokens : List Token) → Sees (unless (K.Lower ∷ K.Upper ∷ [])) tokens → IsStuck bytes (term ∷ stack) tokens (Unexpected (place_ahead bytes tokens))
stuck_term bytes stack tokens h = stuck_here tokens (λ ahead body g r. elim r [ ]) (λ t ts limit body f e p. bars_term p (none_next tokens (K.Lower ∷ K.Upper ∷ []) t ts h e)) (λ kind l. none_left_out_term l)

pub sees_any : (tokens : List Token) → Sees (unless []) tokens
sees_any [] = tt
sees_any (t ∷ ts) = tt

pub other_ahead : (tokens : List Token) (kinds : List Kind) (k : Kind) → kind_ahead tokens ≡ Some k → IsNoneOf k kinds → Sees (unless kinds) tokens
other_ahead [] kinds k e h = absurd (let n : ⊥ = cc in n)
other_ahead (t ∷ ts) kinds k e h = let P : Kind → Type 0 = λ k. IsNoneOf k kinds in let same : t.kind ≡ k = cc in subst P (sym same) h

pub none_ahead : (tokens : List Token) (kinds : List Kind) → kind_ahead tokens ≡ None → Sees (unless kinds) tokens
none_ahead [] kinds e = tt
none_ahead (t ∷ ts) kinds e = absurd (let n : ⊥ = cc in n)
