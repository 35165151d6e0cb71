-- The rules of sorts, one for each number. Each says at which places it is broken at a site of the file.
use Rattle.std.specs.Prelude.{◌≡◌, ◌≢◌, ℕ, ◌&&◌, ◌||◌, Bool, true, false, not, List, [], ◌∷◌, map, length, drop, Option, Some, None, slice_get, is_some, is_none, nat_eq, nat_lt}
use Rattle.std.specs.Option.{option_map_or}
use Rattle.std.specs.List.{Contains, list_any}
use Rattle.dai_syntax.specs.declared.tree.Name.{Name}
use Rattle.dai_syntax.specs.declared.tree.Arg.{Arg}
use Rattle.dai_syntax.specs.declared.tree.Arg.TheVariants.{Variable, Symbol}
use Rattle.dai_syntax.specs.Tree.{Formula, truth, atom, comparison, negation, conjunction, disjunction, equivalence, implication, quantified, Declaration}
use Rattle.dai_rules.specs.Names.{same_text, is_among, Context, is_named, first_place, first_declaration, is_declared_by, names_action, type_order, Kind, a_relation, an_individual, a_local, neither, element_type, kind_in}
use Rattle.dai_rules.specs.Types.{HasType}
use Rattle.dai_rules.specs.Sites.{Role, as_axiom, as_invariant, as_requirement, as_value, Force, is_universal_in, Ordering, Whole, Site, declared_at, local_at, bound_at, counted_at, type_at, export_at, atom_at, term_at, mention_at, variable_at, compared_at, quantifier_at, target_at, argument_at, whole_at, is_by_order, place_of}

-- the place, where the rule is broken
abbrev pub at_if : Bool → ℕ → List ℕ
at_if true at = at ∷ []
at_if false at = []

-- whether an earlier declaration has the name
abbrev pub is_declared_before : Context → List ℕ → Bool
is_declared_before ctx x = option_map_or (λ (i : ℕ). nat_lt i ctx.here) (first_place ctx.declarations x) false

-- 21, declared twice: the name of a declaration is that of an earlier one, or of a parameter or local before it;
-- that of a parameter or local is that of a declaration before it, or of one in whose scope or list it stands; a
-- quantifier binds a variable again
abbrev pub declared_twice : Site → List ℕ
declared_twice (declared_at ctx locals name) = at_if (is_declared_before ctx name.text || is_among name.text locals) name.at
declared_twice (local_at ctx name) = at_if (is_declared_by ctx name.text || list_any (is_named name.text) ctx.inside) name.at
declared_twice (bound_at before name) = at_if (list_any (is_named name.text) before) name.at
declared_twice _ = []

abbrev pub is_neither : Kind → Bool
is_neither (a_relation arguments) = false
is_neither (an_individual type) = false
is_neither (a_local type) = false
is_neither neither = true

abbrev pub is_action : List Declaration → List ℕ → Bool
is_action ds x = option_map_or names_action (first_declaration ds x) false

-- 22, unknown name: in a type's place a name that is no type; in a formula or as a target one that is no relation,
-- individual, parameter or local in scope; as an exported name one that is no action
abbrev pub unknown_name : Site → List ℕ
unknown_name (type_at ds name) = at_if (is_none (type_order ds name.text)) name.at
unknown_name (export_at ds name) = at_if (not (is_action ds name.text)) name.at
unknown_name (atom_at ctx name args) = at_if (is_neither (kind_in ctx name.text)) name.at
unknown_name (term_at ctx expected name) = at_if (is_neither (kind_in ctx name.text)) name.at
unknown_name (target_at ctx name args f) = at_if (is_neither (kind_in ctx name.text)) name.at
unknown_name _ = []

-- whether what stands here takes another number of arguments: a relation its own, an element none
abbrev pub takes_others : Kind → List Arg → Bool
takes_others (a_relation arguments) args = not (nat_eq (length args) (length arguments))
takes_others (an_individual type) args = not (nat_eq (length args) 0)
takes_others (a_local type) args = not (nat_eq (length args) 0)
takes_others neither args = false

-- 23, wrong number of arguments
abbrev pub wrong_number : Site → List ℕ
wrong_number (atom_at ctx name args) = at_if (takes_others (kind_in ctx name.text) args) name.at
wrong_number (target_at ctx name args f) = at_if (takes_others (kind_in ctx name.text) args) name.at
wrong_number _ = []

abbrev pub is_relation : Kind → Bool
is_relation (a_relation arguments) = true
is_relation (an_individual type) = false
is_relation (a_local type) = false
is_relation neither = false

abbrev pub is_individual : Kind → Bool
is_individual (a_relation arguments) = false
is_individual (an_individual type) = true
is_individual (a_local type) = false
is_individual neither = false

abbrev pub is_element : Kind → Bool
is_element kind = is_some (element_type kind)

-- two types with different names
abbrev pub differ : Option Name → Option Name → Bool
differ None other = false
differ (Some type) None = false
differ (Some type) (Some other) = not (same_text type.text other.text)

-- the type of a term that is no variable
abbrev pub symbol_type : Context → Arg → Option Name
symbol_type ctx (Variable name type) = None
symbol_type ctx (Symbol name) = element_type (kind_in ctx name.text)

abbrev pub is_bare_name : Formula → Bool
is_bare_name (atom name []) = true
is_bare_name (atom name (arg ∷ args)) = false
is_bare_name (truth b) = false
is_bare_name (comparison a op b) = false
is_bare_name (negation f) = false
is_bare_name (conjunction fs) = false
is_bare_name (disjunction fs) = false
is_bare_name (equivalence fs) = false
is_bare_name (implication f g) = false
is_bare_name (quantified universal binders f at) = false

-- 24, wrong type: an element stands as an atom; a relation stands as a term; a term has another type than its
-- place; two terms that are compared have different types; the right side of an update of an individual is no
-- name. (That a variable has two types is a rule of its own, below.)
abbrev pub wrong_type : Site → List ℕ
wrong_type (atom_at ctx name args) = at_if (is_element (kind_in ctx name.text)) name.at
wrong_type (term_at ctx expected name) = at_if (is_relation (kind_in ctx name.text) || differ (element_type (kind_in ctx name.text)) expected) name.at
wrong_type (compared_at ctx a op b) = at_if (differ (symbol_type ctx a) (symbol_type ctx b)) (place_of b)
wrong_type (target_at ctx name args f) = at_if (is_individual (kind_in ctx name.text) && not (is_bare_name f)) name.at
wrong_type _ = []

-- a type that is declared without an order
abbrev pub is_unordered : List Declaration → List ℕ → Bool
is_unordered ds x = option_map_or not (type_order ds x) false

abbrev pub is_unordered_type : List Declaration → Option Name → Bool
is_unordered_type ds None = false
is_unordered_type ds (Some type) = is_unordered ds type.text

-- 26, order on an unordered type, at the left term. (For variables, see below.)
abbrev pub order_missing : Site → List ℕ
order_missing (compared_at ctx a op b) =
    at_if (is_by_order op && (is_unordered_type ctx.declarations (symbol_type ctx a) || is_unordered_type ctx.declarations (symbol_type ctx b))) (place_of a)
order_missing _ = []

-- 27, an axiom names a relation or individual that some statement assigns
abbrev pub assigned_in_axiom : Site → List ℕ
assigned_in_axiom (mention_at ctx (as_axiom assigned) name) =
    at_if (is_among name.text assigned && (is_relation (kind_in ctx name.text) || is_individual (kind_in ctx name.text))) name.at
assigned_in_axiom _ = []

-- existential in force, or under `<->`
abbrev pub is_not_universal : Force → Bool → Bool
is_not_universal force universal = not (is_universal_in force universal) || force.under_equivalence

-- 28, in an axiom or invariant a quantifier is existential in force or stands under `<->`
abbrev pub not_universal : Site → List ℕ
not_universal (quantifier_at (as_axiom assigned) force universal at) = at_if (is_not_universal force universal) at
not_universal (quantifier_at as_invariant force universal at) = at_if (is_not_universal force universal) at
not_universal _ = []

-- 29, in a requirement a quantifier that is existential in force stands inside one that is universal in force, or
-- anywhere if the formula has a free variable; or a quantifier stands under `<->`
abbrev pub existentials_of : Role → List ℕ → List ℕ → List ℕ
existentials_of as_requirement (v ∷ free) places = places
existentials_of _ _ _ = []

abbrev pub not_exists_forall : Site → List ℕ
not_exists_forall (quantifier_at as_requirement force universal at) =
    at_if ((not (is_universal_in force universal) && force.inside_universal) || force.under_equivalence) at
not_exists_forall (whole_at w) = existentials_of w.role w.free w.existentials
not_exists_forall _ = []

-- 30, a quantifier stands in a condition or in a right side, or a variable that isn't in the target; a condition
-- has no target
abbrev pub loose : Site → List ℕ
loose (quantifier_at (as_value allowed) force universal at) = at ∷ []
loose (variable_at (as_value allowed) name) = at_if (not (is_among name.text allowed)) name.at
loose _ = []

abbrev pub is_local : Kind → Bool
is_local (a_relation arguments) = false
is_local (an_individual type) = false
is_local (a_local type) = true
is_local neither = false

-- whether a variable of this name is among the arguments
abbrev pub is_variable_of : List ℕ → Arg → Bool
is_variable_of x (Variable name type) = same_text x name.text
is_variable_of x (Symbol name) = false

abbrev pub repeats : List Arg → Arg → Bool
repeats before (Variable name type) = list_any (is_variable_of name.text) before
repeats before (Symbol name) = false

-- 31, the target is a parameter or local, or a variable stands twice in it
abbrev pub bad_target : Site → List ℕ
bad_target (target_at ctx name args f) = at_if (is_local (kind_in ctx name.text)) name.at
bad_target (argument_at before arg) = at_if (repeats before arg) (place_of arg)
bad_target _ = []

-- 42, too many: a thing past the limit of its kind, or the thirteenth variable of a formula
abbrev pub too_many : Site → List ℕ
too_many (counted_at room at) = at_if (nat_eq room 0) at
too_many (whole_at w) = map (λ (name : Name). name.at) (drop 12 w.variables)
too_many _ = []

-- where the variable of this number first occurs
abbrev pub IsVariableAt : Whole → ℕ → ℕ → Type 0
IsVariableAt w v at = (name : Name) × (slice_get w.variables v ≡ Some name) × (name.at ≡ at)

-- 24 again: a variable has two types
pub record HasTwoTypes (w : Whole) (at : ℕ) : Type 0 where
  pub variable : ℕ
  pub one : List ℕ
  pub other : List ℕ
  pub stands : IsVariableAt w variable at
  pub has_one : HasType w.uses variable one
  pub has_other : HasType w.uses variable other
  pub differ : one ≢ other

-- 25: a variable has no type
pub record HasNoType (w : Whole) (at : ℕ) : Type 0 where
  pub variable : ℕ
  pub stands : IsVariableAt w variable at
  pub none : (t : List ℕ) → HasType w.uses variable t → ⊥

-- 26 again: a comparison by order with a variable of a type that has none
pub record ComparesUnordered (w : Whole) (at : ℕ) : Type 0 where
  pub ordering : Ordering
  pub type : List ℕ
  pub stands : Contains w.orderings ordering
  pub place : ordering.at ≡ at
  pub has : HasType w.uses ordering.variable type
  pub unordered : is_unordered w.declarations type ≡ true

-- the rules about the types of variables
abbrev pub BreaksTypes : (Whole → ℕ → Type 0) → Site → ℕ → Type 0
BreaksTypes rule (whole_at w) at = rule w at
BreaksTypes rule _ at = ⊥

-- the rule of this number is broken at the site, at this place
pub data Breaks (s : Site) (number at : ℕ) : Type 0 where
  breaks_21 : number ≡ 21 → Contains (declared_twice s) at → Breaks s number at
  breaks_22 : number ≡ 22 → Contains (unknown_name s) at → Breaks s number at
  breaks_23 : number ≡ 23 → Contains (wrong_number s) at → Breaks s number at
  breaks_24 : number ≡ 24 → Contains (wrong_type s) at → Breaks s number at
  two_types : number ≡ 24 → BreaksTypes HasTwoTypes s at → Breaks s number at
  breaks_25 : number ≡ 25 → BreaksTypes HasNoType s at → Breaks s number at
  breaks_26 : number ≡ 26 → Contains (order_missing s) at → Breaks s number at
  unordered : number ≡ 26 → BreaksTypes ComparesUnordered s at → Breaks s number at
  breaks_27 : number ≡ 27 → Contains (assigned_in_axiom s) at → Breaks s number at
  breaks_28 : number ≡ 28 → Contains (not_universal s) at → Breaks s number at
  breaks_29 : number ≡ 29 → Contains (not_exists_forall s) at → Breaks s number at
  breaks_30 : number ≡ 30 → Contains (loose s) at → Breaks s number at
  breaks_31 : number ≡ 31 → Contains (bad_target s) at → Breaks s number at
  breaks_42 : number ≡ 42 → Contains (too_many s) at → Breaks s number at
