-- What a name stands for. Types, relations, individuals and actions share one set of names, and a name may be
-- used before its declaration. Where a name is declared twice, the first declaration counts.
use Rattle.std.specs.Prelude.{ℕ, Bool, false, List, true, Option, Some, None, nat_eq, nat_le, find, if◌then◌else◌}
use Rattle.std.specs.Option.{option_map_or, option_and_then}
use Rattle.std.specs.List.{list_any, position_from}
use Rattle.std.specs.Cmp.Lexicographic.{pointwise}
use Rattle.dai_syntax.specs.declared.tree.Name.{Name}
use Rattle.dai_syntax.specs.declared.tree.Binder.{Binder}
use Rattle.dai_syntax.specs.Tree.{Declaration, sort, relation, individual, axiom_of, init, action, export, invariant}

abbrev pub same_text : List ℕ → List ℕ → Bool
same_text = pointwise nat_eq

abbrev pub is_among : List ℕ → List (List ℕ) → Bool
is_among x texts = list_any (same_text x) texts

abbrev pub declared_name : Declaration → Option Name
declared_name (sort name ordered) = Some name
declared_name (relation name arguments) = Some name
declared_name (individual name type) = Some name
declared_name (action name parameters body exported) = Some name
declared_name (axiom_of f at) = None
declared_name (init body) = None
declared_name (export name) = None
declared_name (invariant label f at) = None

abbrev pub declares : List ℕ → Declaration → Bool
declares x d = option_map_or (λ (name : Name). same_text x name.text) (declared_name d) false

-- the type of a parameter, a local or an argument. One that has none, which no text has, stands for its own type.
abbrev pub type_of : Binder → Name
type_of b = type_or b.name b.sort
  where
    type_or : Name → Option Name → Name
    type_or name None = name
    type_or name (Some type) = type

-- a relation with these arguments, an individual of a type, a parameter or local of a type, or none of these
pub data Kind : Type 0 where
  a_relation : List Binder → Kind
  an_individual : Name → Kind
  a_local : Name → Kind
  neither : Kind

-- the type of an element
abbrev pub element_type : Kind → Option Name
element_type (a_relation arguments) = None
element_type (an_individual type) = Some type
element_type (a_local type) = Some type
element_type neither = None

abbrev pub kind_of : Declaration → Kind
kind_of (sort name ordered) = neither
kind_of (relation name arguments) = a_relation arguments
kind_of (individual name type) = an_individual type
kind_of (action name parameters body exported) = neither
kind_of (axiom_of f at) = neither
kind_of (init body) = neither
kind_of (export name) = neither
kind_of (invariant label f at) = neither

-- Where a formula or a statement stands: the declarations of the file, the place of the present one among
-- them, and the parameters and locals in scope, in order.
pub record Context : Type 0 where
  pub declarations : List Declaration
  pub here : ℕ
  pub inside : List Binder

abbrev pub with_inside : Context → List Binder → Context
with_inside ctx inside = record ctx { inside = inside }

-- the place of the first declaration of the name
abbrev pub first_place : List Declaration → List ℕ → Option ℕ
first_place ds x = position_from (declares x) 0 ds

abbrev pub first_declaration : List Declaration → List ℕ → Option Declaration
first_declaration ds x = find (declares x) ds

abbrev pub is_named : List ℕ → Binder → Bool
is_named x b = same_text x b.name.text

-- what the first declaration of the name says that it is
abbrev pub declared_kind : List Declaration → List ℕ → Kind
declared_kind ds x = option_map_or kind_of (first_declaration ds x) neither

-- whether the name is declared in the file up to the present declaration
abbrev pub is_declared_by : Context → List ℕ → Bool
is_declared_by ctx x = option_map_or (λ (i : ℕ). nat_le i ctx.here) (first_place ctx.declarations x) false

-- What a name in a formula or in a target stands for. Of a parameter or local and a declaration of its name,
-- the one that is earlier in the file counts.
abbrev pub kind_beside : Context → List ℕ → Option Binder → Kind
kind_beside ctx x None = declared_kind ctx.declarations x
kind_beside ctx x (Some b) = if is_declared_by ctx x then declared_kind ctx.declarations x else a_local (type_of b)

abbrev pub kind_in : Context → List ℕ → Kind
kind_in ctx x = kind_beside ctx x (find (is_named x) ctx.inside)

-- whether the declaration is a type, and whether it is an ordered one
abbrev pub order_of : Declaration → Option Bool
order_of (sort name ordered) = Some ordered
order_of (relation name arguments) = None
order_of (individual name type) = None
order_of (action name parameters body exported) = None
order_of (axiom_of f at) = None
order_of (init body) = None
order_of (export name) = None
order_of (invariant label f at) = None

-- whether a name in a type's place is a type, and whether it is an ordered one
abbrev pub type_order : List Declaration → List ℕ → Option Bool
type_order ds x = option_and_then order_of (first_declaration ds x)

abbrev pub names_action : Declaration → Bool
names_action (action name parameters body exported) = true
names_action _ = false
