-- What there is to judge in a file: each place where a rule may be broken, with what the rules look at there.
use Rattle.std.specs.Prelude.{ℕ, ◌+◌, ◌-◌, Bool, true, false, not, ◌||◌, List, [], ◌∷◌, ◌++◌, map, length, Option, Some, None, if◌then◌else◌}
use Rattle.std.specs.List.{flat_map}
use Rattle.dai_syntax.specs.declared.tree.Name.{Name}
use Rattle.dai_syntax.specs.declared.tree.Binder.{Binder}
use Rattle.dai_syntax.specs.declared.tree.Arg.{Arg}
use Rattle.dai_syntax.specs.declared.tree.Arg.TheVariants.{Variable, Symbol}
use Rattle.dai_syntax.specs.declared.tree.Op.{Op}
use Rattle.dai_syntax.specs.declared.tree.Op.TheVariants.{Equal, Unequal, Less, LessEqual}
use Rattle.dai_syntax.specs.Tree.{Formula, truth, atom, comparison, negation, conjunction, disjunction, equivalence, implication, quantified, Formulas, no_formulas, with_formula, Statement, requirement, assignment, conditional, with_locals, Statements, no_statements, with_statement, Declaration, sort, relation, individual, axiom_of, init, action, export, invariant}
use Rattle.dai_rules.specs.Names.{Context, with_inside, Kind, a_relation, an_individual, a_local, neither, element_type, kind_in, type_of}
use Rattle.dai_rules.specs.Naming.{Naming, no_variables, number_of, Binding, own_number, bound_with, at_quantifier, entered, after_term, after_terms, after_formula}
use Rattle.dai_rules.specs.Types.{Use, typed, linked}

-- what a formula is for: an axiom, beside the names that statements assign; an invariant; a requirement; or a
-- condition or right side, in which these variables may stand
pub data Role : Type 0 where
  as_axiom : List (List ℕ) → Role
  as_invariant : Role
  as_requirement : Role
  as_value : List (List ℕ) → Role

-- Where a quantifier stands: under an even number of negations, inside a quantifier that is universal in force,
-- under `<->`. The left side of an implication counts as one negation.
pub record Force : Type 0 where
  pub even : Bool
  pub inside_universal : Bool
  pub under_equivalence : Bool

abbrev pub outermost : Force
outermost = record { even = true; inside_universal = false; under_equivalence = false }

-- universal in force: `forall` under an even number of negations, or `exists` under an odd one
abbrev pub is_universal_in : Force → Bool → Bool
is_universal_in force true = force.even
is_universal_in force false = not force.even

-- a comparison by order with a variable: the place of its left side, and the variable
pub record Ordering : Type 0 where
  pub at : ℕ
  pub variable : ℕ

-- a formula, or an update with its right side, as a whole: its variables, the free ones, what is said of their
-- types, the comparisons by order, and the places of the quantifiers that are existential in force
pub record Whole : Type 0 where
  pub role : Role
  pub declarations : List Declaration
  pub variables : List Name
  pub free : List ℕ
  pub uses : List Use
  pub orderings : List Ordering
  pub existentials : List ℕ

pub data Site : Type 0 where
  -- the name of a declaration, and whether it is declared before: as one of the shared names, or as a parameter
  -- or local
  declared_at : Context → List (List ℕ) → Name → Site
  -- the name of a parameter or local
  local_at : Context → Name → Site
  -- a variable of a quantifier, beside those that it binds before
  bound_at : List Binder → Name → Site
  -- one thing of a kind with a limit: how many more may come, and the place
  counted_at : ℕ → ℕ → Site
  -- a name in a type's place, and an exported name
  type_at : List Declaration → Name → Site
  export_at : List Declaration → Name → Site
  -- a name with its arguments in a formula
  atom_at : Context → Name → List Arg → Site
  -- a name that stands as a term, beside the type of its place
  term_at : Context → Option Name → Name → Site
  -- a name that a formula of this role names
  mention_at : Context → Role → Name → Site
  -- a variable that stands in a formula of this role
  variable_at : Role → Name → Site
  compared_at : Context → Arg → Op → Arg → Site
  quantifier_at : Role → Force → Bool → ℕ → Site
  -- the target of an update, and its right side
  target_at : Context → Name → List Arg → Formula → Site
  -- an argument of a target, beside those before it
  argument_at : List Arg → Arg → Site
  whole_at : Whole → Site

-- what a part of a formula gives
pub record Output : Type 0 where
  pub sites : List Site
  pub uses : List Use
  pub orderings : List Ordering
  pub existentials : List ℕ
  -- the places of the variables that are existential in force
  pub witnesses : List ℕ

abbrev pub nothing : Output
nothing = record { sites = []; uses = []; orderings = []; existentials = []; witnesses = [] }

abbrev pub sites_alone : List Site → Output
sites_alone sites = record nothing { sites = sites }

abbrev pub both : Output → Output → Output
both a b = record {
  sites = a.sites ++ b.sites;
  uses = a.uses ++ b.uses;
  orderings = a.orderings ++ b.orderings;
  existentials = a.existentials ++ b.existentials;
  witnesses = a.witnesses ++ b.witnesses;
}

-- a type that a variable has, if there is one
abbrev pub typed_by : ℕ → Option Name → List Use
typed_by v None = []
typed_by v (Some type) = typed v type.text ∷ []

abbrev pub annotated_at : Context → Option Name → List Site
annotated_at ctx None = []
annotated_at ctx (Some type) = type_at ctx.declarations type ∷ []

-- a term in a place of this type, if the place has one
abbrev pub variable_output : Context → Role → Naming → Option Name → Name → Option Name → Output
variable_output ctx role n expected name type = record nothing {
  sites = variable_at role name ∷ annotated_at ctx type;
  uses = typed_by (number_of n name.text) type ++ typed_by (number_of n name.text) expected;
}

abbrev pub term_output : Context → Role → Naming → Option Name → Arg → Output
term_output ctx role n expected (Variable name type) = variable_output ctx role n expected name type
term_output ctx role n expected (Symbol name) = sites_alone (mention_at ctx role name ∷ term_at ctx expected name ∷ [])

-- terms in the places of a relation's arguments; a term past them is in no place
abbrev pub terms_output : Context → Role → Naming → List Binder → List Arg → Output
terms_output ctx role n places [] = nothing
terms_output ctx role n [] (t ∷ ts) = both (term_output ctx role n None t) (terms_output ctx role (after_term n t) [] ts)
terms_output ctx role n (place ∷ places) (t ∷ ts) = both (term_output ctx role n (Some (type_of place)) t) (terms_output ctx role (after_term n t) places ts)

-- the arguments of what a name stands for
abbrev pub places_of : Kind → List Binder
places_of (a_relation arguments) = arguments
places_of (an_individual type) = []
places_of (a_local type) = []
places_of neither = []

-- the type that a variable has by the other side of its comparison
abbrev pub type_beside : Context → Arg → Arg → Option Name
type_beside ctx (Variable name type) (Variable other type2) = None
type_beside ctx (Variable name type) (Symbol other) = element_type (kind_in ctx other.text)
type_beside ctx (Symbol name) other = None

-- the number of a term that is a variable
abbrev pub term_number : Naming → Arg → Option ℕ
term_number n (Variable name type) = Some (number_of n name.text)
term_number n (Symbol name) = None

abbrev pub links : Option ℕ → Option ℕ → List Use
links None other = []
links (Some v) None = []
links (Some v) (Some w) = linked v w ∷ []

abbrev pub place_of : Arg → ℕ
place_of (Variable name type) = name.at
place_of (Symbol name) = name.at

abbrev pub is_by_order : Op → Bool
is_by_order Equal = false
is_by_order Unequal = false
is_by_order Less = true
is_by_order LessEqual = true

abbrev pub ordering_of : ℕ → Option ℕ → List Ordering
ordering_of at None = []
ordering_of at (Some v) = record { at = at; variable = v } ∷ []

abbrev pub orderings_of : Op → ℕ → Option ℕ → Option ℕ → List Ordering
orderings_of op at one other = if is_by_order op then ordering_of at one ++ ordering_of at other else []

abbrev pub comparison_output : Context → Role → Naming → Arg → Op → Arg → Output
comparison_output ctx role n a op b =
    both (term_output ctx role n (type_beside ctx a b) a)
    (both (term_output ctx role (after_term n a) (type_beside ctx b a) b)
    (record nothing { sites = compared_at ctx a op b ∷ []; uses = links (term_number n a) (term_number (after_term n a) b); orderings = orderings_of op (place_of a) (term_number n a) (term_number (after_term n a) b) }))

-- the places of the variables of a quantifier that is existential in force
abbrev pub witness_places : Bool → ℕ → List ℕ
witness_places true at = at ∷ []
witness_places false at = []

-- a variable of a quantifier, beside those that it binds before
abbrev pub binder_output : Context → Bool → Binding → List Binder → Binder → Output
binder_output ctx witness b before binder = record nothing {
  sites = bound_at before binder.name ∷ annotated_at ctx binder.sort;
  uses = typed_by (own_number b binder) binder.sort;
  witnesses = witness_places witness binder.name.at;
}

abbrev pub binders_output : Context → Bool → Binding → List Binder → List Binder → Output
binders_output ctx witness b before [] = nothing
binders_output ctx witness b before (binder ∷ binders) =
    both (binder_output ctx witness b before binder) (binders_output ctx witness (bound_with b binder) (before ++ binder ∷ []) binders)

abbrev pub negated : Force → Force
negated force = record force { even = not force.even }

abbrev pub within_equivalence : Force → Force
within_equivalence force = record force { under_equivalence = true }

abbrev pub within : Force → Bool → Force
within force universal = record force { inside_universal = force.inside_universal || is_universal_in force universal }

abbrev pub atom_output : Context → Role → Naming → Name → List Arg → Output
atom_output ctx role n name args =
    both (sites_alone (mention_at ctx role name ∷ atom_at ctx name args ∷ [])) (terms_output ctx role n (places_of (kind_in ctx name.text)) args)

abbrev pub quantifier_output : Role → Force → Bool → ℕ → Output
quantifier_output role force universal at = record nothing {
  sites = quantifier_at role force universal at ∷ [];
  existentials = if is_universal_in force universal then [] else at ∷ [];
}

abbrev mutual
  pub formula_output : Context → Role → Force → Naming → Formula → Output
  formula_output ctx role force n (truth b) = nothing
  formula_output ctx role force n (atom name args) = atom_output ctx role n name args
  formula_output ctx role force n (comparison a op b) = comparison_output ctx role n a op b
  formula_output ctx role force n (negation f) = formula_output ctx role (negated force) n f
  formula_output ctx role force n (conjunction fs) = formulas_output ctx role force n fs
  formula_output ctx role force n (disjunction fs) = formulas_output ctx role force n fs
  formula_output ctx role force n (equivalence fs) = formulas_output ctx role (within_equivalence force) n fs
  formula_output ctx role force n (implication f g) = both (formula_output ctx role (negated force) n f) (formula_output ctx role force (after_formula n f) g)
  formula_output ctx role force n (quantified universal binders f at) =
      both (quantifier_output role force universal at)
      (both (binders_output ctx (not (is_universal_in force universal)) (at_quantifier n) [] binders)
      (formula_output ctx role (within force universal) (entered n binders) f))

  pub formulas_output : Context → Role → Force → Naming → Formulas → Output
  formulas_output ctx role force n no_formulas = nothing
  formulas_output ctx role force n (with_formula f fs) = both (formula_output ctx role force n f) (formulas_output ctx role force (after_formula n f) fs)

abbrev pub whole_of : Context → Role → Naming → Output → Whole
whole_of ctx role after o = record {
  role = role;
  declarations = ctx.declarations;
  variables = after.variables;
  free = after.free;
  uses = o.uses;
  orderings = o.orderings;
  existentials = o.existentials;
}

-- an axiom, an invariant, a requirement or a condition
abbrev pub sentence_output : Context → Role → Formula → Output
sentence_output ctx role f = formula_output ctx role outermost no_variables f

abbrev pub sentence_sites : Context → Role → Formula → List Site
sentence_sites ctx role f = (sentence_output ctx role f).sites ++ whole_at (whole_of ctx role (after_formula no_variables f) (sentence_output ctx role f)) ∷ []

-- the names of the variables of a target
abbrev pub variable_names : List Arg → List (List ℕ)
variable_names [] = []
variable_names (Variable name type ∷ ts) = name.text ∷ variable_names ts
variable_names (Symbol name ∷ ts) = variable_names ts

abbrev pub arguments_at : List Arg → List Arg → List Site
arguments_at before [] = []
arguments_at before (t ∷ ts) = argument_at before t ∷ arguments_at (before ++ t ∷ []) ts

-- the right side of an update of an individual of this type stands as a term
abbrev pub element_output : Context → Role → Naming → Name → Formula → Output
element_output ctx role n type (atom name args) = both (sites_alone (mention_at ctx role name ∷ term_at ctx (Some type) name ∷ [])) (terms_output ctx role n [] args)
element_output ctx role n type f = formula_output ctx role outermost n f

abbrev pub right_output : Context → Role → Naming → Kind → Formula → Output
right_output ctx role n (an_individual type) f = element_output ctx role n type f
right_output ctx role n (a_relation arguments) f = formula_output ctx role outermost n f
right_output ctx role n (a_local type) f = formula_output ctx role outermost n f
right_output ctx role n neither f = formula_output ctx role outermost n f

abbrev pub update_role : List Arg → Role
update_role args = as_value (variable_names args)

abbrev pub update_output : Context → Name → List Arg → Formula → Output
update_output ctx name args f =
    both (sites_alone (target_at ctx name args f ∷ arguments_at [] args))
    (both (terms_output ctx (update_role args) no_variables (places_of (kind_in ctx name.text)) args)
    (right_output ctx (update_role args) (after_terms no_variables args) (kind_in ctx name.text) f))

abbrev pub update_sites : Context → Name → List Arg → Formula → List Site
update_sites ctx name args f =
    (update_output ctx name args f).sites
    ++ whole_at (whole_of ctx (update_role args) (after_formula (after_terms no_variables args) f) (update_output ctx name args f)) ∷ []

-- how many more locals a block may have, and how many more variables that are existential in force in its
-- requirements
pub record Room : Type 0 where
  pub locals : ℕ
  pub witnesses : ℕ

abbrev pub block_room : Room
block_room = record { locals = 6; witnesses = 16 }

-- things at these places, of which so many may come
abbrev pub counted_from : ℕ → List ℕ → List Site
counted_from room [] = []
counted_from room (at ∷ places) = counted_at room at ∷ counted_from (room - 1) places

-- parameters or locals, of which so many may come
abbrev pub locals_sites : Context → ℕ → List Binder → List Site
locals_sites ctx room [] = []
locals_sites ctx room (b ∷ bs) =
    local_at ctx b.name ∷ counted_at room b.name.at ∷ type_at ctx.declarations (type_of b)
    ∷ locals_sites (with_inside ctx (ctx.inside ++ b ∷ [])) (room - 1) bs

abbrev mutual
  pub room_after : Context → Room → Statement → Room
  room_after ctx room (requirement f) = record room { witnesses = room.witnesses - length (sentence_output ctx as_requirement f).witnesses }
  room_after ctx room (assignment name args f) = room
  room_after ctx room (conditional f first second) = room_after_each ctx (room_after_each ctx room first) second
  room_after ctx room (with_locals binders body) =
      room_after_each (with_inside ctx (ctx.inside ++ binders)) (record room { locals = room.locals - length binders }) body

  pub room_after_each : Context → Room → Statements → Room
  room_after_each ctx room no_statements = room
  room_after_each ctx room (with_statement s ss) = room_after_each ctx (room_after ctx room s) ss

abbrev mutual
  pub statement_sites : Context → Room → Statement → List Site
  statement_sites ctx room (requirement f) = sentence_sites ctx as_requirement f ++ counted_from room.witnesses (sentence_output ctx as_requirement f).witnesses
  statement_sites ctx room (assignment name args f) = update_sites ctx name args f
  statement_sites ctx room (conditional f first second) =
      sentence_sites ctx (as_value []) f ++ (statements_sites ctx room first ++ statements_sites ctx (room_after_each ctx room first) second)
  statement_sites ctx room (with_locals binders body) =
      locals_sites ctx room.locals binders
      ++ statements_sites (with_inside ctx (ctx.inside ++ binders)) (record room { locals = room.locals - length binders }) body

  pub statements_sites : Context → Room → Statements → List Site
  statements_sites ctx room no_statements = []
  statements_sites ctx room (with_statement s ss) = statement_sites ctx room s ++ statements_sites ctx (room_after ctx room s) ss

-- the names that statements assign
abbrev mutual
  pub targets_of : Statement → List (List ℕ)
  targets_of (requirement f) = []
  targets_of (assignment name args f) = name.text ∷ []
  targets_of (conditional f first second) = targets_in first ++ targets_in second
  targets_of (with_locals binders body) = targets_in body

  pub targets_in : Statements → List (List ℕ)
  targets_in no_statements = []
  targets_in (with_statement s ss) = targets_of s ++ targets_in ss

-- the names of parameters and locals
abbrev pub binder_names : List Binder → List (List ℕ)
binder_names bs = map (λ (b : Binder). b.name.text) bs

abbrev mutual
  pub locals_of : Statement → List (List ℕ)
  locals_of (requirement f) = []
  locals_of (assignment name args f) = []
  locals_of (conditional f first second) = locals_in first ++ locals_in second
  locals_of (with_locals binders body) = binder_names binders ++ locals_in body

  pub locals_in : Statements → List (List ℕ)
  locals_in no_statements = []
  locals_in (with_statement s ss) = locals_of s ++ locals_in ss

-- what a declaration assigns, and its parameters and locals
abbrev pub assigned_by : Declaration → List (List ℕ)
assigned_by (init body) = targets_in body
assigned_by (action name parameters body exported) = targets_in body
assigned_by _ = []

abbrev pub locals_by : Declaration → List (List ℕ)
locals_by (init body) = locals_in body
locals_by (action name parameters body exported) = binder_names parameters ++ locals_in body
locals_by _ = []

-- how many more declarations of each kind may come, and the room of all init code together
pub record FileRoom : Type 0 where
  pub sorts : ℕ
  pub relations : ℕ
  pub individuals : ℕ
  pub actions : ℕ
  pub axioms : ℕ
  pub invariants : ℕ
  pub init : Room

abbrev pub file_room : FileRoom
file_room = record { sorts = 8; relations = 64; individuals = 16; actions = 64; axioms = 64; invariants = 64; init = block_room }

abbrev pub room_behind : Context → FileRoom → Declaration → FileRoom
room_behind ctx room (sort name ordered) = record room { sorts = room.sorts - 1 }
room_behind ctx room (relation name arguments) = record room { relations = room.relations - 1 }
room_behind ctx room (individual name type) = record room { individuals = room.individuals - 1 }
room_behind ctx room (axiom_of f at) = record room { axioms = room.axioms - 1 }
room_behind ctx room (init body) = record room { init = room_after_each ctx room.init body }
room_behind ctx room (action name parameters body exported) = record room { actions = room.actions - 1 }
room_behind ctx room (export name) = room
room_behind ctx room (invariant label f at) = record room { invariants = room.invariants - 1 }

-- the arguments of a relation, of which so many may come
abbrev pub relation_sites : List Declaration → ℕ → List Binder → List Site
relation_sites ds room [] = []
relation_sites ds room (b ∷ bs) = counted_at room b.name.at ∷ type_at ds (type_of b) ∷ relation_sites ds (room - 1) bs

-- a declaration, beside the names of the parameters and locals before it
abbrev pub declaration_sites : Context → FileRoom → List (List ℕ) → Declaration → List Site
declaration_sites ctx room locals (sort name ordered) = declared_at ctx locals name ∷ counted_at room.sorts name.at ∷ []
declaration_sites ctx room locals (relation name arguments) =
    declared_at ctx locals name ∷ counted_at room.relations name.at ∷ relation_sites ctx.declarations 5 arguments
declaration_sites ctx room locals (individual name type) =
    declared_at ctx locals name ∷ counted_at room.individuals name.at ∷ type_at ctx.declarations type ∷ []
declaration_sites ctx room locals (axiom_of f at) = counted_at room.axioms at ∷ sentence_sites ctx (as_axiom (flat_map assigned_by ctx.declarations)) f
declaration_sites ctx room locals (init body) = statements_sites ctx room.init body
declaration_sites ctx room locals (action name parameters body exported) =
    declared_at ctx locals name ∷ counted_at room.actions name.at
    ∷ (locals_sites ctx 6 parameters ++ statements_sites (with_inside ctx parameters) block_room body)
declaration_sites ctx room locals (export name) = export_at ctx.declarations name ∷ []
declaration_sites ctx room locals (invariant label f at) = counted_at room.invariants at ∷ sentence_sites ctx as_invariant f

abbrev pub context_at : List Declaration → ℕ → Context
context_at all here = record { declarations = all; here = here; inside = [] }

-- the declarations from the one at this place on
abbrev pub sites_from : List Declaration → ℕ → FileRoom → List (List ℕ) → List Declaration → List Site
sites_from all here room locals [] = []
sites_from all here room locals (d ∷ ds) =
    declaration_sites (context_at all here) room locals d
    ++ sites_from all (here + 1) (room_behind (context_at all here) room d) (locals ++ locals_by d) ds

abbrev pub sites_of : List Declaration → List Site
sites_of ds = sites_from ds 0 file_room [] ds
