-- What the judge knows, as the definitions say it.
use Rattle.std.specs.Prelude.{◌≡◌, ℕ, length, List, [], ◌++◌, map, reverse, drop, Option, None}
use Rattle.std.specs.List.{flat_map}
use Rattle.dai_syntax.specs.declared.tree.Binder.{Binder}
use Rattle.dai_syntax.specs.Trees.{declaration_of}
use Rattle.dai_rules.specs.declared.first.Fault.{Fault}
use Rattle.dai_rules.specs.declared.globals.Globals.{Globals}
use Rattle.dai_rules.specs.declared.variables.Naming.{Naming}
use Rattle.dai_rules.specs.declared.judge.Use.{Use}
use Rattle.dai_rules.specs.declared.judge.Use.TheVariants.{Typed, Linked}
use Rattle.dai_rules.specs.declared.judge.Ordering.{Ordering}
use Rattle.dai_rules.specs.declared.judge.Force.{Force}
use Rattle.dai_rules.specs.declared.judge.Role.{Role}
use Rattle.dai_rules.specs.declared.judge.Role.TheVariants.{Axiom, Invariant, Requirement, Value}
use Rattle.dai_rules.specs.declared.judge.Judge.{Judge}
use Rattle.dai_rules.specs.Names.{Context, with_inside}
use Rattle.dai_rules.specs.Naming as Model
use Rattle.dai_rules.specs.Types as Types
use Rattle.dai_rules.specs.Sites as Sites
use Rattle.dai_rules.specs.Sites.{Output, assigned_by, variable_names}
use Rattle.dai_rules.specs.First.{judged, noting_all}
use Rattle.dai_rules.specs.Tables.{texts_of, AddsNames}

abbrev pub naming_of : Naming → Model.Naming
naming_of n = record { variables = map (λ x. x.now) n.variables.items; bound = reverse n.bound.items; free = n.free.items }

-- the variables that are bound from the place on, as those of one quantifier
abbrev pub binding_from : Naming → ℕ → Model.Binding
binding_from n start = record { variables = map (λ x. x.now) n.variables.items; own = reverse (drop start n.bound.items) }

abbrev pub use_of : Use → Types.Use
use_of (Typed variable sort) = Types.typed variable sort.now.text
use_of (Linked left right) = Types.linked left right

abbrev pub ordering_of : Ordering → Sites.Ordering
ordering_of o = record { at = o.at; variable = o.variable }

abbrev pub force_of : Force → Sites.Force
force_of f = record { even = f.even; inside_universal = f.inside_universal; under_equivalence = f.under_equivalence }

abbrev pub role_in : Context → Role → Sites.Role
role_in ctx Axiom = Sites.as_axiom (flat_map assigned_by ctx.declarations)
role_in ctx Invariant = Sites.as_invariant
role_in ctx Requirement = Sites.as_requirement
role_in ctx (Value allowed) = Sites.as_value (variable_names allowed.now)

pub record View : Type 0 where
  pub context : Context
  -- the names of the parameters and locals so far
  pub locals : List (List ℕ)
  pub naming : Model.Naming
  pub uses : List Types.Use
  pub orderings : List Sites.Ordering
  pub existentials : List ℕ
  pub witnesses : List ℕ
  pub first : Option Fault

abbrev pub context_of : Judge → Context
context_of j = record { declarations = map declaration_of j.globals.now.decls.now; here = j.here; inside = map (λ x. x.now) j.inside.items }

abbrev pub view_of : Judge → View
view_of j = record {
  context = context_of j;
  locals = texts_of j.locals.keys;
  naming = naming_of j.naming;
  uses = map use_of j.uses.items;
  orderings = map ordering_of j.orderings.items;
  existentials = j.existentials.items;
  witnesses = j.witnesses.items;
  first = j.first;
}

-- after an output, with this naming
abbrev pub given : View → Output → Model.Naming → View
given v o naming = record {
  context = v.context;
  locals = v.locals;
  naming = naming;
  uses = v.uses ++ o.uses;
  orderings = v.orderings ++ o.orderings;
  existentials = v.existentials ++ o.existentials;
  witnesses = v.witnesses ++ o.witnesses;
  first = judged v.first o.sites;
}

-- after these sites, or these faults, alone
abbrev pub seen : View → List Sites.Site → View
seen v sites = record v { first = judged v.first sites }

abbrev pub noted : View → List Fault → View
noted v faults = record v { first = noting_all v.first faults }

-- nothing is seen of the file of these names
pub record IsFresh (globals : Globals) (j : Judge) : Type 0 where
  pub context : context_of j ≡ record { declarations = map declaration_of globals.decls.now; here = 0; inside = [] }
  pub no_locals : j.locals.keys ≡ []
  pub first : j.first ≡ None

-- parameters or locals come, of which so many may come: their names are noted, and they are in scope
pub record Introduces (room : ℕ) (binders : List Binder) (old new : Judge) : Type 0 where
  pub judged : view_of new ≡ record (seen (view_of old) (Sites.locals_sites (context_of old) room binders)) { context = with_inside (context_of old) ((context_of old).inside ++ binders); locals = texts_of new.locals.keys }
  pub names : AddsNames (Sites.binder_names binders) old.locals.keys new.locals.keys

-- after these uses, orderings, existential quantifiers or witnesses alone, or with another naming
abbrev pub used : View → List Types.Use → View
used v uses = record v { uses = v.uses ++ uses }

abbrev pub ordered : View → List Sites.Ordering → View
ordered v orderings = record v { orderings = v.orderings ++ orderings }

abbrev pub renamed : View → Model.Naming → View
renamed v naming = record v { naming = naming }

abbrev pub witnessed : View → List ℕ → View
witnessed v places = record v { witnesses = v.witnesses ++ places }

-- the naming is that at a quantifier whose variables begin at the place `start`, with these variables bound
pub record IsAtQuantifier (start : ℕ) (n : Model.Naming) (b : Model.Binding) (j : Judge) : Type 0 where
  pub begins : start ≡ length n.bound
  pub named : naming_of j.naming ≡ Model.with_binding n b

-- nothing is known of any variable
abbrev pub emptied : View → View
emptied v = record v { naming = Model.no_variables; uses = []; orderings = []; existentials = []; witnesses = [] }

-- what is known of a formula of this role as a whole
abbrev pub whole_view : Sites.Role → View → Sites.Whole
whole_view role v = record {
  role = role;
  declarations = v.context.declarations;
  variables = v.naming.variables;
  free = v.naming.free;
  uses = v.uses;
  orderings = v.orderings;
  existentials = v.existentials;
}

abbrev pub whole_in : Role → Judge → Sites.Whole
whole_in role j = whole_view (role_in (context_of j) role) (view_of j)

-- a formula was judged: its faults are noted, and its witnesses are there
pub record Judges (sites : List Sites.Site) (o : Output) (old new : Judge) : Type 0 where
  pub first : new.first ≡ judged old.first sites
  pub context : context_of new ≡ context_of old
  pub locals : texts_of new.locals.keys ≡ texts_of old.locals.keys
  pub witnesses : new.witnesses.items ≡ o.witnesses
