-- At each site of a file, what is said of the variables of a formula is of those that it has.
use Rattle.std.proofs.Common.{ℕ, ◌+◌, ◌-◌, Bool, not, List, [], ◌∷◌, ◌++◌, length, Option, None, Some}
use Rattle.std.specs.List.{All, flat_map}
use Rattle.std.proofs.lemmas.List.Elements.{All-append, All-cons}
use Rattle.dai_syntax.specs.declared.tree.Name.{Name}
use Rattle.dai_syntax.specs.declared.tree.Binder.{Binder}
use Rattle.dai_syntax.specs.declared.tree.Arg.{Arg}
use Rattle.dai_syntax.specs.declared.tree.Arg.TheVariants.{Variable, Symbol}
use Rattle.dai_syntax.specs.declared.tree.Op.{Op}
use Rattle.dai_syntax.specs.Tree.{Formula, truth, atom, comparison, negation, conjunction, disjunction, equivalence, implication, quantified, Formulas, no_formulas, with_formula, Statement, requirement, assignment, conditional, with_locals, Statements, no_statements, with_statement, Declaration, sort, relation, individual, axiom_of, init, action, export, invariant}
use Rattle.dai_rules.specs.Names.{Context, with_inside, Kind, a_relation, an_individual, a_local, neither, type_of, kind_in}
use Rattle.dai_rules.specs.Naming.{Naming, no_variables, Binding, bound_with, at_quantifier, entered, after_term, after_terms, after_formula}
use Rattle.dai_rules.specs.Sites.{Site, declared_at, local_at, counted_at, bound_at, type_at, export_at, atom_at, term_at, mention_at, variable_at, compared_at, quantifier_at, target_at, argument_at, whole_at, whole_of, Role, as_axiom, as_invariant, as_requirement, as_value, Force, outermost, negated, within, within_equivalence, is_universal_in, annotated_at, term_output, terms_output, type_beside, comparison_output, binders_output, formula_output, formulas_output, places_of, sentence_output, sentence_sites, arguments_at, element_output, right_output, update_role, update_output, update_sites, counted_from, locals_sites, Room, FileRoom, block_room, file_room, room_after, room_after_each, room_behind, statement_sites, statements_sites, relation_sites, declaration_sites, assigned_by, locals_by, context_at, sites_from, sites_of}
use Rattle.dai_rules.proofs.RangeLemmas.{none_of, formula_within, update_within}
use Rattle.dai_rules.proofs.TypeFaults.{IsWholeWithin}

abbrev pub IsSiteWithin : Site → Type 0
IsSiteWithin (whole_at w) = IsWholeWithin w
IsSiteWithin _ = Unit {0}

abbrev pub AreWithin : List Site → Type 0
AreWithin sites = All IsSiteWithin sites

none : AreWithin []
none = none_of IsSiteWithin

one : (s : Site) → IsSiteWithin s → AreWithin (s ∷ [])
one s h = All-cons IsSiteWithin s [] h none

also : (s : Site) (ss : List Site) → IsSiteWithin s → AreWithin ss → AreWithin (s ∷ ss)
also s ss h k = All-cons IsSiteWithin s ss h k

then_also : (a b : List Site) → AreWithin a → AreWithin b → AreWithin (a ++ b)
then_also a b h k = All-append IsSiteWithin a b h k

annotated : (ctx : Context) (type : Option Name) → AreWithin (annotated_at ctx type)
annotated ctx None = none
annotated ctx (Some type) = one (type_at ctx.declarations type) tt

term_sites : (ctx : Context) (role : Role) (n : Naming) (expected : Option Name) (t : Arg) → AreWithin (term_output ctx role n expected t).sites
term_sites ctx role n expected (Variable name type) = also (variable_at role name) (annotated_at ctx type) tt (annotated ctx type)
term_sites ctx role n expected (Symbol name) = also (mention_at ctx role name) (term_at ctx expected name ∷ []) tt (one (term_at ctx expected name) tt)

terms_sites : (ctx : Context) (role : Role) (n : Naming) (places : List Binder) (ts : List Arg) → AreWithin (terms_output ctx role n places ts).sites
terms_sites ctx role n places [] = none
terms_sites ctx role n [] (t ∷ ts) = then_also (term_output ctx role n None t).sites (terms_output ctx role (after_term n t) [] ts).sites (term_sites ctx role n None t) (terms_sites ctx role (after_term n t) [] ts)
terms_sites ctx role n (p ∷ places) (t ∷ ts) =
    then_also (term_output ctx role n (Some (type_of p)) t).sites (terms_output ctx role (after_term n t) places ts).sites (term_sites ctx role n (Some (type_of p)) t) (terms_sites ctx role (after_term n t) places ts)

comparison_sites : (ctx : Context) (role : Role) (n : Naming) (a : Arg) (op : Op) (b : Arg) → AreWithin (comparison_output ctx role n a op b).sites
comparison_sites ctx role n a op b =
    let x = term_output ctx role n (type_beside ctx a b) a in
    let y = term_output ctx role (after_term n a) (type_beside ctx b a) b in
    then_also x.sites (y.sites ++ compared_at ctx a op b ∷ []) (term_sites ctx role n (type_beside ctx a b) a)
    (then_also y.sites (compared_at ctx a op b ∷ []) (term_sites ctx role (after_term n a) (type_beside ctx b a) b) (one (compared_at ctx a op b) tt))

binders_sites : (ctx : Context) (witness : Bool) (b : Binding) (before binders : List Binder) → AreWithin (binders_output ctx witness b before binders).sites
binders_sites ctx witness b before [] = none
binders_sites ctx witness b before (binder ∷ binders) =
    then_also (bound_at before binder.name ∷ annotated_at ctx binder.sort) (binders_output ctx witness (bound_with b binder) (before ++ binder ∷ []) binders).sites
    (also (bound_at before binder.name) (annotated_at ctx binder.sort) tt (annotated ctx binder.sort)) (binders_sites ctx witness (bound_with b binder) (before ++ binder ∷ []) binders)

mutual
  formula_sites : (ctx : Context) (role : Role) (force : Force) (n : Naming) (f : Formula) → AreWithin (formula_output ctx role force n f).sites
  formula_sites ctx role force n (truth b) = none
  formula_sites ctx role force n (atom name args) =
      also (mention_at ctx role name) (atom_at ctx name args ∷ (terms_output ctx role n (places_of (kind_in ctx name.text)) args).sites) tt
      (also (atom_at ctx name args) (terms_output ctx role n (places_of (kind_in ctx name.text)) args).sites tt (terms_sites ctx role n (places_of (kind_in ctx name.text)) args))
  formula_sites ctx role force n (comparison a op b) = comparison_sites ctx role n a op b
  formula_sites ctx role force n (negation f) = formula_sites ctx role (negated force) n f
  formula_sites ctx role force n (conjunction fs) = formulas_sites ctx role force n fs
  formula_sites ctx role force n (disjunction fs) = formulas_sites ctx role force n fs
  formula_sites ctx role force n (equivalence fs) = formulas_sites ctx role (within_equivalence force) n fs
  formula_sites ctx role force n (implication f g) =
      then_also (formula_output ctx role (negated force) n f).sites (formula_output ctx role force (after_formula n f) g).sites (formula_sites ctx role (negated force) n f) (formula_sites ctx role force (after_formula n f) g)
  formula_sites ctx role force n (quantified universal binders f at) =
      let bound = binders_output ctx (not (is_universal_in force universal)) (at_quantifier n) [] binders in
      let body = formula_output ctx role (within force universal) (entered n binders) f in
      also (quantifier_at role force universal at) (bound.sites ++ body.sites) tt
      (then_also bound.sites body.sites (binders_sites ctx (not (is_universal_in force universal)) (at_quantifier n) [] binders) (formula_sites ctx role (within force universal) (entered n binders) f))

  formulas_sites : (ctx : Context) (role : Role) (force : Force) (n : Naming) (fs : Formulas) → AreWithin (formulas_output ctx role force n fs).sites
  formulas_sites ctx role force n no_formulas = none
  formulas_sites ctx role force n (with_formula f fs) =
      then_also (formula_output ctx role force n f).sites (formulas_output ctx role force (after_formula n f) fs).sites (formula_sites ctx role force n f) (formulas_sites ctx role force (after_formula n f) fs)

sentence_all : (ctx : Context) (role : Role) (f : Formula) → AreWithin (sentence_sites ctx role f)
sentence_all ctx role f =
    let w = whole_of ctx role (after_formula no_variables f) (sentence_output ctx role f) in
    let h = formula_within ctx role outermost no_variables f in
    then_also (sentence_output ctx role f).sites (whole_at w ∷ []) (formula_sites ctx role outermost no_variables f) (one (whole_at w) (record { uses = h.uses; orderings = h.orderings }))

arguments_all : (before ts : List Arg) → AreWithin (arguments_at before ts)
arguments_all before [] = none
arguments_all before (t ∷ ts) = also (argument_at before t) (arguments_at (before ++ t ∷ []) ts) tt (arguments_all (before ++ t ∷ []) ts)

element_all : (ctx : Context) (role : Role) (n : Naming) (type : Name) (f : Formula) → AreWithin (element_output ctx role n type f).sites
element_all ctx role n type (atom name args) =
    also (mention_at ctx role name) (term_at ctx (Some type) name ∷ (terms_output ctx role n [] args).sites) tt (also (term_at ctx (Some type) name) (terms_output ctx role n [] args).sites tt (terms_sites ctx role n [] args))
element_all ctx role n type (truth b) = formula_sites ctx role outermost n (truth b)
element_all ctx role n type (comparison a op b) = formula_sites ctx role outermost n (comparison a op b)
element_all ctx role n type (negation f) = formula_sites ctx role outermost n (negation f)
element_all ctx role n type (conjunction fs) = formula_sites ctx role outermost n (conjunction fs)
element_all ctx role n type (disjunction fs) = formula_sites ctx role outermost n (disjunction fs)
element_all ctx role n type (equivalence fs) = formula_sites ctx role outermost n (equivalence fs)
element_all ctx role n type (implication f g) = formula_sites ctx role outermost n (implication f g)
element_all ctx role n type (quantified universal binders f at) = formula_sites ctx role outermost n (quantified universal binders f at)

right_all : (ctx : Context) (role : Role) (n : Naming) (kind : Kind) (f : Formula) → AreWithin (right_output ctx role n kind f).sites
right_all ctx role n (a_relation arguments) f = formula_sites ctx role outermost n f
right_all ctx role n (an_individual type) f = element_all ctx role n type f
right_all ctx role n (a_local type) f = formula_sites ctx role outermost n f
right_all ctx role n neither f = formula_sites ctx role outermost n f

update_all : (ctx : Context) (name : Name) (args : List Arg) (f : Formula) → AreWithin (update_sites ctx name args f)
update_all ctx name args f =
    let role = update_role args in
    let n = after_terms no_variables args in
    let kind = kind_in ctx name.text in
    let w = whole_of ctx role (after_formula n f) (update_output ctx name args f) in
    let h = update_within ctx name args f in
    let terms = (terms_output ctx role no_variables (places_of kind) args).sites in
    let right = (right_output ctx role n kind f).sites in
    then_also (update_output ctx name args f).sites (whole_at w ∷ [])
    (also (target_at ctx name args f) (arguments_at [] args ++ (terms ++ right)) tt
    (then_also (arguments_at [] args) (terms ++ right) (arguments_all [] args) (then_also terms right (terms_sites ctx role no_variables (places_of kind) args) (right_all ctx role n kind f))))
    (one (whole_at w) (record { uses = h.uses; orderings = h.orderings }))

counted_all : (room : ℕ) (places : List ℕ) → AreWithin (counted_from room places)
counted_all room [] = none
counted_all room (at ∷ places) = also (counted_at room at) (counted_from (room - 1) places) tt (counted_all (room - 1) places)

locals_all : (ctx : Context) (room : ℕ) (bs : List Binder) → AreWithin (locals_sites ctx room bs)
locals_all ctx room [] = none
locals_all ctx room (b ∷ bs) =
    let rest = locals_sites (with_inside ctx (ctx.inside ++ b ∷ [])) (room - 1) bs in
    let type = type_at ctx.declarations (type_of b) in
    also (local_at ctx b.name) (counted_at room b.name.at ∷ type ∷ rest) tt (also (counted_at room b.name.at) (type ∷ rest) tt (also type rest tt (locals_all (with_inside ctx (ctx.inside ++ b ∷ [])) (room - 1) bs)))

mutual
  statement_all : (ctx : Context) (room : Room) (s : Statement) → AreWithin (statement_sites ctx room s)
  statement_all ctx room (requirement f) =
      then_also (sentence_sites ctx as_requirement f) (counted_from room.witnesses (sentence_output ctx as_requirement f).witnesses) (sentence_all ctx as_requirement f) (counted_all room.witnesses (sentence_output ctx as_requirement f).witnesses)
  statement_all ctx room (assignment name args f) = update_all ctx name args f
  statement_all ctx room (conditional f first second) =
      let a = statements_sites ctx room first in
      let b = statements_sites ctx (room_after_each ctx room first) second in
      then_also (sentence_sites ctx (as_value []) f) (a ++ b) (sentence_all ctx (as_value []) f) (then_also a b (statements_all ctx room first) (statements_all ctx (room_after_each ctx room first) second))
  statement_all ctx room (with_locals binders body) =
      let inner = with_inside ctx (ctx.inside ++ binders) in
      let left : Room = record room { locals = room.locals - length binders } in
      then_also (locals_sites ctx room.locals binders) (statements_sites inner left body) (locals_all ctx room.locals binders) (statements_all inner left body)

  statements_all : (ctx : Context) (room : Room) (ss : Statements) → AreWithin (statements_sites ctx room ss)
  statements_all ctx room no_statements = none
  statements_all ctx room (with_statement s ss) = then_also (statement_sites ctx room s) (statements_sites ctx (room_after ctx room s) ss) (statement_all ctx room s) (statements_all ctx (room_after ctx room s) ss)

relation_all : (ds : List Declaration) (room : ℕ) (bs : List Binder) → AreWithin (relation_sites ds room bs)
relation_all ds room [] = none
relation_all ds room (b ∷ bs) =
    let rest = relation_sites ds (room - 1) bs in
    also (counted_at room b.name.at) (type_at ds (type_of b) ∷ rest) tt (also (type_at ds (type_of b)) rest tt (relation_all ds (room - 1) bs))

named_all : (ctx : Context) (locals : List (List ℕ)) (name : Name) (room : ℕ) (rest : List Site) → AreWithin rest → AreWithin (declared_at ctx locals name ∷ counted_at room name.at ∷ rest)
named_all ctx locals name room rest h = also (declared_at ctx locals name) (counted_at room name.at ∷ rest) tt (also (counted_at room name.at) rest tt h)

declaration_all : (ctx : Context) (room : FileRoom) (locals : List (List ℕ)) (d : Declaration) → AreWithin (declaration_sites ctx room locals d)
declaration_all ctx room locals (sort name ordered) = named_all ctx locals name room.sorts [] none
declaration_all ctx room locals (relation name arguments) = named_all ctx locals name room.relations (relation_sites ctx.declarations 5 arguments) (relation_all ctx.declarations 5 arguments)
declaration_all ctx room locals (individual name type) = named_all ctx locals name room.individuals (type_at ctx.declarations type ∷ []) (one (type_at ctx.declarations type) tt)
declaration_all ctx room locals (axiom_of f at) = also (counted_at room.axioms at) (sentence_sites ctx (as_axiom (flat_map assigned_by ctx.declarations)) f) tt (sentence_all ctx (as_axiom (flat_map assigned_by ctx.declarations)) f)
declaration_all ctx room locals (init body) = statements_all ctx room.init body
declaration_all ctx room locals (action name parameters body exported) =
    let a = locals_sites ctx 6 parameters in
    let b = statements_sites (with_inside ctx parameters) block_room body in
    named_all ctx locals name room.actions (a ++ b) (then_also a b (locals_all ctx 6 parameters) (statements_all (with_inside ctx parameters) block_room body))
declaration_all ctx room locals (export name) = one (export_at ctx.declarations name) tt
declaration_all ctx room locals (invariant label f at) = also (counted_at room.invariants at) (sentence_sites ctx as_invariant f) tt (sentence_all ctx as_invariant f)

from_all : (all : List Declaration) (here : ℕ) (room : FileRoom) (locals : List (List ℕ)) (ds : List Declaration) → AreWithin (sites_from all here room locals ds)
from_all all here room locals [] = none
from_all all here room locals (d ∷ ds) =
    then_also (declaration_sites (context_at all here) room locals d) (sites_from all (here + 1) (room_behind (context_at all here) room d) (locals ++ locals_by d) ds)
    (declaration_all (context_at all here) room locals d) (from_all all (here + 1) (room_behind (context_at all here) room d) (locals ++ locals_by d) ds)

pub sites_within : (ds : List Declaration) → AreWithin (sites_of ds)
sites_within ds = from_all ds 0 file_room [] ds
