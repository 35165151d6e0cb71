-- The types that the declarations of a file without faults name are declared.
use Rattle.std.proofs.Common.{◌≡◌, ℕ, ◌+◌, ◌-◌, ◌<◌, Bool, true, false, cond, List, [], ◌∷◌, ◌++◌, length, map, Option, None, Some, ap, sym, refl, subst}
use Rattle.std.specs.Prelude.{find}
use Rattle.std.specs.List.{All, AllByRecursion, filter_map, enumerate_from, cons_option}
use Rattle.std.proofs.lemmas.List.Elements.{All-nil, All-cons}
use Rattle.dai_syntax.specs.declared.tree.Binder.{Binder}
use Rattle.dai_syntax.specs.Tree.{Statement, requirement, assignment, conditional, with_locals, Statements, no_statements, with_statement, Declaration, sort, relation, individual, axiom_of, init, action, export, invariant}
use Rattle.dai_model.specs.Protocol.{Protocol, Relation, Individual}
use Rattle.dai_rules.specs.Names.{Context, with_inside, type_of, declares, first_declaration}
use Rattle.dai_rules.specs.Sites.{local_at, declared_at, counted_at, type_at, as_value, sentence_sites, locals_sites, relation_sites, Room, FileRoom, block_room, file_room, room_after, room_after_each, room_behind, statement_sites, statements_sites, declaration_sites, locals_by, context_at, sites_from}
use Rattle.dai_rules.specs.Faults.{IsFaultless}
use Rattle.dai_rules.proofs.Members.{in_head}
use Rattle.dai_sorts.specs.Scopes.{binder_type, type_number}
use Rattle.dai_sorts.specs.Statements.{locals_of, locals_in}
use Rattle.dai_sorts.specs.Protocols.{Placed, init_in, action_in, all_in, WrittenAction, declared_relation, declared_individual, IsProtocolOf}
use Rattle.dai_sorts.specs.Sound.{AreUnbroken}
use Rattle.dai_sorts.proofs.OneProtocolSound.{sound_statements}
use Rattle.dai_sorts.proofs.SortedNames.{relation_found, individual_found}
use Rattle.dai_sorts.proofs.SortedTerms.{IsType, IsFile, type_below}
use Rattle.dai_sorts.proofs.SortedUses.{AreTypesOf, type_declared}
use Rattle.dai_sorts.proofs.SortedBlocks.{types_below_all, IsTypedAction, IsTypedInit}
use Rattle.dai_sorts.proofs.Unbroken.{unbroken_left, unbroken_right, unbroken_tail, faultless_unbroken}

types_append : (ds : List Declaration) (a b : List Binder) → AreTypesOf ds a → AreTypesOf ds b → AreTypesOf ds (a ++ b)
types_append ds [] b h k = k
types_append ds (x ∷ a) b h k = (h.0, types_append ds a b h.1 k)

-- parameters and locals
locals_typed : (ctx : Context) (room : ℕ) (bs : List Binder) → AreUnbroken (locals_sites ctx room bs) → AreTypesOf ctx.declarations bs
locals_typed ctx room [] u = tt
locals_typed ctx room (b ∷ bs) u =
    let rest = locals_sites (with_inside ctx (ctx.inside ++ b ∷ [])) (room - 1) bs in
    let type = type_at ctx.declarations (type_of b) in
    let on_type = unbroken_tail (counted_at room b.name.at) (type ∷ rest) (unbroken_tail (local_at ctx b.name) (counted_at room b.name.at ∷ type ∷ rest) u) in
    (type_declared ctx.declarations (type_of b) (type ∷ rest) on_type (in_head type rest), locals_typed (with_inside ctx (ctx.inside ++ b ∷ [])) (room - 1) bs (unbroken_tail type rest on_type))

mutual
  statement_typed : (ctx : Context) (room : Room) (s : Statement) → AreUnbroken (statement_sites ctx room s) → AreTypesOf ctx.declarations (locals_of s)
  statement_typed ctx room (requirement f) u = tt
  statement_typed ctx room (assignment name args f) u = tt
  statement_typed ctx room (conditional f first second) u =
      let condition = sentence_sites ctx (as_value []) f in
      let one = statements_sites ctx room first in
      let two = statements_sites ctx (room_after_each ctx room first) second in
      let rest = unbroken_right condition (one ++ two) u in
      types_append ctx.declarations (locals_in first) (locals_in second) (statements_typed ctx room first (unbroken_left one two rest)) (statements_typed ctx (room_after_each ctx room first) second (unbroken_right one two rest))
  statement_typed ctx room (with_locals binders body) u =
      let inside = with_inside ctx (ctx.inside ++ binders) in
      let left : Room = record room { locals = room.locals - length binders } in
      let one = locals_sites ctx room.locals binders in
      let two = statements_sites inside left body in
      types_append ctx.declarations binders (locals_in body) (locals_typed ctx room.locals binders (unbroken_left one two u)) (statements_typed inside left body (unbroken_right one two u))

  statements_typed : (ctx : Context) (room : Room) (ss : Statements) → AreUnbroken (statements_sites ctx room ss) → AreTypesOf ctx.declarations (locals_in ss)
  statements_typed ctx room no_statements u = tt
  statements_typed ctx room (with_statement s ss) u =
      let one = statement_sites ctx room s in
      let two = statements_sites ctx (room_after ctx room s) ss in
      types_append ctx.declarations (locals_of s) (locals_in ss) (statement_typed ctx room s (unbroken_left one two u)) (statements_typed ctx (room_after ctx room s) ss (unbroken_right one two u))

-- declarations
relation_typed : (ds : List Declaration) (room : ℕ) (bs : List Binder) → AreUnbroken (relation_sites ds room bs) → AreTypesOf ds bs
relation_typed ds room [] u = tt
relation_typed ds room (b ∷ bs) u =
    let rest = relation_sites ds (room - 1) bs in
    let type = type_at ds (type_of b) in
    let on_type = unbroken_tail (counted_at room b.name.at) (type ∷ rest) u in
    (type_declared ds (type_of b) (type ∷ rest) on_type (in_head type rest), relation_typed ds (room - 1) bs (unbroken_tail type rest on_type))

abbrev pub IsTypedDeclaration : List Declaration → Declaration → Type 0
IsTypedDeclaration all (sort name ordered) = Unit {0}
IsTypedDeclaration all (relation name arguments) = AreTypesOf all arguments
IsTypedDeclaration all (individual name type) = IsType all type.text
IsTypedDeclaration all (axiom_of f at) = Unit {0}
IsTypedDeclaration all (init body) = Unit {0}
IsTypedDeclaration all (action name parameters body exported) = Unit {0}
IsTypedDeclaration all (export name) = Unit {0}
IsTypedDeclaration all (invariant label f at) = Unit {0}

declaration_typed : (all : List Declaration) (here : ℕ) (room : FileRoom) (locals : List (List ℕ)) (d : Declaration) → AreUnbroken (declaration_sites (context_at all here) room locals d) → IsTypedDeclaration all d
declaration_typed all here room locals (sort name ordered) u = tt
declaration_typed all here room locals (relation name arguments) u =
    let rest = relation_sites all 5 arguments in
    relation_typed all 5 arguments (unbroken_tail (counted_at room.relations name.at) rest (unbroken_tail (declared_at (context_at all here) locals name) (counted_at room.relations name.at ∷ rest) u))
declaration_typed all here room locals (individual name type) u =
    let rest = type_at all type ∷ [] in
    type_declared all type rest (unbroken_tail (counted_at room.individuals name.at) rest (unbroken_tail (declared_at (context_at all here) locals name) (counted_at room.individuals name.at ∷ rest) u)) (in_head (type_at all type) [])
declaration_typed all here room locals (axiom_of f at) u = tt
declaration_typed all here room locals (init body) u = tt
declaration_typed all here room locals (action name parameters body exported) u = tt
declaration_typed all here room locals (export name) u = tt
declaration_typed all here room locals (invariant label f at) u = tt

from_typed : (all : List Declaration) (here : ℕ) (room : FileRoom) (locals : List (List ℕ)) (ds : List Declaration) → AreUnbroken (sites_from all here room locals ds) → AllByRecursion (IsTypedDeclaration all) ds
from_typed all here room locals [] u = tt
from_typed all here room locals (d ∷ ds) u =
    let ctx = context_at all here in
    let own = declaration_sites ctx room locals d in
    let rest = sites_from all (here + 1) (room_behind ctx room d) (locals ++ locals_by d) ds in
    (declaration_typed all here room locals d (unbroken_left own rest u), from_typed all (here + 1) (room_behind ctx room d) (locals ++ locals_by d) ds (unbroken_right own rest u))

pub declarations_typed : (ds : List Declaration) → IsFaultless ds → AllByRecursion (IsTypedDeclaration ds) ds
declarations_typed ds h = from_typed ds 0 file_room [] ds (faultless_unbroken ds h)

find_by : (Good : Declaration → Type 0) (p : Declaration → Bool) (e : Declaration) (ds : List Declaration) (d : Declaration) (b : Bool) → Good e → cond b (Some e) (find p ds) ≡ Some d → (find p ds ≡ Some d → Good d) → Good d
find_by Good p e ds d true good h further = let same : e ≡ d = cc in subst Good same good
find_by Good p e ds d false good h further = further h

find_good : (Good : Declaration → Type 0) (p : Declaration → Bool) (ds : List Declaration) (d : Declaration) → AllByRecursion Good ds → find p ds ≡ Some d → Good d
find_good Good p [] d good h = absurd (let z : ⊥ = cc in z)
find_good Good p (e ∷ ds) d good h = find_by Good p e ds d (p e) good.0 h (find_good Good p ds d good.1)

pub is_file : (ds : List Declaration) (P : Protocol) → IsFaultless ds → IsProtocolOf ds P → IsFile ds P
is_file ds P faultless is =
    let good = declarations_typed ds faultless in
    record {
      types = is.sorts;
      relations = is.relations;
      individuals = is.individuals;
      places = λ x places e. let d = relation_found (first_declaration ds x) places e in find_good (IsTypedDeclaration ds) (declares x) ds (relation d.0 places) good d.1;
      elements = λ x type e. let d = individual_found (first_declaration ds x) type e in find_good (IsTypedDeclaration ds) (declares x) ds (individual d.0 type) good d.1;
    }

-- relations and individuals
all_given : {Y : Type 0} (Q : Y → Type 0) (o : Option Y) (ys : List Y) → ((y : Y) → o ≡ Some y → Q y) → All Q ys → All Q (cons_option o ys)
all_given Q None ys one rest = rest
all_given Q (Some y) ys one rest = All-cons Q y ys (one y refl) rest

module _ (all : List Declaration) (P : Protocol) (file : IsFile all P) where
  relation_below : (d : Declaration) (R : Relation) → IsTypedDeclaration all d → declared_relation all d ≡ Some R → All (λ sort. sort < length P.sorts) R.arguments
  relation_below (relation name arguments) R h e =
      let k : record { name = name.text; arguments = map (binder_type all) arguments } ≡ R = cc in
      types_below_all all P arguments R.arguments file h (sym (ap (λ (R : Relation). R.arguments) k))
  relation_below (sort name ordered) R h e = absurd (let z : ⊥ = cc in z)
  relation_below (individual name type) R h e = absurd (let z : ⊥ = cc in z)
  relation_below (axiom_of f at) R h e = absurd (let z : ⊥ = cc in z)
  relation_below (init body) R h e = absurd (let z : ⊥ = cc in z)
  relation_below (action name parameters body exported) R h e = absurd (let z : ⊥ = cc in z)
  relation_below (export name) R h e = absurd (let z : ⊥ = cc in z)
  relation_below (invariant label f at) R h e = absurd (let z : ⊥ = cc in z)

  pub relations_below : (ds : List Declaration) → AllByRecursion (IsTypedDeclaration all) ds → All (λ (R : Relation). All (λ sort. sort < length P.sorts) R.arguments) (filter_map (declared_relation all) ds)
  relations_below [] h = All-nil (λ (R : Relation). All (λ sort. sort < length P.sorts) R.arguments)
  relations_below (d ∷ ds) h = all_given (λ (R : Relation). All (λ sort. sort < length P.sorts) R.arguments) (declared_relation all d) (filter_map (declared_relation all) ds) (λ R e. relation_below d R h.0 e) (relations_below ds h.1)

  individual_below : (d : Declaration) (I : Individual) → IsTypedDeclaration all d → declared_individual all d ≡ Some I → I.sort < length P.sorts
  individual_below (individual name type) I h e =
      let k : record { name = name.text; sort = type_number all type.text } ≡ I = cc in
      subst (λ sort. sort < length P.sorts) (ap (λ (I : Individual). I.sort) k) (type_below all P type.text file h)
  individual_below (sort name ordered) I h e = absurd (let z : ⊥ = cc in z)
  individual_below (relation name arguments) I h e = absurd (let z : ⊥ = cc in z)
  individual_below (axiom_of f at) I h e = absurd (let z : ⊥ = cc in z)
  individual_below (init body) I h e = absurd (let z : ⊥ = cc in z)
  individual_below (action name parameters body exported) I h e = absurd (let z : ⊥ = cc in z)
  individual_below (export name) I h e = absurd (let z : ⊥ = cc in z)
  individual_below (invariant label f at) I h e = absurd (let z : ⊥ = cc in z)

  pub individuals_below : (ds : List Declaration) → AllByRecursion (IsTypedDeclaration all) ds → All (λ (I : Individual). I.sort < length P.sorts) (filter_map (declared_individual all) ds)
  individuals_below [] h = All-nil (λ (I : Individual). I.sort < length P.sorts)
  individuals_below (d ∷ ds) h = all_given (λ (I : Individual). I.sort < length P.sorts) (declared_individual all d) (filter_map (declared_individual all) ds) (λ I e. individual_below d I h.0 e) (individuals_below ds h.1)

-- init code and actions
abbrev GivesTyped : {X : Type 0} → (ℕ × Declaration → Option (Placed X)) → (Placed X → Type 0) → List Declaration → Type 0
GivesTyped {X} one Good all = (here : ℕ) (d : Declaration) (room : FileRoom) (locals : List (List ℕ)) (p : Placed X) → AreUnbroken (declaration_sites (context_at all here) room locals d) → one (here, d) ≡ Some p → Good p

typed_init : (all : List Declaration) → GivesTyped init_in (IsTypedInit all) all
typed_init all here (init body) room locals p h e =
    let k : record { here = here; written = body } ≡ p = cc in
    subst (IsTypedInit all) k (record { locals = statements_typed (context_at all here) room.init body h; sound = sound_statements (context_at all here) room.init body h })
typed_init all here (sort name ordered) room locals p h e = absurd (let z : ⊥ = cc in z)
typed_init all here (relation name arguments) room locals p h e = absurd (let z : ⊥ = cc in z)
typed_init all here (individual name type) room locals p h e = absurd (let z : ⊥ = cc in z)
typed_init all here (axiom_of f at) room locals p h e = absurd (let z : ⊥ = cc in z)
typed_init all here (action name parameters body exported) room locals p h e = absurd (let z : ⊥ = cc in z)
typed_init all here (export name) room locals p h e = absurd (let z : ⊥ = cc in z)
typed_init all here (invariant label f at) room locals p h e = absurd (let z : ⊥ = cc in z)

typed_action : (all : List Declaration) → GivesTyped action_in (IsTypedAction all) all
typed_action all here (action name parameters body exported) room locals p h e =
    let ctx = context_at all here in
    let own = locals_sites ctx 6 parameters in
    let code = statements_sites (with_inside ctx parameters) block_room body in
    let written : WrittenAction = record { name = name; parameters = parameters; body = body } in
    let k : record { here = here; written = written } ≡ p = cc in
    let rest = unbroken_tail (counted_at room.actions name.at) (own ++ code) (unbroken_tail (declared_at ctx locals name) (counted_at room.actions name.at ∷ (own ++ code)) h) in
    let on_code = unbroken_right own code rest in
    subst (IsTypedAction all) k
    (record {
      parameters = locals_typed ctx 6 parameters (unbroken_left own code rest);
      locals = statements_typed (with_inside ctx parameters) block_room body on_code;
      sound = sound_statements (with_inside ctx parameters) block_room body on_code;
    })
typed_action all here (sort name ordered) room locals p h e = absurd (let z : ⊥ = cc in z)
typed_action all here (relation name arguments) room locals p h e = absurd (let z : ⊥ = cc in z)
typed_action all here (individual name type) room locals p h e = absurd (let z : ⊥ = cc in z)
typed_action all here (axiom_of f at) room locals p h e = absurd (let z : ⊥ = cc in z)
typed_action all here (init body) room locals p h e = absurd (let z : ⊥ = cc in z)
typed_action all here (export name) room locals p h e = absurd (let z : ⊥ = cc in z)
typed_action all here (invariant label f at) room locals p h e = absurd (let z : ⊥ = cc in z)

typed_cons : {Y : Type 0} (Good : Y → Type 0) (o : Option Y) (ys : List Y) → ((y : Y) → o ≡ Some y → Good y) → AllByRecursion Good ys → AllByRecursion Good (cons_option o ys)
typed_cons Good None ys one rest = rest
typed_cons Good (Some y) ys one rest = (one y refl, rest)

typed_from : {X : Type 0} (one : ℕ × Declaration → Option (Placed X)) (Good : Placed X → Type 0) (all : List Declaration) → GivesTyped one Good all
    → (here : ℕ) (room : FileRoom) (locals : List (List ℕ)) (ds : List Declaration) → AreUnbroken (sites_from all here room locals ds) → AllByRecursion Good (filter_map one (enumerate_from here ds))
typed_from one Good all gives here room locals [] h = tt
typed_from one Good all gives here room locals (d ∷ ds) h =
    let ctx = context_at all here in
    let rest = sites_from all (here + 1) (room_behind ctx room d) (locals ++ locals_by d) ds in
    typed_cons Good (one (here, d)) (filter_map one (enumerate_from (here + 1) ds))
    (λ p e. gives here d room locals p (unbroken_left (declaration_sites ctx room locals d) rest h) e)
    (typed_from one Good all gives (here + 1) (room_behind ctx room d) (locals ++ locals_by d) ds (unbroken_right (declaration_sites ctx room locals d) rest h))

pub typed_inits : (ds : List Declaration) → IsFaultless ds → AllByRecursion (IsTypedInit ds) (all_in init_in ds)
typed_inits ds h = typed_from init_in (IsTypedInit ds) ds (typed_init ds) 0 file_room [] ds (faultless_unbroken ds h)

pub typed_actions : (ds : List Declaration) → IsFaultless ds → AllByRecursion (IsTypedAction ds) (all_in action_in ds)
typed_actions ds h = typed_from action_in (IsTypedAction ds) ds (typed_action ds) 0 file_room [] ds (faultless_unbroken ds h)
