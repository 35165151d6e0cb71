-- A file without faults declares few things of each kind, each name once, and its blocks have room.
use Rattle.std.proofs.Common.{◌≡◌, ℕ, ◌+◌, ◌-◌, ◌≤◌, ◌<◌, Bool, true, false, cond, List, [], ◌∷◌, ◌++◌, length, map, Some, ap, ◌∙◌, refl, subst, arith, rules, length-append}
use Rattle.std.specs.Prelude.{◌||◌, nat_lt}
use Rattle.std.specs.Option.{option_map_or}
use Rattle.std.specs.List.{AllByRecursion, Contains, filter_map, enumerate_from, cons_option, position_from, flat_map}
use Rattle.std.proofs.lemmas.List.{length-map}
use Rattle.std.proofs.lemmas.Slice.Eq.{bytes_eq-Decides}
use Rattle.dai_model.specs.Formula as Model
use Rattle.dai_model.specs.Protocol.{Sort, Relation, Individual}
use Rattle.dai_syntax.specs.declared.tree.Name.{Name}
use Rattle.dai_syntax.specs.declared.tree.Binder.{Binder}
use Rattle.dai_syntax.specs.Tree.{Statements, Declaration, sort, relation, individual, axiom_of, init, action, export, invariant}
use Rattle.dai_rules.specs.Names.{with_inside, same_text, is_among, declares, first_place}
use Rattle.dai_rules.specs.Sites.{Site, declared_at, counted_at, FileRoom, block_room, file_room, relation_sites, locals_sites, statements_sites, room_after_each, room_behind, context_at, declaration_sites, sites_from, sites_of, locals_by, type_at, as_axiom, as_invariant, assigned_by, sentence_sites}
use Rattle.dai_rules.specs.Rules.{is_declared_before, at_if, breaks_21}
use Rattle.dai_rules.proofs.Members.{in_head}
use Rattle.dai_sorts.specs.Scopes.{binder_type, type_number, scope_at}
use Rattle.dai_sorts.specs.Statements.{locals_in, joined}
use Rattle.dai_sorts.specs.Protocols.{Placed, declared_type, declared_relation, declared_individual, axiom_in, init_in, action_in, invariant_in, init_locals, all_in, WrittenAction, written_action, Initiate}
use Rattle.dai_sorts.specs.Sound.{AreUnbroken}
use Rattle.dai_sorts.proofs.ProfileRooms.{is_room, locals_room, relation_room, statements_room}
use Rattle.dai_sorts.proofs.ProfileVariables.{weigh, bit, ones}
use Rattle.dai_sorts.proofs.ProfileWitnesses.{needs, needs_joined, statements_needs}
use Rattle.dai_sorts.proofs.Unbroken.{unbroken_left, unbroken_right, unbroken_tail, unbroken_behind}

abbrev init_count : ℕ → List Declaration → ℕ
init_count here ds = length (init_locals (filter_map init_in (enumerate_from here ds)))

module _ (all : List Declaration) where
  -- so few of each kind come
  pub record Fits (here : ℕ) (room : FileRoom) (ds : List Declaration) : Type 0 where
    pub sorts : length (filter_map declared_type ds) ≤ room.sorts
    pub relations : length (filter_map (declared_relation all) ds) ≤ room.relations
    pub individuals : length (filter_map (declared_individual all) ds) ≤ room.individuals
    pub axioms : length (filter_map axiom_in (enumerate_from here ds)) ≤ room.axioms
    pub actions : length (filter_map action_in (enumerate_from here ds)) ≤ room.actions
    pub invariants : length (filter_map invariant_in (enumerate_from here ds)) ≤ room.invariants

  abbrev action_sites : ℕ → List Binder → Statements → List Site
  action_sites here parameters body = locals_sites (context_at all here) 6 parameters ++ statements_sites (with_inside (context_at all here) parameters) block_room body

  longer : {X : Type 0} (x : X) (xs : List X) (room : ℕ) → 0 < room → length xs ≤ room - 1 → length (x ∷ xs) ≤ room
  longer x xs room h k = omega arith

  fits_one : (here : ℕ) (room : FileRoom) (locals : List (List ℕ)) (d : Declaration) (ds : List Declaration) → AreUnbroken (declaration_sites (context_at all here) room locals d) → Fits (here + 1) (room_behind (context_at all here) room d) ds → Fits here room (d ∷ ds)
  fits_one here room locals (sort name ordered) ds u h = record {
    sorts = longer (record { name = name.text; ordered = ordered }) (filter_map declared_type ds) room.sorts (is_room room.sorts name.at [] (unbroken_tail (declared_at (context_at all here) locals name) (counted_at room.sorts name.at ∷ []) u)) h.sorts;
    relations = h.relations;
    individuals = h.individuals;
    axioms = h.axioms;
    actions = h.actions;
    invariants = h.invariants;
  }
  fits_one here room locals (relation name arguments) ds u h = record {
    sorts = h.sorts;
    relations = longer (record { name = name.text; arguments = map (binder_type all) arguments }) (filter_map (declared_relation all) ds) room.relations (is_room room.relations name.at (relation_sites all 5 arguments) (unbroken_tail (declared_at (context_at all here) locals name) (counted_at room.relations name.at ∷ relation_sites all 5 arguments) u)) h.relations;
    individuals = h.individuals;
    axioms = h.axioms;
    actions = h.actions;
    invariants = h.invariants;
  }
  fits_one here room locals (individual name type) ds u h = record {
    sorts = h.sorts;
    relations = h.relations;
    individuals = longer (record { name = name.text; sort = type_number all type.text }) (filter_map (declared_individual all) ds) room.individuals (is_room room.individuals name.at (type_at all type ∷ []) (unbroken_tail (declared_at (context_at all here) locals name) (counted_at room.individuals name.at ∷ type_at all type ∷ []) u)) h.individuals;
    axioms = h.axioms;
    actions = h.actions;
    invariants = h.invariants;
  }
  fits_one here room locals (axiom_of f at) ds u h = record {
    sorts = h.sorts;
    relations = h.relations;
    individuals = h.individuals;
    axioms = longer (record { here = here; written = f }) (filter_map axiom_in (enumerate_from (here + 1) ds)) room.axioms (is_room room.axioms at (sentence_sites (context_at all here) (as_axiom (flat_map assigned_by all)) f) u) h.axioms;
    actions = h.actions;
    invariants = h.invariants;
  }
  fits_one here room locals (init body) ds u h = record { sorts = h.sorts; relations = h.relations; individuals = h.individuals; axioms = h.axioms; actions = h.actions; invariants = h.invariants }
  fits_one here room locals (action name parameters body exported) ds u h = record {
    sorts = h.sorts;
    relations = h.relations;
    individuals = h.individuals;
    axioms = h.axioms;
    actions = longer (written_action here name parameters body) (filter_map action_in (enumerate_from (here + 1) ds)) room.actions (is_room room.actions name.at (action_sites here parameters body) (unbroken_tail (declared_at (context_at all here) locals name) (counted_at room.actions name.at ∷ action_sites here parameters body) u)) h.actions;
    invariants = h.invariants;
  }
  fits_one here room locals (export name) ds u h = record { sorts = h.sorts; relations = h.relations; individuals = h.individuals; axioms = h.axioms; actions = h.actions; invariants = h.invariants }
  fits_one here room locals (invariant label f at) ds u h = record {
    sorts = h.sorts;
    relations = h.relations;
    individuals = h.individuals;
    axioms = h.axioms;
    actions = h.actions;
    invariants = longer (record { here = here; written = record { label = label; body = f } }) (filter_map invariant_in (enumerate_from (here + 1) ds)) room.invariants (is_room room.invariants at (sentence_sites (context_at all here) as_invariant f) u) h.invariants;
  }

  fits_from : (here : ℕ) (room : FileRoom) (locals : List (List ℕ)) (ds : List Declaration) → AreUnbroken (sites_from all here room locals ds) → Fits here room ds
  fits_from here room locals [] u = record { sorts = omega arith; relations = omega arith; individuals = omega arith; axioms = omega arith; actions = omega arith; invariants = omega arith }
  fits_from here room locals (d ∷ ds) u =
      let own = declaration_sites (context_at all here) room locals d in
      let next = sites_from all (here + 1) (room_behind (context_at all here) room d) (locals ++ locals_by d) ds in
      fits_one here room locals d ds (unbroken_left own next u) (fits_from (here + 1) (room_behind (context_at all here) room d) (locals ++ locals_by d) ds (unbroken_right own next u))

  -- the arguments of relations
  abbrev pub HasFewArguments : Relation → Type 0
  HasFewArguments R = length R.arguments ≤ 5

  arguments_one : (here : ℕ) (room : FileRoom) (locals : List (List ℕ)) (d : Declaration) (Rs : List Relation) → AreUnbroken (declaration_sites (context_at all here) room locals d) → AllByRecursion HasFewArguments Rs
      → AllByRecursion HasFewArguments (cons_option (declared_relation all d) Rs)
  arguments_one here room locals (sort name ordered) Rs u h = h
  arguments_one here room locals (relation name arguments) Rs u h =
      let few = relation_room all 5 arguments (unbroken_behind (declared_at (context_at all here) locals name) (counted_at room.relations name.at) (relation_sites all 5 arguments) u) in
      let same = length-map arguments (binder_type all) in
      (omega arith, h)
  arguments_one here room locals (individual name type) Rs u h = h
  arguments_one here room locals (axiom_of f at) Rs u h = h
  arguments_one here room locals (init body) Rs u h = h
  arguments_one here room locals (action name parameters body exported) Rs u h = h
  arguments_one here room locals (export name) Rs u h = h
  arguments_one here room locals (invariant label f at) Rs u h = h

  few_arguments_from : (here : ℕ) (room : FileRoom) (locals : List (List ℕ)) (ds : List Declaration) → AreUnbroken (sites_from all here room locals ds) → AllByRecursion HasFewArguments (filter_map (declared_relation all) ds)
  few_arguments_from here room locals [] u = tt
  few_arguments_from here room locals (d ∷ ds) u =
      let own = declaration_sites (context_at all here) room locals d in
      let next = sites_from all (here + 1) (room_behind (context_at all here) room d) (locals ++ locals_by d) ds in
      arguments_one here room locals d (filter_map (declared_relation all) ds) (unbroken_left own next u) (few_arguments_from (here + 1) (room_behind (context_at all here) room d) (locals ++ locals_by d) ds (unbroken_right own next u))

  -- the names of the parts
  abbrev pub sort_names : List Declaration → List (List ℕ)
  sort_names ds = map (λ (T : Sort). T.name) (filter_map declared_type ds)

  abbrev pub relation_names : List Declaration → List (List ℕ)
  relation_names ds = map (λ (R : Relation). R.name) (filter_map (declared_relation all) ds)

  abbrev pub individual_names : List Declaration → List (List ℕ)
  individual_names ds = map (λ (I : Individual). I.name) (filter_map (declared_individual all) ds)

  abbrev pub action_names : ℕ → List Declaration → List (List ℕ)
  action_names here ds = map (λ (p : Placed WrittenAction). p.written.name.text) (filter_map action_in (enumerate_from here ds))

  -- no name is declared twice
  module _ (x : List ℕ) where
    abbrev declared_times : List Declaration → ℕ
    declared_times ds = weigh (λ d. bit (declares x d)) ds

    or_first : (a b : Bool) → a ≡ true → (a || b) ≡ true
    or_first true b e = refl
    or_first false b e = absurd (let k : ⊥ = cc in k)

    in_at_if : (b : Bool) (at : ℕ) → b ≡ true → Contains (at_if b at) at
    in_at_if true at e = in_head at []
    in_at_if false at e = absurd (let k : ⊥ = cc in k)

    below : (p here : ℕ) → p < here → nat_lt p here ≡ true
    below p here h = search rules

    twice : (here p : ℕ) (locals : List (List ℕ)) (name : Name) (rest : List Site) → AreUnbroken (declared_at (context_at all here) locals name ∷ rest) → first_place all x ≡ Some p → p < here → same_text x name.text ≡ true → ⊥
    twice here p locals name rest u first h e =
        let ctx = context_at all here in
        let same : x ≡ name.text = (bytes_eq-Decides x name.text).0 e in
        let place : first_place all name.text ≡ Some p = subst (λ y. first_place all y ≡ Some p) same first in
        let before : is_declared_before ctx name.text ≡ true = ap (λ o. option_map_or (λ (i : ℕ). nat_lt i here) o false) place ∙ below p here h in
        u (declared_at ctx locals name) (in_head (declared_at ctx locals name) rest) 21 name.at (breaks_21 refl (in_at_if (is_declared_before ctx name.text || is_among name.text locals) name.at (or_first (is_declared_before ctx name.text) (is_among name.text locals) before)))

    not_again : (here p : ℕ) (room : FileRoom) (locals : List (List ℕ)) (d : Declaration) → AreUnbroken (declaration_sites (context_at all here) room locals d) → first_place all x ≡ Some p → p < here → declares x d ≡ true → ⊥
    not_again here p room locals (sort name ordered) u first h e = twice here p locals name (counted_at room.sorts name.at ∷ []) u first h e
    not_again here p room locals (relation name arguments) u first h e = twice here p locals name (counted_at room.relations name.at ∷ relation_sites all 5 arguments) u first h e
    not_again here p room locals (individual name type) u first h e = twice here p locals name (counted_at room.individuals name.at ∷ type_at all type ∷ []) u first h e
    not_again here p room locals (axiom_of f at) u first h e = let k : ⊥ = cc in k
    not_again here p room locals (init body) u first h e = let k : ⊥ = cc in k
    not_again here p room locals (action name parameters body exported) u first h e = twice here p locals name (counted_at room.actions name.at ∷ action_sites here parameters body) u first h e
    not_again here p room locals (export name) u first h e = let k : ⊥ = cc in k
    not_again here p room locals (invariant label f at) u first h e = let k : ⊥ = cc in k

    must_be_false : (b : Bool) → (b ≡ true → ⊥) → b ≡ false
    must_be_false true h = absurd (h refl)
    must_be_false false h = refl

    none_behind : (here p : ℕ) (room : FileRoom) (locals : List (List ℕ)) (ds : List Declaration) → AreUnbroken (sites_from all here room locals ds) → first_place all x ≡ Some p → p < here → declared_times ds ≡ 0
    none_behind here p room locals [] u first h = refl
    none_behind here p room locals (d ∷ ds) u first h =
        let own = declaration_sites (context_at all here) room locals d in
        let next = sites_from all (here + 1) (room_behind (context_at all here) room d) (locals ++ locals_by d) ds in
        let e = must_be_false (declares x d) (not_again here p room locals d (unbroken_left own next u) first h) in
        let none : bit (declares x d) ≡ 0 = ap bit e in
        let rest : declared_times ds ≡ 0 = none_behind (here + 1) p (room_behind (context_at all here) room d) (locals ++ locals_by d) ds (unbroken_right own next u) first (omega arith) in
        let goal : bit (declares x d) + declared_times ds ≡ 0 = omega arith in
        goal

    once_by : (here : ℕ) (d : Declaration) (ds : List Declaration) (b : Bool) → declares x d ≡ b → first_place all x ≡ cond b (Some here) (position_from (declares x) (here + 1) ds)
        → (first_place all x ≡ Some here → declared_times ds ≡ 0) → (first_place all x ≡ position_from (declares x) (here + 1) ds → declared_times ds ≤ 1) → bit (declares x d) + declared_times ds ≤ 1
    once_by here d ds true e first none further =
        let k = none first in
        let one : bit (declares x d) ≡ 1 = ap bit e in
        omega arith
    once_by here d ds false e first none further =
        let k = further first in
        let zero_here : bit (declares x d) ≡ 0 = ap bit e in
        omega arith

    once_from : (here : ℕ) (room : FileRoom) (locals : List (List ℕ)) (ds : List Declaration) → AreUnbroken (sites_from all here room locals ds) → first_place all x ≡ position_from (declares x) here ds → declared_times ds ≤ 1
    once_from here room locals [] u first = omega arith
    once_from here room locals (d ∷ ds) u first =
        let own = declaration_sites (context_at all here) room locals d in
        let next = sites_from all (here + 1) (room_behind (context_at all here) room d) (locals ++ locals_by d) ds in
        let rest = unbroken_right own next u in
        once_by here d ds (declares x d) refl first
        (λ place. none_behind (here + 1) here (room_behind (context_at all here) room d) (locals ++ locals_by d) ds rest place (omega arith))
        (λ place. once_from (here + 1) (room_behind (context_at all here) room d) (locals ++ locals_by d) ds rest place)

    -- the names of the parts are those that are declared
    abbrev times : List (List ℕ) → ℕ
    times names = weigh (ones same_text x) names

    abbrev parts_times : ℕ → List Declaration → ℕ
    parts_times here ds = times (sort_names ds) + times (relation_names ds) + times (individual_names ds) + times (action_names here ds)

    times_one : (here : ℕ) (d : Declaration) (ds : List Declaration) → parts_times here (d ∷ ds) ≡ bit (declares x d) + parts_times (here + 1) ds
    times_one here (sort name ordered) ds = omega arith
    times_one here (relation name arguments) ds = omega arith
    times_one here (individual name type) ds = omega arith
    times_one here (axiom_of f at) ds = omega arith
    times_one here (init body) ds = omega arith
    times_one here (action name parameters body exported) ds = omega arith
    times_one here (export name) ds = omega arith
    times_one here (invariant label f at) ds = omega arith

    times_all : (here : ℕ) (ds : List Declaration) → parts_times here ds ≡ declared_times ds
    times_all here [] = refl
    times_all here (d ∷ ds) =
        let one = times_one here d ds in
        let rest = times_all (here + 1) ds in
        let goal : parts_times here (d ∷ ds) ≡ bit (declares x d) + declared_times ds = omega arith in
        goal

    pub names_once : AreUnbroken (sites_of all) → weigh (ones same_text x) (sort_names all) + weigh (ones same_text x) (relation_names all) + weigh (ones same_text x) (individual_names all) + weigh (ones same_text x) (action_names 0 all) ≤ 1
    names_once u =
        let same = times_all 0 all in
        let once = once_from 0 file_room [] all u refl in
        omega arith

  -- all init code together has room
  init_one : (here : ℕ) (room : FileRoom) (locals : List (List ℕ)) (d : Declaration) (ds : List Declaration) → AreUnbroken (declaration_sites (context_at all here) room locals d)
      → ((next : ℕ) (cs : Model.Statements) → Initiate all next (filter_map init_in (enumerate_from (here + 1) ds)) cs → (init_count (here + 1) ds ≤ (room_behind (context_at all here) room d).init.locals) × (needs cs ≤ (room_behind (context_at all here) room d).init.witnesses))
      → (next : ℕ) (cs : Model.Statements) → Initiate all next (filter_map init_in (enumerate_from here (d ∷ ds))) cs → (init_count here (d ∷ ds) ≤ room.init.locals) × (needs cs ≤ room.init.witnesses)
  init_one here room locals (sort name ordered) ds u rest next cs h = rest next cs h
  init_one here room locals (relation name arguments) ds u rest next cs h = rest next cs h
  init_one here room locals (individual name type) ds u rest next cs h = rest next cs h
  init_one here room locals (axiom_of f at) ds u rest next cs h = rest next cs h
  init_one here room locals (init body) ds u rest next cs h =
      let ctx = context_at all here in
      let own = statements_room ctx room.init body u in
      let both = length-append (locals_in body) (init_locals (filter_map init_in (enumerate_from (here + 1) ds))) in
      let code : needs h.0 + (room_after_each ctx room.init body).witnesses ≤ room.init.witnesses = statements_needs (scope_at all here) room.init next body h.0 u h.2 in
      let later = rest (next + length (locals_in body)) h.1 h.3 in
      let locals_later : init_count (here + 1) ds ≤ (room_after_each ctx room.init body).locals = later.0 in
      let needs_later : needs h.1 ≤ (room_after_each ctx room.init body).witnesses = later.1 in
      let all_needs : needs cs ≡ needs (joined h.0 h.1) = ap needs h.4 in
      let sum = needs_joined h.0 h.1 in
      (omega arith, omega arith)
  init_one here room locals (action name parameters body exported) ds u rest next cs h = rest next cs h
  init_one here room locals (export name) ds u rest next cs h = rest next cs h
  init_one here room locals (invariant label f at) ds u rest next cs h = rest next cs h

  init_from : (here : ℕ) (room : FileRoom) (locals : List (List ℕ)) (ds : List Declaration) → AreUnbroken (sites_from all here room locals ds) → (next : ℕ) (cs : Model.Statements) → Initiate all next (filter_map init_in (enumerate_from here ds)) cs
      → (init_count here ds ≤ room.init.locals) × (needs cs ≤ room.init.witnesses)
  init_from here room locals [] u next cs h = let none : needs cs ≡ 0 = ap needs h in (omega arith, omega arith)
  init_from here room locals (d ∷ ds) u next cs h =
      let own = declaration_sites (context_at all here) room locals d in
      let further = sites_from all (here + 1) (room_behind (context_at all here) room d) (locals ++ locals_by d) ds in
      init_one here room locals d ds (unbroken_left own further u) (init_from (here + 1) (room_behind (context_at all here) room d) (locals ++ locals_by d) ds (unbroken_right own further u)) next cs h

  -- actions
  pub record IsRoomyAction (p : Placed WrittenAction) : Type 0 where
    pub parameters : length p.written.parameters ≤ 6
    pub code : AreUnbroken (statements_sites (with_inside (context_at all p.here) p.written.parameters) block_room p.written.body)

  roomy_one : (here : ℕ) (room : FileRoom) (locals : List (List ℕ)) (d : Declaration) (ps : List (Placed WrittenAction)) → AreUnbroken (declaration_sites (context_at all here) room locals d) → AllByRecursion IsRoomyAction ps
      → AllByRecursion IsRoomyAction (cons_option (action_in (here, d)) ps)
  roomy_one here room locals (sort name ordered) ps u h = h
  roomy_one here room locals (relation name arguments) ps u h = h
  roomy_one here room locals (individual name type) ps u h = h
  roomy_one here room locals (axiom_of f at) ps u h = h
  roomy_one here room locals (init body) ps u h = h
  roomy_one here room locals (action name parameters body exported) ps u h =
      let ctx = context_at all here in
      let own = locals_sites ctx 6 parameters in
      let code = statements_sites (with_inside ctx parameters) block_room body in
      let rest = unbroken_behind (declared_at ctx locals name) (counted_at room.actions name.at) (own ++ code) u in
      (record { parameters = locals_room ctx 6 parameters (unbroken_left own code rest); code = unbroken_right own code rest }, h)
  roomy_one here room locals (export name) ps u h = h
  roomy_one here room locals (invariant label f at) ps u h = h

  roomy_from : (here : ℕ) (room : FileRoom) (locals : List (List ℕ)) (ds : List Declaration) → AreUnbroken (sites_from all here room locals ds) → AllByRecursion IsRoomyAction (filter_map action_in (enumerate_from here ds))
  roomy_from here room locals [] u = tt
  roomy_from here room locals (d ∷ ds) u =
      let own = declaration_sites (context_at all here) room locals d in
      let next = sites_from all (here + 1) (room_behind (context_at all here) room d) (locals ++ locals_by d) ds in
      roomy_one here room locals d (filter_map action_in (enumerate_from (here + 1) ds)) (unbroken_left own next u) (roomy_from (here + 1) (room_behind (context_at all here) room d) (locals ++ locals_by d) ds (unbroken_right own next u))

  -- of the whole file
  pub fits_file : AreUnbroken (sites_of all) → Fits 0 file_room all
  fits_file u = fits_from 0 file_room [] all u

  pub few_arguments_file : AreUnbroken (sites_of all) → AllByRecursion HasFewArguments (filter_map (declared_relation all) all)
  few_arguments_file u = few_arguments_from 0 file_room [] all u

  pub init_file : AreUnbroken (sites_of all) → (cs : Model.Statements) → Initiate all 0 (all_in init_in all) cs → (length (init_locals (all_in init_in all)) ≤ 6) × (needs cs ≤ 16)
  init_file u cs h = init_from 0 file_room [] all u 0 cs h

  pub roomy_file : AreUnbroken (sites_of all) → AllByRecursion IsRoomyAction (all_in action_in all)
  roomy_file u = roomy_from 0 file_room [] all u
