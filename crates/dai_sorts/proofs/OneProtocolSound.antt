-- A file without faults breaks no rule in any of its sentences and updates.
use Rattle.std.proofs.Common.{◌≡◌, ℕ, ◌+◌, ◌-◌, List, [], ◌∷◌, ◌++◌, length, Option, Some, None, refl, subst}
use Rattle.std.specs.List.{AllByRecursion, filter_map, flat_map, enumerate_from, cons_option}
use Rattle.dai_syntax.specs.Tree.{Formula, Statement, requirement, assignment, conditional, with_locals, Statements, no_statements, with_statement, Declaration, sort, relation, individual, axiom_of, init, action, export, invariant}
use Rattle.dai_rules.specs.Names.{Context, with_inside}
use Rattle.dai_rules.specs.Sites.{as_axiom, as_invariant, as_requirement, as_value, declared_at, counted_at, sentence_output, sentence_sites, counted_from, locals_sites, Room, FileRoom, block_room, file_room, room_after, room_after_each, room_behind, statement_sites, statements_sites, declaration_sites, assigned_by, locals_by, context_at, sites_from, sites_of}
use Rattle.dai_rules.specs.Faults.{IsFaultless}
use Rattle.dai_sorts.specs.Protocols.{Placed, axiom_in, init_in, action_in, invariant_in, all_in, WrittenAction, WrittenInvariant}
use Rattle.dai_sorts.specs.Sound.{AreUnbroken, IsSound, AreSound}
use Rattle.dai_sorts.proofs.Unbroken.{unbroken_left, unbroken_right, unbroken_tail}

-- statements
mutual
  pub sound_statement : (ctx : Context) (room : Room) (s : Statement) → AreUnbroken (statement_sites ctx room s) → IsSound ctx s
  sound_statement ctx room (requirement f) h = unbroken_left (sentence_sites ctx as_requirement f) (counted_from room.witnesses (sentence_output ctx as_requirement f).witnesses) h
  sound_statement ctx room (assignment name args f) h = h
  sound_statement ctx room (conditional f first second) h =
      let rest = unbroken_right (sentence_sites ctx (as_value []) f) (statements_sites ctx room first ++ statements_sites ctx (room_after_each ctx room first) second) h in (
        unbroken_left (sentence_sites ctx (as_value []) f) (statements_sites ctx room first ++ statements_sites ctx (room_after_each ctx room first) second) h,
        sound_statements ctx room first (unbroken_left (statements_sites ctx room first) (statements_sites ctx (room_after_each ctx room first) second) rest),
        sound_statements ctx (room_after_each ctx room first) second (unbroken_right (statements_sites ctx room first) (statements_sites ctx (room_after_each ctx room first) second) rest),
      )
  sound_statement ctx room (with_locals binders body) h =
      let inside = with_inside ctx (ctx.inside ++ binders) in
      let left : Room = record room { locals = room.locals - length binders } in
      sound_statements inside left body (unbroken_right (locals_sites ctx room.locals binders) (statements_sites inside left body) h)

  pub sound_statements : (ctx : Context) (room : Room) (ss : Statements) → AreUnbroken (statements_sites ctx room ss) → AreSound ctx ss
  sound_statements ctx room no_statements h = tt
  sound_statements ctx room (with_statement s ss) h = (
    sound_statement ctx room s (unbroken_left (statement_sites ctx room s) (statements_sites ctx (room_after ctx room s) ss) h),
    sound_statements ctx (room_after ctx room s) ss (unbroken_right (statement_sites ctx room s) (statements_sites ctx (room_after ctx room s) ss) h),
  )

-- what is written in the declarations
abbrev pub IsGoodAxiom : List Declaration → Placed Formula → Type 0
IsGoodAxiom all p = AreUnbroken (sentence_sites (context_at all p.here) (as_axiom (flat_map assigned_by all)) p.written)

abbrev pub IsGoodInit : List Declaration → Placed Statements → Type 0
IsGoodInit all p = AreSound (context_at all p.here) p.written

abbrev pub IsGoodAction : List Declaration → Placed WrittenAction → Type 0
IsGoodAction all p = AreSound (with_inside (context_at all p.here) p.written.parameters) p.written.body

abbrev pub IsGoodInvariant : List Declaration → Placed WrittenInvariant → Type 0
IsGoodInvariant all p = AreUnbroken (sentence_sites (context_at all p.here) as_invariant p.written.body)

-- whatever stands in a declaration that breaks no rule has a property
abbrev GivesGood : {X : Type 0} → (ℕ × Declaration → Option (Placed X)) → (Placed X → Type 0) → List Declaration → Type 0
GivesGood {X} one Good all = (here : ℕ) (d : Declaration) (room : FileRoom) (locals : List (List ℕ)) (p : Placed X) → AreUnbroken (declaration_sites (context_at all here) room locals d) → one (here, d) ≡ Some p → Good p

good_axiom : (all : List Declaration) → GivesGood axiom_in (IsGoodAxiom all) all
good_axiom all here (axiom_of f at) room locals p h e =
    let k : record { here = here; written = f } ≡ p = cc in
    subst (IsGoodAxiom all) k (unbroken_tail (counted_at room.axioms at) (sentence_sites (context_at all here) (as_axiom (flat_map assigned_by all)) f) h)
good_axiom all here (sort name ordered) room locals p h e = absurd (let k : ⊥ = cc in k)
good_axiom all here (relation name arguments) room locals p h e = absurd (let k : ⊥ = cc in k)
good_axiom all here (individual name type) room locals p h e = absurd (let k : ⊥ = cc in k)
good_axiom all here (init body) room locals p h e = absurd (let k : ⊥ = cc in k)
good_axiom all here (action name parameters body exported) room locals p h e = absurd (let k : ⊥ = cc in k)
good_axiom all here (export name) room locals p h e = absurd (let k : ⊥ = cc in k)
good_axiom all here (invariant label f at) room locals p h e = absurd (let k : ⊥ = cc in k)

good_init : (all : List Declaration) → GivesGood init_in (IsGoodInit all) all
good_init all here (init body) room locals p h e =
    let k : record { here = here; written = body } ≡ p = cc in
    subst (IsGoodInit all) k (sound_statements (context_at all here) room.init body h)
good_init all here (sort name ordered) room locals p h e = absurd (let k : ⊥ = cc in k)
good_init all here (relation name arguments) room locals p h e = absurd (let k : ⊥ = cc in k)
good_init all here (individual name type) room locals p h e = absurd (let k : ⊥ = cc in k)
good_init all here (axiom_of f at) room locals p h e = absurd (let k : ⊥ = cc in k)
good_init all here (action name parameters body exported) room locals p h e = absurd (let k : ⊥ = cc in k)
good_init all here (export name) room locals p h e = absurd (let k : ⊥ = cc in k)
good_init all here (invariant label f at) room locals p h e = absurd (let k : ⊥ = cc in k)

good_action : (all : List Declaration) → GivesGood action_in (IsGoodAction all) all
good_action all here (action name parameters body exported) room locals p h e =
    let ctx = context_at all here in
    let code = statements_sites (with_inside ctx parameters) block_room body in
    let written : WrittenAction = record { name = name; parameters = parameters; body = body } in
    let k : record { here = here; written = written } ≡ p = cc in
    let rest = unbroken_tail (counted_at room.actions name.at) (locals_sites ctx 6 parameters ++ code) (unbroken_tail (declared_at ctx locals name) (counted_at room.actions name.at ∷ (locals_sites ctx 6 parameters ++ code)) h) in
    subst (IsGoodAction all) k (sound_statements (with_inside ctx parameters) block_room body (unbroken_right (locals_sites ctx 6 parameters) code rest))
good_action all here (sort name ordered) room locals p h e = absurd (let k : ⊥ = cc in k)
good_action all here (relation name arguments) room locals p h e = absurd (let k : ⊥ = cc in k)
good_action all here (individual name type) room locals p h e = absurd (let k : ⊥ = cc in k)
good_action all here (axiom_of f at) room locals p h e = absurd (let k : ⊥ = cc in k)
good_action all here (init body) room locals p h e = absurd (let k : ⊥ = cc in k)
good_action all here (export name) room locals p h e = absurd (let k : ⊥ = cc in k)
good_action all here (invariant label f at) room locals p h e = absurd (let k : ⊥ = cc in k)

good_invariant : (all : List Declaration) → GivesGood invariant_in (IsGoodInvariant all) all
good_invariant all here (invariant label f at) room locals p h e =
    let written : WrittenInvariant = record { label = label; body = f } in
    let k : record { here = here; written = written } ≡ p = cc in
    subst (IsGoodInvariant all) k (unbroken_tail (counted_at room.invariants at) (sentence_sites (context_at all here) as_invariant f) h)
good_invariant all here (sort name ordered) room locals p h e = absurd (let k : ⊥ = cc in k)
good_invariant all here (relation name arguments) room locals p h e = absurd (let k : ⊥ = cc in k)
good_invariant all here (individual name type) room locals p h e = absurd (let k : ⊥ = cc in k)
good_invariant all here (axiom_of f at) room locals p h e = absurd (let k : ⊥ = cc in k)
good_invariant all here (init body) room locals p h e = absurd (let k : ⊥ = cc in k)
good_invariant all here (action name parameters body exported) room locals p h e = absurd (let k : ⊥ = cc in k)
good_invariant all here (export name) room locals p h e = absurd (let k : ⊥ = cc in k)

good_cons : {Y : Type 0} (Good : Y → Type 0) (o : Option Y) (ys : List Y) → ((y : Y) → o ≡ Some y → Good y) → AllByRecursion Good ys → AllByRecursion Good (cons_option o ys)
good_cons Good None ys one rest = rest
good_cons Good (Some y) ys one rest = (one y refl, rest)

good_from : {X : Type 0} (one : ℕ × Declaration → Option (Placed X)) (Good : Placed X → Type 0) (all : List Declaration) → GivesGood one Good all
    → (here : ℕ) (room : FileRoom) (locals : List (List ℕ)) (ds : List Declaration) → AreUnbroken (sites_from all here room locals ds) → AllByRecursion Good (filter_map one (enumerate_from here ds))
good_from one Good all gives here room locals [] h = tt
good_from one Good all gives here room locals (d ∷ ds) h =
    let ctx = context_at all here in
    let rest = sites_from all (here + 1) (room_behind ctx room d) (locals ++ locals_by d) ds in
    good_cons Good (one (here, d)) (filter_map one (enumerate_from (here + 1) ds))
    (λ p e. gives here d room locals p (unbroken_left (declaration_sites ctx room locals d) rest h) e)
    (good_from one Good all gives (here + 1) (room_behind ctx room d) (locals ++ locals_by d) ds (unbroken_right (declaration_sites ctx room locals d) rest h))

unbroken_file : (ds : List Declaration) → IsFaultless ds → AreUnbroken (sites_of ds)
unbroken_file ds h = λ s there number at breaks. h number at (record { site = s; stands = there; breaks = breaks })

pub good_axioms : (ds : List Declaration) → IsFaultless ds → AllByRecursion (IsGoodAxiom ds) (all_in axiom_in ds)
good_axioms ds h = good_from axiom_in (IsGoodAxiom ds) ds (good_axiom ds) 0 file_room [] ds (unbroken_file ds h)

pub good_inits : (ds : List Declaration) → IsFaultless ds → AllByRecursion (IsGoodInit ds) (all_in init_in ds)
good_inits ds h = good_from init_in (IsGoodInit ds) ds (good_init ds) 0 file_room [] ds (unbroken_file ds h)

pub good_actions : (ds : List Declaration) → IsFaultless ds → AllByRecursion (IsGoodAction ds) (all_in action_in ds)
good_actions ds h = good_from action_in (IsGoodAction ds) ds (good_action ds) 0 file_room [] ds (unbroken_file ds h)

pub good_invariants : (ds : List Declaration) → IsFaultless ds → AllByRecursion (IsGoodInvariant ds) (all_in invariant_in ds)
good_invariants ds h = good_from invariant_in (IsGoodInvariant ds) ds (good_invariant ds) 0 file_room [] ds (unbroken_file ds h)
