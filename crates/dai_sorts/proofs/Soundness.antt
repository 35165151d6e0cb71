-- What a file that breaks no rule has, part by part.
use Rattle.std.proofs.Common.{◌≡◌, ℕ, ◌+◌, ◌<◌, ◌≤◌, List, [], ◌∷◌, ◌++◌, length, arith, length-append}
use Rattle.std.specs.List.{filter_map, enumerate_from, flat_map}
use Rattle.dai_syntax.specs.Tree.{Declaration, sort, relation, individual, axiom_of, init, action, export, invariant}
use Rattle.dai_rules.specs.Names.{with_inside}
use Rattle.dai_rules.specs.Sites.{declared_at, counted_at, type_at, as_axiom, as_invariant, assigned_by, FileRoom, block_room, file_room, sentence_sites, locals_sites, relation_sites, statements_sites, room_after_each, room_behind, context_at, declaration_sites, sites_from, sites_of, locals_by}
use Rattle.dai_sorts.specs.Statements.{locals_in}
use Rattle.dai_sorts.specs.Sound.{AreUnbroken}
use Rattle.dai_sorts.specs.Counts.{Counts, counts_past, counts_from, counts_in, no_counts, AreFew}
use Rattle.dai_sorts.specs.Protocols.{init_in, init_locals}
use Rattle.dai_sorts.specs.Drafts.{IsSoundDeclaration}
use Rattle.dai_sorts.proofs.ProfileRooms.{is_room, locals_room, statements_room}
use Rattle.dai_sorts.proofs.OneProtocolSound.{sound_statements}
use Rattle.dai_sorts.proofs.Unbroken.{unbroken_left, unbroken_right, unbroken_tail, unbroken_behind}

pub sound_declaration : (all : List Declaration) (here : ℕ) (room : FileRoom) (locals : List (List ℕ)) (d : Declaration) → AreUnbroken (declaration_sites (context_at all here) room locals d) → IsSoundDeclaration all here d
sound_declaration all here room locals (sort name ordered) u = tt
sound_declaration all here room locals (relation name arguments) u = tt
sound_declaration all here room locals (individual name type) u = tt
sound_declaration all here room locals (axiom_of f at) u = unbroken_tail (counted_at room.axioms at) (sentence_sites (context_at all here) (as_axiom (flat_map assigned_by all)) f) u
sound_declaration all here room locals (init body) u = sound_statements (context_at all here) room.init body u
sound_declaration all here room locals (action name parameters body exported) u =
    let ctx = context_at all here in
    let inside = with_inside ctx parameters in
    let rest = unbroken_behind (declared_at ctx locals name) (counted_at room.actions name.at) (locals_sites ctx 6 parameters ++ statements_sites inside block_room body) u in
    let own : length parameters ≤ 6 = locals_room ctx 6 parameters (unbroken_left (locals_sites ctx 6 parameters) (statements_sites inside block_room body) rest) in
    let code = unbroken_right (locals_sites ctx 6 parameters) (statements_sites inside block_room body) rest in
    let few : length (locals_in body) + (room_after_each inside block_room body).locals ≡ 6 = statements_room inside block_room body code in
    (sound_statements inside block_room body code, omega arith, omega arith)
sound_declaration all here room locals (export name) u = tt
sound_declaration all here room locals (invariant label f at) u = unbroken_tail (counted_at room.invariants at) (sentence_sites (context_at all here) as_invariant f) u

-- so few are declared
few_from : (all : List Declaration) (here : ℕ) (room : FileRoom) (locals : List (List ℕ)) (ds : List Declaration) (c : Counts) → AreUnbroken (sites_from all here room locals ds)
    → c.types + room.sorts ≤ 255 → c.relations + room.relations ≤ 255 → c.individuals + room.individuals ≤ 255 → AreFew (counts_from c ds)
few_from all here room locals [] c u a b e = record { types = omega arith; relations = omega arith; individuals = omega arith }
few_from all here room locals (d ∷ ds) c u a b e =
    let own = declaration_sites (context_at all here) room locals d in
    let next = sites_from all (here + 1) (room_behind (context_at all here) room d) (locals ++ locals_by d) ds in
    let rest = unbroken_right own next u in
    let first = unbroken_left own next u in
    few_by all here room locals d ds c first a b e (few_from all (here + 1) (room_behind (context_at all here) room d) (locals ++ locals_by d) ds (counts_past c d) rest)
  where
    few_by : (all : List Declaration) (here : ℕ) (room : FileRoom) (locals : List (List ℕ)) (d : Declaration) (ds : List Declaration) (c : Counts) → AreUnbroken (declaration_sites (context_at all here) room locals d)
        → c.types + room.sorts ≤ 255 → c.relations + room.relations ≤ 255 → c.individuals + room.individuals ≤ 255
        → ((counts_past c d).types + (room_behind (context_at all here) room d).sorts ≤ 255 → (counts_past c d).relations + (room_behind (context_at all here) room d).relations ≤ 255 → (counts_past c d).individuals + (room_behind (context_at all here) room d).individuals ≤ 255 → AreFew (counts_from (counts_past c d) ds))
        → AreFew (counts_from (counts_past c d) ds)
    few_by all here room locals (sort name ordered) ds c u a b e k = let r : 0 < room.sorts = is_room room.sorts name.at [] (unbroken_tail (declared_at (context_at all here) locals name) (counted_at room.sorts name.at ∷ []) u) in k (omega arith) (omega arith) (omega arith)
    few_by all here room locals (relation name arguments) ds c u a b e k = let r : 0 < room.relations = is_room room.relations name.at (relation_sites all 5 arguments) (unbroken_tail (declared_at (context_at all here) locals name) (counted_at room.relations name.at ∷ relation_sites all 5 arguments) u) in k (omega arith) (omega arith) (omega arith)
    few_by all here room locals (individual name type) ds c u a b e k = let r : 0 < room.individuals = is_room room.individuals name.at (type_at all type ∷ []) (unbroken_tail (declared_at (context_at all here) locals name) (counted_at room.individuals name.at ∷ type_at all type ∷ []) u) in k (omega arith) (omega arith) (omega arith)
    few_by all here room locals (axiom_of f at) ds c u a b e k = k a b e
    few_by all here room locals (init body) ds c u a b e k = k a b e
    few_by all here room locals (action name parameters body exported) ds c u a b e k = k a b e
    few_by all here room locals (export name) ds c u a b e k = k a b e
    few_by all here room locals (invariant label f at) ds c u a b e k = k a b e

pub few_declared : (ds : List Declaration) → AreUnbroken (sites_of ds) → AreFew (counts_in ds)
few_declared ds u = few_from ds 0 file_room [] ds no_counts u (omega arith) (omega arith) (omega arith)

-- so few locals has all init code
abbrev pub init_count : ℕ → List Declaration → ℕ
init_count here ds = length (init_locals (filter_map init_in (enumerate_from here ds)))

few_init : (all : List Declaration) (here : ℕ) (room : FileRoom) (locals : List (List ℕ)) (ds : List Declaration) → AreUnbroken (sites_from all here room locals ds) → init_count here ds ≤ room.init.locals
few_init all here room locals [] u = omega arith
few_init all here room locals (d ∷ ds) u =
    let own = declaration_sites (context_at all here) room locals d in
    let next = sites_from all (here + 1) (room_behind (context_at all here) room d) (locals ++ locals_by d) ds in
    init_by all here room locals d ds (unbroken_left own next u) (few_init all (here + 1) (room_behind (context_at all here) room d) (locals ++ locals_by d) ds (unbroken_right own next u))
  where
    init_by : (all : List Declaration) (here : ℕ) (room : FileRoom) (locals : List (List ℕ)) (d : Declaration) (ds : List Declaration) → AreUnbroken (declaration_sites (context_at all here) room locals d)
        → init_count (here + 1) ds ≤ (room_behind (context_at all here) room d).init.locals → init_count here (d ∷ ds) ≤ room.init.locals
    init_by all here room locals (sort name ordered) ds u k = k
    init_by all here room locals (relation name arguments) ds u k = k
    init_by all here room locals (individual name type) ds u k = k
    init_by all here room locals (axiom_of f at) ds u k = k
    init_by all here room locals (init body) ds u k =
        let own : length (locals_in body) + (room_after_each (context_at all here) room.init body).locals ≡ room.init.locals = statements_room (context_at all here) room.init body u in
        let both = length-append (locals_in body) (init_locals (filter_map init_in (enumerate_from (here + 1) ds))) in
        omega arith
    init_by all here room locals (action name parameters body exported) ds u k = k
    init_by all here room locals (export name) ds u k = k
    init_by all here room locals (invariant label f at) ds u k = k

pub few_init_locals : (ds : List Declaration) → AreUnbroken (sites_of ds) → init_count 0 ds ≤ 256
few_init_locals ds u = let k = few_init ds 0 file_room [] ds u in omega arith
