-- A draft after one more declaration of a file that breaks no rule.
use Rattle.std.proofs.Common.{take, drop, get_or, ◌≡◌, ℕ, ◌+◌, ◌<◌, ◌≤◌, List, [], ◌∷◌, ◌++◌, length, map, Option, None, Some, ap, sym, ◌∙◌, subst, arith, length-append}
use Rattle.std.specs.List.{filter_map, cons_option, enumerate_from}
use Rattle.std.proofs.lemmas.List.{length-map, length-take-le, take_more, map-append}
use Rattle.dai_model.specs.Protocol.{Protocol}
use Rattle.dai_syntax.specs.Tree.{Declaration, Statements, sort, relation, individual, axiom_of, init, action, export, invariant}
use Rattle.dai_syntax.specs.declared.tree.Decl.{Decl}
use Rattle.dai_syntax.specs.Trees.{declaration_of}
use Rattle.dai_rules.specs.Faults.{IsFaultless}
use Rattle.dai_rules.proofs.Lists.{drop_at}
use Rattle.dai_rules.specs.Sites.{FileRoom, file_room, room_behind, context_at, declaration_sites, sites_from, locals_by}
use Rattle.dai_sorts.specs.Scopes.{binder_type}
use Rattle.dai_sorts.specs.Statements.{locals_in}
use Rattle.dai_sorts.specs.Protocols.{Placed, init_in, init_locals, AreParts}
use Rattle.dai_sorts.specs.Gains.{Gains}
use Rattle.dai_sorts.specs.Drafts.{IsSoundDeclaration, HasRoom}
use Rattle.dai_sorts.specs.Sound.{AreUnbroken}
use Rattle.dai_sorts.proofs.Gaining.{gains}
use Rattle.dai_sorts.proofs.Soundness.{sound_declaration, init_count, few_init_locals}
use Rattle.dai_sorts.proofs.Unbroken.{unbroken_left, unbroken_right, faultless_unbroken}

-- the locals of a declaration, and those of the ones behind it
locals_split : (o : Option (Placed Statements)) (rest : List (Placed Statements)) → length (init_locals (cons_option o rest)) ≡ length (init_locals (cons_option o [])) + length (init_locals rest)
locals_split None rest = omega arith
locals_split (Some b) rest =
    let a = length-append (locals_in b.written) (init_locals rest) in
    let e = length-append (locals_in b.written) [] in
    omega arith

pub has_room : (n here : ℕ) (d : Declaration) (rest : List Declaration) → n + init_count here (d ∷ rest) ≤ 256 → HasRoom n d
has_room n here (sort name ordered) rest h = tt
has_room n here (relation name arguments) rest h = tt
has_room n here (individual name type) rest h = tt
has_room n here (axiom_of f at) rest h = tt
has_room n here (init body) rest h = let both = length-append (locals_in body) (init_locals (filter_map init_in (enumerate_from (here + 1) rest))) in omega arith
has_room n here (action name parameters body exported) rest h = tt
has_room n here (export name) rest h = tt
has_room n here (invariant label f at) rest h = tt

-- what is known before the declarations that are left
pub record IsDrafted (all : List Declaration) (here : ℕ) (before rest : List Declaration) (P : Protocol) : Type 0 where
  pub room : FileRoom
  pub locals : List (List ℕ)
  pub unbroken : AreUnbroken (sites_from all here room locals rest)
  pub few : length P.init.choices + init_count here rest ≤ 256
  pub parts : AreParts all before P

pub sound_next : (all : List Declaration) (here : ℕ) (before : List Declaration) (d : Declaration) (rest : List Declaration) (P : Protocol) → IsDrafted all here before (d ∷ rest) P → IsSoundDeclaration all here d
sound_next all here before d rest P h =
    sound_declaration all here h.room h.locals d (unbroken_left (declaration_sites (context_at all here) h.room h.locals d) (sites_from all (here + 1) (room_behind (context_at all here) h.room d) (h.locals ++ locals_by d) rest) h.unbroken)

pub room_next : (all : List Declaration) (here : ℕ) (before : List Declaration) (d : Declaration) (rest : List Declaration) (P : Protocol) → IsDrafted all here before (d ∷ rest) P → HasRoom (length P.init.choices) d
room_next all here before d rest P h = has_room (length P.init.choices) here d rest h.few

pub drafted_next : (all : List Declaration) (here : ℕ) (before : List Declaration) (d : Declaration) (rest : List Declaration) (P Q : Protocol) → length before ≡ here → Gains all here d P Q → IsDrafted all here before (d ∷ rest) P → IsDrafted all (here + 1) (before ++ d ∷ []) rest Q
drafted_next all here before d rest P Q count g h =
    let own = declaration_sites (context_at all here) h.room h.locals d in
    let next = sites_from all (here + 1) (room_behind (context_at all here) h.room d) (h.locals ++ locals_by d) rest in
    let split = locals_split (init_in (here, d)) (filter_map init_in (enumerate_from (here + 1) rest)) in
    let longer : length Q.init.choices ≡ length P.init.choices + length (init_locals (cons_option (init_in (here, d)) [])) =
    ap length g.locals ∙ length-append P.init.choices (map (binder_type all) (init_locals (cons_option (init_in (here, d)) []))) ∙ ap (λ n. length P.init.choices + n) (length-map (init_locals (cons_option (init_in (here, d)) [])) (binder_type all)) in
    let few = h.few in
    record {
      room = room_behind (context_at all here) h.room d;
      locals = h.locals ++ locals_by d;
      unbroken = unbroken_right own next h.unbroken;
      few = omega arith;
      parts = gains all before d P Q (subst (λ n. Gains all n d P Q) (sym count) g) h.parts;
    }

-- the declaration at a place, before those behind it
pub drafted_here : (decls : List Decl) (here : ℕ) (decl : Decl) (P : Protocol) → here < length decls → decl ≡ get_or decls here decl
    → IsDrafted (map declaration_of decls) here (map declaration_of (take here decls)) (map declaration_of (drop here decls)) P
    → IsDrafted (map declaration_of decls) here (map declaration_of (take here decls)) (declaration_of decl ∷ map declaration_of (drop (here + 1) decls)) P
drafted_here decls here decl P below is h =
    subst (λ (rest : List Declaration). IsDrafted (map declaration_of decls) here (map declaration_of (take here decls)) rest P) (ap (map declaration_of) (drop_at decls here decl below is)) h

pub drafted_behind : (decls : List Decl) (here : ℕ) (decl : Decl) (P Q : Protocol) → here < length decls → decl ≡ get_or decls here decl → Gains (map declaration_of decls) here (declaration_of decl) P Q
    → IsDrafted (map declaration_of decls) here (map declaration_of (take here decls)) (map declaration_of (drop here decls)) P
    → IsDrafted (map declaration_of decls) (here + 1) (map declaration_of (take (here + 1) decls)) (map declaration_of (drop (here + 1) decls)) Q
drafted_behind decls here decl P Q below is g h =
    let all = map declaration_of decls in
    let before = map declaration_of (take here decls) in
    let rest = map declaration_of (drop (here + 1) decls) in
    let known : here ≤ length decls = omega arith in
    let count : length before ≡ here = length-map (take here decls) declaration_of ∙ length-take-le here decls known in
    let longer : map declaration_of (take (here + 1) decls) ≡ before ++ declaration_of decl ∷ [] =
    ap (map declaration_of) (take_more decls here decl below ∙ ap (λ (d : Decl). take here decls ++ d ∷ []) (sym is)) ∙ map-append declaration_of (take here decls) (decl ∷ []) in
    subst (λ (b : List Declaration). IsDrafted all (here + 1) b rest Q) (sym longer) (drafted_next all here before (declaration_of decl) rest P Q count g (drafted_here decls here decl P below is h))

-- before all declarations
pub drafted_first : (all : List Declaration) (P : Protocol) → IsFaultless all → AreParts all [] P → IsDrafted all 0 [] all P
drafted_first all P faultless parts =
    let unbroken = faultless_unbroken all faultless in
    let none : length P.init.choices ≡ 0 = ap length parts.init.locals in
    let few = few_init_locals all unbroken in
    record { room = file_room; locals = []; unbroken = unbroken; few = omega arith; parts = parts }
