-- Declarations, put together.
use Rattle.std.proofs.Common.{◌≡◌, ℕ, ◌+◌, Bool, Option, ◌-◌, List, [], ◌∷◌, ◌++◌, ap, sym, ◌∙◌, refl, subst}
use Rattle.dai_syntax.specs.declared.tree.Binder.{Binder}
use Rattle.dai_syntax.specs.declared.tree.Name.{Name}
use Rattle.dai_syntax.specs.Tree.{Statements, Declaration, init, action}
use Rattle.dai_rules.specs.declared.judge.Judge.{Judge}
use Rattle.dai_rules.specs.declared.judge_statements.Room.{Room}
use Rattle.dai_rules.specs.declared.judge_statements.FileRoom.{FileRoom}
use Rattle.dai_rules.specs.Names.{Context, with_inside}
use Rattle.dai_rules.specs.declared.first.Fault.{Fault}
use Rattle.dai_rules.specs.Sites.{Site, Output, context_at, sites_from, counted_at, declared_at, locals_sites, binder_names, statements_sites, room_after_each, locals_in, block_room, declaration_sites, locals_by, room_behind}
use Rattle.dai_rules.specs.First.{judged}
use Rattle.dai_rules.specs.Tables.{texts_of, AreNames, AddsNames}
use Rattle.dai_rules.specs.Views.{View, view_of, context_of, seen, Introduces, Judges}
use Rattle.dai_rules.specs.Rooms.{room_of, file_room_of, JudgesCode, JudgesAction, JudgesDeclaration}
use Rattle.dai_rules.proofs.ViewLemmas.{judged-append, seen-seen}
use Rattle.dai_rules.proofs.CodeSteps.{adds_both, adds_none, statements_at}

-- the context of the body of an action
pub inside_action : (params : List Binder) (old mid : Judge) (room : ℕ) → (context_of old).inside ≡ [] → Introduces room params old mid → context_of mid ≡ with_inside (context_of old) params
inside_action params old mid room e h = ap (λ (v : View). v.context) h.judged ∙ ap (λ outer. with_inside (context_of old) (outer ++ params)) e

pub action_judged : (params : List Binder) (body : Statements) (given left : Room) (old mid end new : Judge)
    → (context_of old).inside ≡ [] → Introduces 6 params old mid → room_of given ≡ block_room
    → JudgesCode (statements_sites (context_of mid) (room_of given) body) (room_after_each (context_of mid) (room_of given) body) (locals_in body) left mid end
    → view_of new ≡ record (view_of end) { context = with_inside (context_of end) [] } → new.locals.keys ≡ end.locals.keys
    → JudgesAction params body old new
action_judged params body given left old mid end new e h r k v keys =
    let c = context_of old in
    let inner = inside_action params old mid 6 e h in
    let kk = statements_at (with_inside c params) (context_of mid) block_room given body left mid end inner r k in
    let A = locals_sites c 6 params in
    let B = statements_sites (with_inside c params) block_room body in
    record {
      first = ap (λ (w : View). w.first) v ∙ kk.first ∙ ap (λ f. judged f B) (ap (λ (w : View). w.first) h.judged) ∙ sym (judged-append old.first A B);
      context = ap (λ (w : View). w.context) v ∙ ap (λ d. with_inside d []) (kk.context ∙ inner) ∙ ap (with_inside c) (sym e);
      names_come = adds_both (binder_names params) (locals_in body) old.locals.keys mid.locals.keys new.locals.keys h.names (subst (AddsNames (locals_in body) mid.locals.keys) (sym keys) kk.names_come);
    }

-- where the parameters of an action end
pub inner_of_action : (params : List Binder) (old mid end : Judge) → (context_of old).inside ≡ [] → Introduces 6 params old mid → context_of end ≡ context_of mid → (context_of end).inside ≡ params
inner_of_action params old mid end e h k = ap (λ (c : Context). c.inside) (k ∙ inside_action params old mid 6 e h)

-- a declaration without locals
pub plain_declaration : (d : Declaration) (room left : FileRoom) (old new : Judge)
    → file_room_of left ≡ room_behind (context_of old) (file_room_of room) d
    → ((locals : List (List ℕ)) → AreNames locals old.locals.keys → view_of new ≡ seen (view_of old) (declaration_sites (context_of old) (file_room_of room) locals d))
    → locals_by d ≡ [] → JudgesDeclaration d room left old new
plain_declaration d room left old new r v e =
    let w = v (texts_of old.locals.keys) (λ x. refl) in
    record {
      room_is = r;
      first = λ locals h. ap (λ (u : View). u.first) (v locals h);
      context = ap (λ (u : View). u.context) w;
      names_come = subst (λ names. AddsNames names old.locals.keys new.locals.keys) (sym e) (adds_none old.locals.keys new.locals.keys (ap (λ (u : View). u.locals) w));
    }

-- an axiom or an invariant
pub sentence_declared : (d : Declaration) (room left : FileRoom) (count at : ℕ) (sites : List Site) (o : Output) (old mid new : Judge)
    → file_room_of left ≡ room_behind (context_of old) (file_room_of room) d
    → view_of mid ≡ seen (view_of old) (counted_at count at ∷ []) → Judges sites o mid new
    → ((locals : List (List ℕ)) → declaration_sites (context_of old) (file_room_of room) locals d ≡ counted_at count at ∷ sites)
    → locals_by d ≡ [] → JudgesDeclaration d room left old new
sentence_declared d room left count at sites o old mid new r v h s e = record {
  room_is = r;
  first = λ locals names. h.first ∙ ap (λ (u : View). judged u.first sites) v ∙ sym (judged-append old.first (counted_at count at ∷ []) sites) ∙ ap (judged old.first) (sym (s locals));
  context = h.context ∙ ap (λ (u : View). u.context) v;
  names_come = subst (λ names. AddsNames names old.locals.keys new.locals.keys) (sym e) (adds_none old.locals.keys new.locals.keys (h.locals ∙ ap (λ (u : View). u.locals) v));
}

-- init code
pub init_declared : (body : Statements) (room left : FileRoom) (after : Room) (old new : Judge)
    → file_room_of left ≡ record (file_room_of room) { init = room_of after }
    → JudgesCode (statements_sites (context_of old) (room_of room.init) body) (room_after_each (context_of old) (room_of room.init) body) (locals_in body) after old new
    → JudgesDeclaration (init body) room left old new
init_declared body room left after old new r h = record {
  room_is = r ∙ ap (λ ρ. record (file_room_of room) { init = ρ }) h.room_is;
  first = λ locals names. h.first;
  context = h.context;
  names_come = h.names_come;
}

-- an action
pub action_declared : (name : Name) (params : List Binder) (body : Statements) (exported : Bool) (room left : FileRoom) (old mid new : Judge)
    → file_room_of left ≡ record (file_room_of room) { actions = room.actions - 1 }
    → ((locals : List (List ℕ)) → AreNames locals old.locals.keys → view_of mid ≡ seen (view_of old) (declared_at (context_of old) locals name ∷ counted_at room.actions name.at ∷ []))
    → JudgesAction params body mid new → JudgesDeclaration (action name params body exported) room left old new
action_declared name params body exported room left old mid new r v h =
    let w = v (texts_of old.locals.keys) (λ x. refl) in
    let c : context_of mid ≡ context_of old = ap (λ (u : View). u.context) w in
    let sites : Context → List Site = λ ctx. locals_sites ctx 6 params ++ statements_sites (with_inside ctx params) block_room body in
    let keys : texts_of mid.locals.keys ≡ texts_of old.locals.keys = ap (λ (u : View). u.locals) w in
    record {
      room_is = r;
      first = λ locals names. h.first ∙ ap (λ ctx. judged mid.first (sites ctx)) c ∙ ap (λ (u : View). judged u.first (sites (context_of old))) (v locals names)
          ∙ sym (judged-append old.first (declared_at (context_of old) locals name ∷ counted_at room.actions name.at ∷ []) (sites (context_of old)));
      context = h.context ∙ c;
      names_come = adds_both [] (binder_names params ++ locals_in body) old.locals.keys mid.locals.keys new.locals.keys (adds_none old.locals.keys mid.locals.keys keys) h.names_come;
    }

-- sites that a part of the file adds to others
pub seen_more : (a : List Site) (more : Context → List Site) (v0 v1 v2 : View) → v1 ≡ seen v0 a → v2 ≡ seen v1 (more v1.context) → v2 ≡ seen v0 (a ++ more v0.context)
seen_more a more v0 v1 v2 e f = f ∙ ap (λ v. seen v (more v.context)) e ∙ seen-seen v0 a (more v0.context)

-- the declarations behind one that was judged
pub declared_next : (ds : List Declaration) (here : ℕ) (room left : FileRoom) (locals : List (List ℕ)) (d : Declaration) (rest : List Declaration) (old new : Judge) (whole : Option Fault)
    → context_of old ≡ context_at ds here → AreNames locals old.locals.keys → JudgesDeclaration d room left old new
    → judged old.first (sites_from ds here (file_room_of room) locals (d ∷ rest)) ≡ whole
    → judged new.first (sites_from ds (here + 1) (file_room_of left) (locals ++ locals_by d) rest) ≡ whole
declared_next ds here room left locals d rest old new whole e n h w =
    let c = context_at ds here in
    let r : file_room_of left ≡ room_behind c (file_room_of room) d = h.room_is ∙ ap (λ k. room_behind k (file_room_of room) d) e in
    let first : new.first ≡ judged old.first (declaration_sites c (file_room_of room) locals d) = h.first locals n ∙ ap (λ k. judged old.first (declaration_sites k (file_room_of room) locals d)) e in
    let more : List Site = sites_from ds (here + 1) (room_behind c (file_room_of room) d) (locals ++ locals_by d) rest in
    ap (λ k. judged new.first (sites_from ds (here + 1) k (locals ++ locals_by d) rest)) r ∙ ap (λ f. judged f more) first
    ∙ sym (judged-append old.first (declaration_sites c (file_room_of room) locals d) more) ∙ w

-- the names of the parameters and locals so far
pub names_next : (locals : List (List ℕ)) (d : Declaration) (room left : FileRoom) (old new : Judge) → AreNames locals old.locals.keys → JudgesDeclaration d room left old new → AreNames (locals ++ locals_by d) new.locals.keys
names_next locals d room left old new n h = adds_both locals (locals_by d) [] old.locals.keys new.locals.keys n h.names_come
