-- Statements and declarations, put together.
use Rattle.std.proofs.Common.{◌≡◌, ℕ, zero, suc, take, ◌-◌, ◌||◌, Bool, true, false, cond, nat_eq, List, [], ◌∷◌, ◌++◌, length, Option, None, Some, map, ap, sym, ◌∙◌, refl, subst, append_assoc, Vec}
use Rattle.std.specs.declared.alloc.Global.{Global}
use Rattle.std.specs.Borrow.{Bor}
use Rattle.std.specs.Prelude.{find, is_some}
use Rattle.std.specs.Option.{option_copied}
use Rattle.std.proofs.Math.Seq.{take-append_seam}
use Rattle.std.specs.List.{list_any, flat_map}
use Rattle.dai_syntax.specs.declared.tree.Binder.{Binder}
use Rattle.dai_syntax.specs.Tree.{Formula, Statement, requirement, conditional, with_locals, Statements, with_statement}
use Rattle.dai_rules.specs.declared.first.Fault.{Fault}
use Rattle.dai_rules.specs.declared.judge.Judge.{Judge}
use Rattle.dai_rules.specs.declared.judge_statements.Room.{Room}
use Rattle.dai_rules.specs.Names.{Context, with_inside, is_among}
use Rattle.dai_rules.specs.Sites as Sites
use Rattle.dai_rules.specs.Sites.{Site, Output, counted_at, counted_from, locals_sites, binder_names, sentence_sites, sentence_output, as_requirement, as_value, statement_sites, statements_sites, room_after, room_after_each, locals_of, locals_in}
use Rattle.dai_rules.specs.Rules.{at_if}
use Rattle.dai_rules.specs.Classes.{fault_if}
use Rattle.dai_rules.specs.First.{noting_all, numbered, faults_at, judged}
use Rattle.dai_rules.specs.Tables.{texts_of, AddsNames}
use Rattle.dai_rules.specs.Views.{View, view_of, context_of, seen, Introduces, Judges}
use Rattle.dai_rules.specs.Rooms.{room_of, JudgesCode}
use Rattle.dai_rules.proofs.Keys.{or_false}
use Rattle.dai_rules.proofs.Lists.{append_nil}
use Rattle.dai_rules.proofs.NameTables.{added_twice}
use Rattle.dai_rules.proofs.ViewLemmas.{view_by, judged-append}

-- some element passes where one is found
any_at_front : {X : Type 0} (b : Bool) (x : X) (o : Option X) (c : Bool) → is_some o ≡ c → is_some (cond b (Some x) o) ≡ (b || c)
any_at_front true x o c h = refl
any_at_front false x o c h = h

pub is_some-find : {X : Type 0} (p : X → Bool) (xs : List X) → is_some (find p xs) ≡ list_any p xs
is_some-find p [] = refl
is_some-find p (x ∷ xs) = any_at_front (p x) x (find p xs) (list_any p xs) (is_some-find p xs)

-- names that come
pub adds_both : (A B : List (List ℕ)) (k0 k1 k2 : List (Vec ℕ Global)) → AddsNames A k0 k1 → AddsNames B k1 k2 → AddsNames (A ++ B) k0 k2
adds_both A B k0 k1 k2 h k = λ x. added_twice x (is_among x (texts_of k0)) (is_among x (texts_of k1)) (is_among x (texts_of k2)) A B (A ++ B) (h x) (k x) refl

pub adds_none : (k0 k1 : List (Vec ℕ Global)) → texts_of k1 ≡ texts_of k0 → AddsNames [] k0 k1
adds_none k0 k1 e = λ x. ap (is_among x) e ∙ sym (or_false (is_among x (texts_of k0)))

-- things that are counted
counted_one : (b : Bool) (first : Option Fault) (at : ℕ) (rest : List Fault) → noting_all (noting_all first (fault_if b 42 at)) rest ≡ noting_all first (((numbered 42 (at_if b at)) ++ []) ++ rest)
counted_one true first at rest = refl
counted_one false first at rest = refl

pub counted_next : (first : Option Fault) (room at : ℕ) (places : List ℕ) (f : Option Fault) (left : ℕ) → f ≡ noting_all first (fault_if (nat_eq room 0) 42 at) → left ≡ room - 1 → judged f (counted_from left places) ≡ judged first (counted_from room (at ∷ places))
counted_next first room at places f left e l =
    ap (λ g. judged g (counted_from left places)) e ∙ ap (λ k. judged (noting_all first (fault_if (nat_eq room 0) 42 at)) (counted_from k places)) l
    ∙ counted_one (nat_eq room 0) first at (flat_map faults_at (counted_from (room - 1) places))

abbrev pub binders_in : List (Bor Binder) → List Binder
binders_in xs = map (λ (x : Bor Binder). x.now) xs

binders_in-take : (n : ℕ) (xs : List (Bor Binder)) → binders_in (take n xs) ≡ take n (binders_in xs)
binders_in-take zero xs = refl
binders_in-take (suc n) [] = refl
binders_in-take (suc n) (x ∷ xs) = ap (λ bs. x.now ∷ bs) (binders_in-take n xs)

-- parameters and locals
abbrev pub introduce_step : ℕ → List Binder → List (List ℕ) → View → View
introduce_step room binders locals v = record (seen v (locals_sites v.context room binders)) { context = with_inside v.context (v.context.inside ++ binders); locals = locals }

pub introduce_both : (room : ℕ) (b : Binder) (bs : List Binder) (locals others : List (List ℕ)) (v w u : View) → w ≡ introduce_step room (b ∷ []) locals v → u ≡ introduce_step (room - 1) bs others w → u ≡ introduce_step room (b ∷ bs) others v
introduce_both room b bs locals others v w u e f =
    f ∙ ap (introduce_step (room - 1) bs others) e
    ∙ view_by _ _ (ap (with_inside v.context) (append_assoc v.context.inside (b ∷ []) bs)) refl refl refl refl refl refl
    (sym (judged-append v.first (locals_sites v.context room (b ∷ [])) (locals_sites (with_inside v.context (v.context.inside ++ b ∷ [])) (room - 1) bs)))

pub introduces_next : (room : ℕ) (b : Binder) (bs : List Binder) (old mid new : Judge) → Introduces room (b ∷ []) old mid → Introduces (room - 1) bs mid new → Introduces room (b ∷ bs) old new
introduces_next room b bs old mid new h k = record {
  judged = introduce_both room b bs (texts_of mid.locals.keys) (texts_of new.locals.keys) (view_of old) (view_of mid) (view_of new) h.judged k.judged;
  names = adds_both (binder_names (b ∷ [])) (binder_names bs) old.locals.keys mid.locals.keys new.locals.keys h.names k.names;
}

pub introduces_none : (room : ℕ) (j : Judge) → Introduces room [] j j
introduces_none room j = record {
  judged = view_by _ _ (ap (with_inside (context_of j)) (sym (append_nil (context_of j).inside))) refl refl refl refl refl refl refl;
  names = adds_none j.locals.keys j.locals.keys refl;
}

-- one piece of code after another
pub code_both : (A B : List Site) (ra rb : Sites.Room) (na nb : List (List ℕ)) (r1 r2 : Room) (old mid new : Judge) → JudgesCode A ra na r1 old mid → JudgesCode B rb nb r2 mid new → JudgesCode (A ++ B) rb (na ++ nb) r2 old new
code_both A B ra rb na nb r1 r2 old mid new h k = record {
  room_is = k.room_is;
  first = k.first ∙ ap (λ f. judged f B) h.first ∙ sym (judged-append old.first A B);
  context = k.context ∙ h.context;
  names_come = adds_both na nb old.locals.keys mid.locals.keys new.locals.keys h.names_come k.names_come;
}

pub code_sentence : (sites : List Site) (o : Output) (r : Room) (old new : Judge) → Judges sites o old new → JudgesCode sites (room_of r) [] r old new
code_sentence sites o r old new h = record { room_is = refl; first = h.first; context = h.context; names_come = adds_none old.locals.keys new.locals.keys h.locals }

pub code_nothing : (r : Room) (j : Judge) → JudgesCode [] (room_of r) [] r j j
code_nothing r j = record { room_is = refl; first = refl; context = refl; names_come = adds_none j.locals.keys j.locals.keys refl }

-- statements that are judged where others were judged before
pub statements_at : (ctx other : Context) (room : Sites.Room) (given : Room) (ss : Statements) (r : Room) (old new : Judge) → other ≡ ctx → room_of given ≡ room
    → JudgesCode (statements_sites other (room_of given) ss) (room_after_each other (room_of given) ss) (locals_in ss) r old new → JudgesCode (statements_sites ctx room ss) (room_after_each ctx room ss) (locals_in ss) r old new
statements_at ctx other room given ss r old new e f h =
    subst (λ ρ. JudgesCode (statements_sites ctx ρ ss) (room_after_each ctx ρ ss) (locals_in ss) r old new) f
    (subst (λ c. JudgesCode (statements_sites c (room_of given) ss) (room_after_each c (room_of given) ss) (locals_in ss) r old new) e h)

pub code_next : (ctx other : Context) (room given : Room) (s : Statement) (ss : Statements) (r : Room) (old mid new : Judge) → other ≡ ctx
    → JudgesCode (statement_sites ctx (room_of room) s) (room_after ctx (room_of room) s) (locals_of s) given old mid
    → JudgesCode (statements_sites other (room_of given) ss) (room_after_each other (room_of given) ss) (locals_in ss) r mid new
    → JudgesCode (statements_sites ctx (room_of room) (with_statement s ss)) (room_after_each ctx (room_of room) (with_statement s ss)) (locals_in (with_statement s ss)) r old new
code_next ctx other room given s ss r old mid new e h k =
    let ρ = room_after ctx (room_of room) s in
    code_both (statement_sites ctx (room_of room) s) (statements_sites ctx ρ ss) ρ (room_after_each ctx ρ ss) (locals_of s) (locals_in ss) given r old mid new h (statements_at ctx other ρ given ss r mid new e h.room_is k)

pub code_conditional : (ctx c1 c2 : Context) (room r1 r2 : Room) (f : Formula) (first second : Statements) (old v1 v2 v3 : Judge) → c1 ≡ ctx → c2 ≡ ctx
    → Judges (sentence_sites ctx (as_value []) f) (sentence_output ctx (as_value []) f) old v1
    → JudgesCode (statements_sites c1 (room_of room) first) (room_after_each c1 (room_of room) first) (locals_in first) r1 v1 v2
    → JudgesCode (statements_sites c2 (room_of r1) second) (room_after_each c2 (room_of r1) second) (locals_in second) r2 v2 v3
    → JudgesCode (statement_sites ctx (room_of room) (conditional f first second)) (room_after ctx (room_of room) (conditional f first second)) (locals_of (conditional f first second)) r2 old v3
code_conditional ctx c1 c2 room r1 r2 f first second old v1 v2 v3 e1 e2 h k m =
    let ρ = room_after_each ctx (room_of room) first in
    let kk = statements_at ctx c1 (room_of room) room first r1 v1 v2 e1 refl k in
    let mm = statements_at ctx c2 ρ r1 second r2 v2 v3 e2 kk.room_is m in
    code_both (sentence_sites ctx (as_value []) f) (statements_sites ctx (room_of room) first ++ statements_sites ctx ρ second) (room_of room) (room_after_each ctx ρ second) [] (locals_in first ++ locals_in second) room r2 old v1 v3
    (code_sentence (sentence_sites ctx (as_value []) f) (sentence_output ctx (as_value []) f) room old v1 h)
    (code_both (statements_sites ctx (room_of room) first) (statements_sites ctx ρ second) ρ (room_after_each ctx ρ second) (locals_in first) (locals_in second) r1 r2 v1 v2 v3 kk mm)

pub code_requirement : (ctx : Context) (room r : Room) (f : Formula) (old mid new : Judge)
    → Judges (sentence_sites ctx as_requirement f) (sentence_output ctx as_requirement f) old mid
    → view_of new ≡ seen (view_of mid) (counted_from room.witnesses mid.witnesses.items) → room_of r ≡ record (room_of room) { witnesses = room.witnesses - length mid.witnesses.items } → new.locals.keys ≡ mid.locals.keys
    → JudgesCode (statement_sites ctx (room_of room) (requirement f)) (room_after ctx (room_of room) (requirement f)) [] r old new
code_requirement ctx room r f old mid new h e l keys =
    let A = sentence_sites ctx as_requirement f in
    let o = sentence_output ctx as_requirement f in
    record {
      room_is = l ∙ ap (λ ws. record (room_of room) { witnesses = room.witnesses - length ws }) h.witnesses;
      first = ap (λ (v : View). v.first) e ∙ ap (λ ws. judged mid.first (counted_from room.witnesses ws)) h.witnesses ∙ ap (λ g. judged g (counted_from room.witnesses o.witnesses)) h.first ∙ sym (judged-append old.first A (counted_from room.witnesses o.witnesses));
      context = ap (λ (v : View). v.context) e ∙ h.context;
      names_come = adds_none old.locals.keys new.locals.keys (ap texts_of keys ∙ h.locals);
    }

pub code_local : (room inside left : Room) (binders : List Binder) (body : Statements) (old mid end new : Judge)
    → Introduces room.locals binders old mid → inside.locals ≡ room.locals - length binders → inside.witnesses ≡ room.witnesses
    → JudgesCode (statements_sites (context_of mid) (room_of inside) body) (room_after_each (context_of mid) (room_of inside) body) (locals_in body) left mid end
    → view_of new ≡ record (view_of end) { context = with_inside (context_of end) (context_of old).inside } → new.locals.keys ≡ end.locals.keys
    → JudgesCode (statement_sites (context_of old) (room_of room) (with_locals binders body)) (room_after (context_of old) (room_of room) (with_locals binders body)) (locals_of (with_locals binders body)) left old new
code_local room inside left binders body old mid end new h l w k v keys =
    let c = context_of old in
    let inner : context_of mid ≡ with_inside c (c.inside ++ binders) = ap (λ (v : View). v.context) h.judged in
    let ρ : Sites.Room = record (room_of room) { locals = room.locals - length binders } in
    let is : room_of inside ≡ ρ = λ i. record { locals = l i; witnesses = w i } in
    let kk = statements_at (with_inside c (c.inside ++ binders)) (context_of mid) ρ inside body left mid end inner is k in
    let A = locals_sites c room.locals binders in
    let B = statements_sites (with_inside c (c.inside ++ binders)) ρ body in
    record {
      room_is = kk.room_is;
      first = ap (λ (v : View). v.first) v ∙ kk.first ∙ ap (λ f. judged f B) (ap (λ (v : View). v.first) h.judged) ∙ sym (judged-append old.first A B);
      context = ap (λ (v : View). v.context) v ∙ ap (λ d. with_inside d c.inside) (kk.context ∙ inner);
      names_come = adds_both (binder_names binders) (locals_in body) old.locals.keys mid.locals.keys new.locals.keys h.names (subst (AddsNames (locals_in body) mid.locals.keys) (sym keys) kk.names_come);
    }

-- where the parameters and locals inside a block end
pub inner_inside : (binders : List Binder) (old mid end : Judge) (room : ℕ) → Introduces room binders old mid → context_of end ≡ context_of mid → (context_of end).inside ≡ (context_of old).inside ++ binders
inner_inside binders old mid end room h e = ap (λ (c : Context). c.inside) (e ∙ ap (λ (v : View). v.context) h.judged)

-- the look-up of a parameter or local
pub copied_some : {X : Type 0} (r : Option (Bor X)) → is_some r ≡ is_some (option_copied r)
copied_some None = refl
copied_some (Some b) = refl

-- the parameters and locals outside a block
pub outside_of : (xs : List (Bor Binder)) (outer own : List Binder) (outside : ℕ) → binders_in xs ≡ outer ++ own → outside ≡ length outer → binders_in (take outside xs) ≡ outer
outside_of xs outer own outside e f = binders_in-take outside xs ∙ ap (take outside) e ∙ ap (λ n. take n (outer ++ own)) f ∙ take-append_seam outer own
