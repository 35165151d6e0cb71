-- Look-ups in the table of names.
use Rattle.std.proofs.Common.{◌≡◌, ℕ, suc, ◌<◌, ◌≤◌, ◌+◌, Bool, true, false, ◌||◌, cond, List, [], ◌∷◌, ◌++◌, length, get_or, take, min, Some, None, Option, map, ap, sym, ◌∙◌, refl, slice_get, if◌then◌else◌, Vec, arith}
use Rattle.std.specs.declared.alloc.Global.{Global}
use Rattle.std.specs.Borrow.{Bor}
use Rattle.std.specs.Prelude.{find, is_some, IfSome, MatchOption}
use Rattle.std.specs.Option.{option_copied, option_or}
use Rattle.std.specs.Slice.{IsItemAt}
use Rattle.std.specs.List.{HoldsAt, position_from}
use Rattle.std.proofs.lemmas.Option.{slice_get_past, slice_get_read}
use Rattle.indexmap.specs.IndexMap.{insert_entry}
use Rattle.dai_syntax.specs.Tree.{Declaration}
use Rattle.dai_rules.specs.Names.{same_text, declares, first_place, first_declaration}
use Rattle.dai_rules.specs.Tables.{place_in, ArePlaces}
use Rattle.dai_rules.specs.Names.{is_among}
use Rattle.dai_rules.proofs.Keys.{or_assoc}
use Rattle.dai_rules.proofs.Lists.{map-take_more}
use Rattle.dai_syntax.specs.declared.tree.Decl.{Decl}
use Rattle.dai_syntax.specs.Trees.{declaration_of}
use Rattle.std.proofs.lemmas.List.Folds.{list_any-append}
use Rattle.std.proofs.lemmas.List.{length-map, length-take}

found_at_front : (b : Bool) (i : ℕ) (o : Option ℕ) (d : Declaration) (p : Option Declaration) → (o ≡ None → p ≡ None) → cond b (Some i) o ≡ None → cond b (Some d) p ≡ None
found_at_front true i o d p further h = absurd (let k : ⊥ = cc in k)
found_at_front false i o d p further h = further h

-- where no declaration passes, none is found
pub found_from : (test : Declaration → Bool) (i : ℕ) (ds : List Declaration) → position_from test i ds ≡ None → find test ds ≡ None
found_from test i [] h = refl
found_from test i (d ∷ ds) h = found_at_front (test d) i (position_from test (i + 1) ds) d (find test ds) (found_from test (i + 1) ds) h

place_at_front : (b : Bool) (k i : ℕ) (o : Option ℕ) (d : Declaration) (ds : List Declaration) (p : Option Declaration) → (o ≡ Some i → (j : ℕ) × (i ≡ (k + 1) + j) × (slice_get ds j ≡ p)) → cond b (Some k) o ≡ Some i → (j : ℕ) × (i ≡ k + j) × (slice_get (d ∷ ds) j ≡ cond b (Some d) p)
place_at_front true k i o d ds p further h = (0, (let e : k ≡ i = cc in omega (arith, e)), refl)
place_at_front false k i o d ds p further h = let w = further h in (suc w.0, omega (arith, w.1), w.2)

pub place_of_found : (test : Declaration → Bool) (k i : ℕ) (ds : List Declaration) → position_from test k ds ≡ Some i → (j : ℕ) × (i ≡ k + j) × (slice_get ds j ≡ find test ds)
place_of_found test k i [] h = absurd (let e : ⊥ = cc in e)
place_of_found test k i (d ∷ ds) h = place_at_front (test d) k i (position_from test (k + 1) ds) d ds (find test ds) (place_of_found test (k + 1) i ds) h

pub none_first : (ds : List Declaration) (x : List ℕ) → first_place ds x ≡ None → first_declaration ds x ≡ None
none_first ds x h = found_from (declares x) 0 ds h

pub some_first : (ds : List Declaration) (x : List ℕ) (i : ℕ) → first_place ds x ≡ Some i → slice_get ds i ≡ first_declaration ds x
some_first ds x i h =
    let w = place_of_found (declares x) 0 i ds h in
    let e : i ≡ w.0 = omega (arith, w.1) in
    ap (slice_get ds) e ∙ w.2

item_copied_by : {X : Type 0} (xs : List X) (i : ℕ) (r : Option (Bor X)) (Q : Bor X → Type 0) → IfSome r (λ x. x.now ≡ get_or xs i x.now) → MatchOption r (length xs ≤ i) (λ x. (i < length xs) × Q x) → option_copied r ≡ slice_get xs i
item_copied_by xs i None Q is m = sym (slice_get_past xs i m)
item_copied_by xs i (Some b) Q is m = sym (slice_get_read xs (length xs) i b.now refl m.0 is)

-- a look-up by a place gives the item there
pub item_copied : {X : Type 0} (xs : List X) (i : ℕ) (r : Option (Bor X)) → IsItemAt xs i r → option_copied r ≡ slice_get xs i
item_copied xs i r h = item_copied_by xs i r (λ x. HoldsAt (λ y. x.now ≡ y) xs i) h.1 h.3

-- the place of one more declaration
more_at_front : (b : Bool) (k : ℕ) (o p : Option ℕ) (rest : Option ℕ) → o ≡ option_or p rest → cond b (Some k) o ≡ option_or (cond b (Some k) p) rest
more_at_front true k o p rest h = refl
more_at_front false k o p rest h = h

last_place : (b : Bool) (k : ℕ) → cond b (Some k) None ≡ (if b then Some (k + 0) else None)
last_place true k = ap Some (omega arith)
last_place false k = refl

pub one_more_place : (test : Declaration → Bool) (k : ℕ) (ds : List Declaration) (d : Declaration) → position_from test k (ds ++ d ∷ []) ≡ option_or (position_from test k ds) (if test d then Some (k + length ds) else None)
one_more_place test k [] d = last_place (test d) k
one_more_place test k (e ∷ ds) d =
    let n : (k + 1) + length ds ≡ k + length (e ∷ ds) = omega arith in
    more_at_front (test e) k (position_from test (k + 1) (ds ++ d ∷ [])) (position_from test (k + 1) ds) (if test d then Some (k + length (e ∷ ds)) else None)
    (one_more_place test (k + 1) ds d ∙ ap (λ m. option_or (position_from test (k + 1) ds) (if test d then Some m else None)) n)

-- the entries after a new name
new_at_front : (b c : Bool) (v w : ℕ) (o p rest : Option ℕ) → o ≡ option_or p rest → cond b (Some v) o ≡ option_or (cond b (Some v) p) rest
new_at_front true c v w o p rest h = refl
new_at_front false c v w o p rest h = h

none_left : (b : Bool) (v : ℕ) (o : Option ℕ) → cond b (Some v) o ≡ None → (b ≡ false) × (o ≡ None)
none_left true v o h = absurd (let k : ⊥ = cc in k)
none_left false v o h = (refl, h)

abbrev key_eq : Vec ℕ Global → Vec ℕ Global → Bool
key_eq a b = same_text a.items b.items

inserted_first : (b : Bool) (e : Vec ℕ Global × ℕ) (es inserted : List (Vec ℕ Global × ℕ)) (v : ℕ) → b ≡ false → (if b then (e.0, v) ∷ es else e ∷ inserted) ≡ e ∷ inserted
inserted_first true e es inserted v h = absurd (let k : ⊥ = cc in k)
inserted_first false e es inserted v h = refl

last_entry : (b : Bool) (v : ℕ) → cond b (Some v) None ≡ (if b then Some v else None)
last_entry true v = refl
last_entry false v = refl

pub place_in-insert_entry : (es : List (Vec ℕ Global × ℕ)) (key : Vec ℕ Global) (v : ℕ) (x : List ℕ) → place_in es key.items ≡ None → place_in (insert_entry key_eq es key v) x ≡ option_or (place_in es x) (if same_text x key.items then Some v else None)
place_in-insert_entry [] key v x h = last_entry (same_text x key.items) v
place_in-insert_entry (e ∷ es) key v x h =
    let w = none_left (same_text key.items e.0.items) e.1 (place_in es key.items) h in
    ap (λ entries. place_in entries x) (inserted_first (key_eq key e.0) e es (insert_entry key_eq es key v) v w.0)
    ∙ new_at_front (same_text x e.0.items) false e.1 v (place_in (insert_entry key_eq es key v) x) (place_in es x) (if same_text x key.items then Some v else None) (place_in-insert_entry es key v x w.1)

pub none_copied : {X : Type 0} (r : Option (Bor X)) → is_some r ≡ false → option_copied r ≡ None
none_copied None h = refl
none_copied (Some b) h = absurd (let k : ⊥ = cc in k)

-- names that come in two parts
pub added_twice : (x : List ℕ) (old mid new : Bool) (first second all : List (List ℕ)) → mid ≡ (old || is_among x first) → new ≡ (mid || is_among x second) → all ≡ first ++ second → new ≡ (old || is_among x all)
added_twice x old mid new first second all e f g =
    f ∙ ap (λ b. b || is_among x second) e ∙ sym (or_assoc old (is_among x first) (is_among x second))
    ∙ ap (λ b. old || b) (sym (list_any-append (same_text x) first second)) ∙ ap (λ names. old || is_among x names) (sym g)

-- the places of the first declarations, after one more declaration
pub places_next : (decls : List Decl) (i : ℕ) (d : Decl) (old new : List (Vec ℕ Global × ℕ)) → i < length decls → d ≡ get_or decls i d
    → ArePlaces (map declaration_of (take i decls)) old → ((x : List ℕ) → place_in new x ≡ option_or (place_in old x) (if declares x (declaration_of d) then Some i else None))
    → ArePlaces (map declaration_of (take (i + 1) decls)) new
places_next decls i d old new below is before added = λ x.
    let front = map declaration_of (take i decls) in
    let front_count : length front ≡ i = length-map (take i decls) declaration_of ∙ length-take i decls ∙ min_left i (length decls) below in
    let count : 0 + length front ≡ i = omega arith in
    added x ∙ ap (λ o. option_or o (if declares x (declaration_of d) then Some i else None)) (before x)
    ∙ ap (λ k. option_or (first_place front x) (if declares x (declaration_of d) then Some k else None)) (sym count)
    ∙ sym (one_more_place (declares x) 0 front (declaration_of d))
    ∙ ap (λ ds. first_place ds x) (sym (map-take_more declaration_of decls i d below is))
  where
    min_left : (i n : ℕ) → i < n → min i n ≡ i
    min_left i n h = omega arith
