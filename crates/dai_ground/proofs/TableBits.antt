-- Tables of relations after an update.
use Rattle.std.proofs.Common.{rules, lit<, ◌≡◌, ◌≢◌, ◌^◌, ◌<◌, ◌≤◌, ◌&&◌, ℕ, zero, suc, Bool, true, false, List, [], ◌∷◌, ◌++◌, length, get_or, set, map, refl, ap, sym, ◌∙◌, subst, arith, Option, Some, None, slice_get, Result, Ok, Err, Vec, Global, ◌⊎◌, inl, inr, get_or-set_same, get_or-set_other}
use Rattle.std.specs.Prelude.{nat_eq, nat_lt, if◌then◌else◌}
use Rattle.std.specs.Option.{option_and_then}
use Rattle.std.specs.List.{All}
use Rattle.std.proofs.lemmas.Bool.{cases_lt}
use Rattle.std.proofs.lemmas.Bool.Decides.{nat_tests}
use Rattle.std.proofs.lemmas.Option.{same_Some, get_or_from_slice_get}
use Rattle.std.proofs.lemmas.List.{get_or-map, length-map, map-set, set-get_or, get_or_append_left, get_or_push, length_push}
use Rattle.std.proofs.lemmas.List.Elements.{All-set, All-push}
use Rattle.dai_base.specs.declared.memory.Spent.{Spent}
use Rattle.dai_model.specs.Protocol.{Protocol, Relation}
use Rattle.dai_model.specs.Structure.{Structure, is_tuple, is_tuple_for, is_tuple_of}
use Rattle.dai_model.specs.Formula.{Term, Formula, update_relation}
use Rattle.dai_model.specs.Value.{Environment, environment_of, value_of}
use Rattle.dai_model.specs.Execution.{matches, bind_target, after_relation, after_statement}
use Rattle.dai_model.specs.WellSorted.{Scope, IsWellSortedStatement, UpdatesWell}
use Rattle.dai_model.proofs.Typed.{and_left, and_right, slice_get-length, statement_structure}
use Rattle.dai_trail.specs.Formula as Clauses
use Rattle.dai_trail.specs.Formula.{AreMetBy}
use Rattle.dai_circuit.specs.declared.bit.Bit.{Bit}
use Rattle.dai_circuit.specs.declared.bit.Bit.TheVariants.{Known}
use Rattle.dai_circuit.specs.Circuits.{bit_value, IsBitBelow, AreBitsBelow, Extends, Defines}
use Rattle.dai_logic.specs.declared.protocol.Protocol.{Protocol as Program}
use Rattle.dai_logic.specs.Counts.{tuple_count, tuple_place, tuple_at}
use Rattle.dai_logic.specs.Strides.{AreNumbered, rows_of as numbers_of}
use Rattle.dai_logic.specs.declared.layout.Layout.{Layout}
use Rattle.dai_logic.specs.Protocols.{protocol_of, arguments_in}
use Rattle.dai_logic.proofs.Accepted.{is_protocol}
use Rattle.dai_logic.proofs.Tuples.{tuple_of_place, place_of_tuple, place_inside, size_inside, lt_from_test, test_from_lt}
use Rattle.dai_picture.specs.declared.picture.Frame.{Frame}
use Rattle.dai_picture.specs.declared.picture.Picture.{Picture}
use Rattle.dai_picture.specs.Pictures.{AreRows, IsPicture, rows_of, row_at, bit_at, Marks}
use Rattle.dai_ground.specs.Grounding.{IsPlaced, Sees}
use Rattle.dai_ground.specs.Findings.{HasValue, Finds}
use Rattle.dai_ground.specs.Choosing.{choice_value}
use Rattle.dai_ground.specs.Leaving.{no_binding, IsFree, IsStatementIn, SeesOutcome, LeavesStatement}
use Rattle.dai_ground.specs.Updating.{IsUpdateIn, IsSeenAt, matches_at, value_there, updated_at, IsUpdatedTable, IsTable, IsLaidOut}
use Rattle.dai_ground.proofs.Findings.{extends_after, has_kept, below_more, all_below_more}
use Rattle.dai_ground.proofs.PlacedRows.{row_long, row_below, many_rows}
use Rattle.dai_ground.proofs.Leavings.{placed_kept, picture_kept}

pub update_kept : (P : Protocol) (frame : Frame) (picture : Picture) (m n : ℕ) (ts : List Term) (sorts : List ℕ) (f : Formula) → m ≤ n → IsUpdateIn P frame picture m ts sorts f → IsUpdateIn P frame picture n ts sorts f
update_kept P frame picture m n ts sorts f le u = record {
  scope = u.scope;
  free = u.free;
  placed = placed_kept P frame picture picture m n no_binding u.scope le (picture_kept P frame.slots.items m n picture le u.placed.pictured) u.placed;
  terms = u.terms;
  body = u.body;
}

-- the bit by the bit that the target matches
pub chosen_finds : (P : Protocol) (frame : Frame) (picture : Picture) (ts : List Term) (sorts es : List ℕ) (f : Formula) (old : Bit) (condition value : Bit) (a b c : Clauses.Formula) (result : Result Bit Spent) → HasValue (IsSeenAt P frame picture ts sorts f es (matches_at ts es)) a condition → Extends a b → HasValue (IsSeenAt P frame picture ts sorts f es (value_there ts es f)) b value → Defines b c result (choice_value condition value old) → Finds (IsSeenAt P frame picture ts sorts f es (updated_at ts es f old)) a c result
chosen_finds P frame picture ts sorts es f old condition value a b c (Err x) h e g d = record { extends = extends_after a b c e d.extends; answer = d.answer }
chosen_finds P frame picture ts sorts es f old condition value a b c (Ok bit) h e g d = record {
  extends = extends_after a b c e d.extends;
  answer = record {
    below = d.answer.below;
    same = λ bits v met is.
        let env = environment_of is.arguments is.choices in
        let met2 = d.extends.keeps bits met in
        let one = h.same bits (matches is.structure env ts es) (e.keeps bits met2) (record { scope = is.scope; structure = is.structure; arguments = is.arguments; choices = is.choices; free = is.free; terms = is.terms; body = is.body; sees = is.sees; tuple = is.tuple; is = refl }) in
        let two = g.same bits (value_of is.structure (bind_target env ts es) f) met2 (record { scope = is.scope; structure = is.structure; arguments = is.arguments; choices = is.choices; free = is.free; terms = is.terms; body = is.body; sees = is.sees; tuple = is.tuple; is = refl }) in
        d.answer.same bits met ∙ ((λ i. if one i then two i else bit_value bits old) ∙ sym is.is);
  };
}

-- where the target is known not to match
pub kept_finds : (P : Protocol) (frame : Frame) (picture : Picture) (ts : List Term) (sorts es : List ℕ) (f : Formula) (old condition : Bit) (a b : Clauses.Formula) → condition ≡ Known false → Extends a b → HasValue (IsSeenAt P frame picture ts sorts f es (matches_at ts es)) b condition → IsBitBelow a.vars old → Finds (IsSeenAt P frame picture ts sorts f es (updated_at ts es f old)) a b (Ok old)
kept_finds P frame picture ts sorts es f old condition a b known e h below = record {
  extends = e;
  answer = record {
    below = below_more a.vars b.vars old e.grows below;
    same = λ bits v met is.
        let env = environment_of is.arguments is.choices in
        let one = h.same bits (matches is.structure env ts es) met (record { scope = is.scope; structure = is.structure; arguments = is.arguments; choices = is.choices; free = is.free; terms = is.terms; body = is.body; sees = is.sees; tuple = is.tuple; is = refl }) in
        let none : false ≡ matches is.structure env ts es = ap (bit_value bits) (sym known) ∙ one in
        (λ i. if none i then value_of is.structure (bind_target env ts es) f else bit_value bits old) ∙ sym is.is;
  };
}

-- the tuples so far
pub updated_none : (P : Protocol) (frame : Frame) (picture : Picture) (ts : List Term) (sorts : List ℕ) (f : Formula) (old : List Bit) (g : Clauses.Formula) → IsUpdatedTable P frame picture ts sorts f old g []
updated_none P frame picture ts sorts f old g = record { below = λ k d l. absurd (omega arith); each = λ place l. absurd (omega arith) }

abbrev pub IsUpdatedAt : Protocol → Frame → Picture → List Term → List ℕ → Formula → List Bit → Clauses.Formula → ℕ → Bit → Type 0
IsUpdatedAt P frame picture ts sorts f old g place bit = HasValue (IsSeenAt P frame picture ts sorts f (tuple_at frame.slots.items sorts place) (updated_at ts (tuple_at frame.slots.items sorts place) f (bit_at old place))) g bit

pub updated_more : (P : Protocol) (frame : Frame) (picture : Picture) (ts : List Term) (sorts : List ℕ) (f : Formula) (old : List Bit) (g h : Clauses.Formula) (table : List Bit) (bit : Bit) (place : ℕ) → Extends g h → length table ≡ place → IsUpdatedTable P frame picture ts sorts f old g table → IsUpdatedAt P frame picture ts sorts f old h place bit → IsUpdatedTable P frame picture ts sorts f old h (table ++ bit ∷ [])
updated_more P frame picture ts sorts f old g h table bit place e long so_far own = record {
  below = All-push (IsBitBelow h.vars) table bit (all_below_more g.vars h.vars table e.grows so_far.below) own.below;
  each = λ k l. at k (cases_lt k place) l;
}
  where
    at : (k : ℕ) → (k < place) ⊎ (place ≤ k) → k < length (table ++ bit ∷ []) → IsUpdatedAt P frame picture ts sorts f old h k (bit_at (table ++ bit ∷ []) k)
    at k (inl before) l =
        let low : k < length table = omega arith in
        subst (IsUpdatedAt P frame picture ts sorts f old h k) (sym (get_or_append_left table (bit ∷ []) (Known false) k low))
        (has_kept _ g h (bit_at table k) e (so_far.each k low))
    at k (inr from) l =
        let len = length_push table bit in
        let here : length table ≡ k = omega arith in
        let same : k ≡ place = omega arith in
        subst (IsUpdatedAt P frame picture ts sorts f old h k) (sym (get_or_push table bit (Known false) k here))
        (subst (λ n. IsUpdatedAt P frame picture ts sorts f old h n bit) (sym same) own)

-- the tuple at a place, read off
pub read_tuple : (slots sorts types sizes es : List ℕ) (place : ℕ) → sizes ≡ slots → types ≡ sorts → place < tuple_count slots sorts → es ≡ tuple_at sizes types place → (es ≡ tuple_at slots sorts place) × (is_tuple slots sorts es ≡ true)
read_tuple slots sorts types sizes es place s t inside is =
    let own : es ≡ tuple_at slots sorts place = is ∙ (λ i. tuple_at (s i) (t i) place) in
    (own, ap (is_tuple slots sorts) own ∙ (place_of_tuple slots sorts place inside).0)

pub updated_as : (P : Protocol) (frame : Frame) (picture : Picture) (ts : List Term) (sorts es : List ℕ) (f : Formula) (row : List Bit) (old : Bit) (g : Clauses.Formula) (place : ℕ) (bit : Bit) → es ≡ tuple_at frame.slots.items sorts place → old ≡ bit_at row place → HasValue (IsSeenAt P frame picture ts sorts f es (updated_at ts es f old)) g bit → IsUpdatedAt P frame picture ts sorts f row g place bit
updated_as P frame picture ts sorts es f row old g place bit e is h =
    subst (λ (xs : List ℕ). HasValue (IsSeenAt P frame picture ts sorts f xs (updated_at ts xs f (bit_at row place))) g bit) e
    (subst (λ b. HasValue (IsSeenAt P frame picture ts sorts f es (updated_at ts es f b)) g bit) is h)

-- the table of the relation that is updated
table_short : (rows : Vec (Vec Bit Global) Global) (r : ℕ) → length (row_at (rows_of rows) r) < 2 ^ 64
table_short rows r = bound_in rows.items r
  where
    bound_in : (rs : List (Vec Bit Global)) (r : ℕ) → length (get_or (map (λ (row : Vec Bit Global). row.items) rs) r []) < 2 ^ 64
    bound_in [] r = lit< tt
    bound_in (row ∷ rs) zero = let long = row.ok.0 in let few = row.small in omega arith
    bound_in (row ∷ rs) (suc r) = bound_in rs r

count_at : (slots : List ℕ) (P : Protocol) (r : ℕ) (R : Relation) → slice_get P.relations r ≡ Some R → get_or (map (tuple_count slots) (arguments_in P)) r 0 ≡ tuple_count slots R.arguments
count_at slots P r R found =
    let below = slice_get-length P.relations r R found in
    let many = length-map P.relations (λ (Q : Relation). Q.arguments) in
    get_or-map (tuple_count slots) (arguments_in P) r [] 0 (omega arith)
    ∙ ap (tuple_count slots) (get_or-map (λ (Q : Relation). Q.arguments) P.relations r R [] below ∙ ap (λ (Q : Relation). Q.arguments) (get_or_from_slice_get P.relations r R R found))

pub relation_table : (P : Protocol) (frame : Frame) (picture : Picture) (count r : ℕ) (R : Relation) → slice_get P.relations r ≡ Some R → IsPicture P frame.slots.items count picture → IsTable frame.slots.items R.arguments count (row_at (rows_of picture.tables) r)
relation_table P frame picture count r R found is = record {
  long = row_long count _ (rows_of picture.tables) r is.tables ∙ count_at frame.slots.items P r R found;
  below = row_below count _ (rows_of picture.tables) r is.tables;
}

pub relation_inside : (P : Protocol) (frame : Frame) (picture : Picture) (count r : ℕ) (R : Relation) → slice_get P.relations r ≡ Some R → IsPicture P frame.slots.items count picture → r < length (rows_of picture.tables)
relation_inside P frame picture count r R found is =
    let below = slice_get-length P.relations r R found in
    let many = many_rows count _ (rows_of picture.tables) is.tables in
    let a = length-map (arguments_in P) (tuple_count frame.slots.items) in
    let b = length-map P.relations (λ (Q : Relation). Q.arguments) in
    omega arith

-- all relations can be numbered where a picture has a table of each
pub layout_numbered : (p : Program) (frame : Frame) (picture : Picture) (count : ℕ) (binding : List ℕ) (scope : Scope) → IsPlaced (protocol_of p) frame picture count binding scope → All (AreNumbered frame.slots.items) (arguments_in (protocol_of p))
layout_numbered p frame picture count binding scope placed = λ k d below.
    let P = protocol_of p in
    let D : Relation = record { name = []; arguments = [] } in
    let many = length-map P.relations (λ (Q : Relation). Q.arguments) in
    let inside : k < length P.relations = omega arith in
    let is : get_or (arguments_in P) k d ≡ (get_or P.relations k D).arguments = get_or-map (λ (Q : Relation). Q.arguments) P.relations k D d inside in
    let known = (is_protocol p).relations k D inside in
    let count_is : length (row_at (rows_of picture.tables) k) ≡ tuple_count frame.slots.items (get_or (arguments_in P) k d) =
    row_long count _ (rows_of picture.tables) k placed.pictured.tables ∙ get_or-map (tuple_count frame.slots.items) (arguments_in P) k d 0 below in
    let short = table_short picture.tables k in
    record {
      known = subst (All (λ sort. sort < length frame.slots.items)) (sym is) (λ j e l. subst (λ n. get_or (get_or P.relations k D).arguments j e < n) (sym placed.drawn.one_each) (known j e l));
      inhabited = placed.drawn.inhabited;
      few = omega arith;
    }

pub statement_update : (P : Protocol) (frame : Frame) (picture : Picture) (count r : ℕ) (ts : List Term) (f : Formula) (sorts : List ℕ) → (st : IsStatementIn P frame picture count (update_relation r ts f)) → sorts ≡ st.sorted.0.arguments → IsUpdateIn P frame picture count ts sorts f
statement_update P frame picture count r ts f sorts st e =
    subst (λ xs. IsUpdateIn P frame picture count ts xs f) (sym e) (record { scope = st.scope; free = st.free; placed = st.placed; terms = st.sorted.2.0; body = st.sorted.2.1 })

-- elements are slots
tuple_in_slots : (P : Protocol) (frame : Frame) (picture : Picture) (count : ℕ) (binding : List ℕ) (scope other : Scope) (bits : List Bool) (s : Structure) (env : Environment) (sorts es : List ℕ) → IsPlaced P frame picture count binding scope → Sees P frame picture bits other s env → is_tuple s.sizes sorts es ≡ true → is_tuple frame.slots.items sorts es ≡ true
tuple_in_slots P frame picture count binding scope other bits s env [] [] placed sees tuple = refl
tuple_in_slots P frame picture count binding scope other bits s env [] (e ∷ es) placed sees tuple = tuple
tuple_in_slots P frame picture count binding scope other bits s env (sort ∷ sorts) [] placed sees tuple = tuple
tuple_in_slots P frame picture count binding scope other bits s env (sort ∷ sorts) (e ∷ es) placed sees tuple =
    let below : e < get_or s.sizes sort 0 = lt_from_test e (get_or s.sizes sort 0) (and_left (nat_lt e (get_or s.sizes sort 0)) _ tuple) in
    let inside = size_inside s.sizes sort e below in
    let one = sees.shows.structure.one_size_each in
    let within = (sees.shows.sizes sort (omega arith)).within in
    let long = row_long count _ (rows_of frame.used) sort placed.drawn.used in
    let fits : e < get_or frame.slots.items sort 0 = omega arith in
    (λ i. test_from_lt e (get_or frame.slots.items sort 0) fits i && tuple_in_slots P frame picture count binding scope other bits s env sorts es placed sees (and_right (nat_lt e (get_or s.sizes sort 0)) _ tuple) i)

rows_set : (count : ℕ) (lengths : List ℕ) (rows : List (List Bit)) (k : ℕ) (row : List Bit) → length row ≡ get_or lengths k 0 → AreBitsBelow count row → AreRows count lengths rows → AreRows count lengths (set rows k row)
rows_set count lengths rows k row long below are = record {
  long = map-set (λ (r : List Bit). length r) rows k row ∙ (ap (λ ls. set ls k (length row)) are.long ∙ (ap (set lengths k) long ∙ set-get_or lengths k 0));
  below = All-set (AreBitsBelow count) rows k row below are.below;
}

pub table_leaves : (P : Protocol) (frame : Frame) (old new : Picture) (r : ℕ) (ts : List Term) (f : Formula) (R : Relation) (a g : Clauses.Formula) (ok : Bit) (table : List Bit) → slice_get P.relations r ≡ Some R → Extends a g → IsStatementIn P frame old a.vars (update_relation r ts f) → IsBitBelow g.vars ok → length table ≡ length (row_at (rows_of old.tables) r) → IsUpdatedTable P frame old ts R.arguments f (row_at (rows_of old.tables) r) g table → rows_of new.tables ≡ set (rows_of old.tables) r table → rows_of new.values ≡ rows_of old.values → LeavesStatement P frame (update_relation r ts f) old ok g new ok
table_leaves P frame old new r ts f R a g ok table found e st ok_below long updated tables values =
    let inside = relation_inside P frame old a.vars r R found st.placed.pictured in
    let is = relation_table P frame old a.vars r R found st.placed.pictured in
    record {
      below = ok_below;
      pictured = record {
        tables = subst (AreRows g.vars _) (sym tables) (rows_set g.vars _ (rows_of old.tables) r table (long ∙ row_long a.vars _ (rows_of old.tables) r st.placed.pictured.tables) updated.below (picture_kept P frame.slots.items a.vars g.vars old e.grows st.placed.pictured).tables);
        values = subst (AreRows g.vars _) (sym values) (picture_kept P frame.slots.items a.vars g.vars old e.grows st.placed.pictured).values;
      };
      shows = λ bits scope arguments choices outcome met free sorted sees. by_outcome inside is.long bits scope arguments choices outcome met free sorted sees;
    }
  where
    tuple_of_relation : (s : Structure) (Q : Relation) (q : ℕ) (es : List ℕ) → slice_get P.relations q ≡ Some Q → is_tuple s.sizes Q.arguments es ≡ true → is_tuple_of P s.sizes q es ≡ true
    tuple_of_relation s Q q es known tuple = ap (λ o. is_tuple_for s.sizes o es) known ∙ tuple

    here : (bits : List Bool) (scope : Scope) (arguments choices : List ℕ) (s : Structure) (es : List ℕ) → length (row_at (rows_of old.tables) r) ≡ tuple_count frame.slots.items R.arguments → AreMetBy g bits → IsFree scope → UpdatesWell P scope ts f R → Sees P frame old bits scope s (environment_of arguments choices) → is_tuple s.sizes R.arguments es ≡ true → bit_value bits (bit_at table (tuple_place frame.slots.items R.arguments es)) ≡ (if matches s (environment_of arguments choices) ts es then value_of s (bind_target (environment_of arguments choices) ts es) f else s.holds r es)
    here bits scope arguments choices s es many met free well sees tuple =
        let slots = frame.slots.items in
        let env = environment_of arguments choices in
        let place = tuple_place slots R.arguments es in
        let own = tuple_in_slots P frame old a.vars no_binding st.scope scope bits s env R.arguments es st.placed sees tuple in
        let below = place_inside slots R.arguments es own in
        let at : tuple_at slots R.arguments place ≡ es = tuple_of_place slots R.arguments es own in
        let before = sees.shows.relations r R es found (search (rules, tuple)) in
        let h : HasValue (IsSeenAt P frame old ts R.arguments f es (updated_at ts es f (bit_at (row_at (rows_of old.tables) r) place))) g (bit_at table place) =
        subst (λ (xs : List ℕ). HasValue (IsSeenAt P frame old ts R.arguments f xs (updated_at ts xs f (bit_at (row_at (rows_of old.tables) r) place))) g (bit_at table place)) at (updated.each place (omega arith)) in
        h.same bits (if matches s env ts es then value_of s (bind_target env ts es) f else s.holds r es) met (record {
          scope = scope;
          structure = s;
          arguments = arguments;
          choices = choices;
          free = free;
          terms = well.0;
          body = well.1;
          sees = sees;
          tuple = search (rules, tuple);
          is = ap (λ b. if matches s env ts es then value_of s (bind_target env ts es) f else b) (sym before);
        })

    at_relation : (bits : List Bool) (scope : Scope) (arguments choices : List ℕ) (s : Structure) (q : ℕ) (Q : Relation) (es : List ℕ) (b : Bool) → nat_eq q r ≡ b → r < length (rows_of old.tables) → length (row_at (rows_of old.tables) r) ≡ tuple_count frame.slots.items R.arguments → AreMetBy g bits → IsFree scope → UpdatesWell P scope ts f R → Sees P frame old bits scope s (environment_of arguments choices) → slice_get P.relations q ≡ Some Q → is_tuple s.sizes Q.arguments es ≡ true → bit_value bits (bit_at (row_at (set (rows_of old.tables) r table) q) (tuple_place frame.slots.items Q.arguments es)) ≡ (if b && (is_tuple_of P s.sizes q es && matches s (environment_of arguments choices) ts es) then value_of s (bind_target (environment_of arguments choices) ts es) f else s.holds q es)
    at_relation bits scope arguments choices s q Q es true test inside many met free well sees known tuple =
        let k : q ≡ r = grind (arith, nat_tests) in
        let same : Q ≡ R = same_Some Q R (sym known ∙ (ap (slice_get P.relations) k ∙ found)) in
        let row : row_at (set (rows_of old.tables) r table) q ≡ table = ap (λ n. get_or (set (rows_of old.tables) r table) n []) k ∙ get_or-set_same (rows_of old.tables) r table [] inside in
        let there : is_tuple s.sizes R.arguments es ≡ true = subst (λ (T : Relation). is_tuple s.sizes T.arguments es ≡ true) same tuple in
        (λ i. bit_value bits (bit_at (row i) (tuple_place frame.slots.items (same i).arguments es)))
        ∙ (here bits scope arguments choices s es many met free well sees there
        ∙ (λ i. if (sym (tuple_of_relation s Q q es known tuple) i) && matches s (environment_of arguments choices) ts es then value_of s (bind_target (environment_of arguments choices) ts es) f else s.holds (sym k i) es))
    at_relation bits scope arguments choices s q Q es false test inside many met free well sees known tuple =
        let k : q ≢ r = grind (arith, nat_tests) in
        ap (λ (row : List Bit). bit_value bits (bit_at row (tuple_place frame.slots.items Q.arguments es))) (get_or-set_other (rows_of old.tables) r q table [] k)
        ∙ sees.shows.relations q Q es known (search (rules, tuple))

    by_outcome : r < length (rows_of old.tables) → length (row_at (rows_of old.tables) r) ≡ tuple_count frame.slots.items R.arguments → (bits : List Bool) (scope : Scope) (arguments choices : List ℕ) (outcome : Option Structure) → AreMetBy g bits → IsFree scope → IsWellSortedStatement P scope (update_relation r ts f) → SeesOutcome P frame old ok bits scope arguments choices outcome → SeesOutcome P frame new ok bits scope arguments choices (option_and_then (after_statement P (environment_of arguments choices) (update_relation r ts f)) outcome)
    by_outcome inside many bits scope arguments choices None met free sorted sees = sees
    by_outcome inside many bits scope arguments choices (Some s) met free sorted sees =
        let env = environment_of arguments choices in
        let same : sorted.0 ≡ R = same_Some sorted.0 R (sym sorted.1 ∙ found) in
        let well : UpdatesWell P scope ts f R = subst (UpdatesWell P scope ts f) same sorted.2 in (
          sees.0,
          record {
            shows = record {
              structure = statement_structure P scope env (update_relation r ts f) s (after_relation P s env r ts f) sorted sees.1.fits sees.1.shows.structure refl;
              sizes = sees.1.shows.sizes;
              relations = λ q Q es known tuple.
                  ap (λ (rows : List (List Bit)). bit_value bits (bit_at (row_at rows q) (tuple_place frame.slots.items Q.arguments es))) tables
                  ∙ at_relation bits scope arguments choices s q Q es (nat_eq q r) refl inside many met free well sees.1 known (search (rules, tuple));
              individuals = λ i l. subst (λ (rows : List (List Bit)). Marks bits (row_at rows i) (s.element i)) (sym values) (sees.1.shows.individuals i l);
            };
            parameters = sees.1.parameters;
            choices = sees.1.choices;
            fits = sees.1.fits;
          },
        )

pub laid_out : (P : Protocol) (slots sorts : List ℕ) (layout : Layout) (r : ℕ) (R : Relation) → slice_get P.relations r ≡ Some R → layout.sizes.items ≡ slots → numbers_of layout.sorts ≡ arguments_in P → sorts ≡ R.arguments → IsLaidOut slots sorts layout r
laid_out P slots sorts layout r R found sizes types same =
    let below = slice_get-length P.relations r R found in
    let many = length-map P.relations (λ (Q : Relation). Q.arguments) in
    let one = ap (λ (xs : List (List ℕ)). length xs) types in
    record {
      known = omega arith;
      sizes = sizes;
      types = ap (λ (xs : List (List ℕ)). get_or xs r []) types ∙ (get_or-map (λ (Q : Relation). Q.arguments) P.relations r R [] below ∙ (ap (λ (Q : Relation). Q.arguments) (get_or_from_slice_get P.relations r R R found) ∙ sym same));
    }
