-- The structure after an update.
use Rattle.std.proofs.Common.{◌≡◌, ◌≢◌, ℕ, zero, suc, ◌+◌, ◌*◌, ◌<◌, ◌&&◌, ◌++◌, Bool, true, false, List, [], ◌∷◌, length, get_or, set, take, drop, map, Option, Some, slice_get, Vec, sym, ap, ◌∙◌, refl, subst, arith, get_or-set_other, get_or-set_same}
use Rattle.std.specs.Prelude.{nat_eq, if◌then◌else◌}
use Rattle.std.specs.List.{All}
use Rattle.std.specs.Vec.{with_item, with_items}
use Rattle.std.specs.declared.alloc.Global.{Global}
use Rattle.std.proofs.lemmas.List.{length-map, length-set, map-set, get_or-map, take-append-le, take_all}
use Rattle.std.proofs.lemmas.Option.{same_Some}
use Rattle.std.proofs.lemmas.Bool.Decides.{nat_tests}
use Rattle.dai_model.specs.Formula.{Term, Formula, update_relation, update_individual}
use Rattle.dai_model.specs.Protocol.{Protocol, Relation, Individual}
use Rattle.dai_model.specs.Structure as Model
use Rattle.dai_model.specs.Structure.{is_tuple, is_tuple_for, is_tuple_of}
use Rattle.dai_model.specs.Value.{Environment, value_of, value_of_term}
use Rattle.dai_model.specs.Execution.{matches, bind_target, after_relation, after_individual}
use Rattle.dai_model.proofs.Typed.{slice_get-length, term_fits}
use Rattle.dai_logic.specs.declared.structure.Structure.{Structure}
use Rattle.dai_logic.specs.Tables.{structure_of, tables_of, bits_of, bit_in, tuple_count, tuple_place, Fits, IsRunnableStatement, IsWritable, IsWritten, AreAsLong}
use Rattle.dai_logic.proofs.Environments.{set_at}
use Rattle.dai_logic.proofs.Tuples.{fits_structure}

-- the whole target of an update can be written
pub update_writable : (P : Protocol) (s : Structure) (env : Environment) (r : ℕ) (ts : List Term) (f : Formula) (sorts : List ℕ) → Fits P s → ((R : Relation) → slice_get P.relations r ≡ Some R → All (λ sort. sort < length P.sorts) R.arguments) → ((R : Relation) → slice_get P.relations r ≡ Some R → sorts ≡ R.arguments) → IsRunnableStatement P s.sizes.items env (update_relation r ts f) → IsWritable P s.sizes.items env ts sorts f
update_writable P s env r ts f sorts fits declared same_sorts h =
    let R = h.sorted.0 in
    let found = h.sorted.1 in
    let own : IsWritable P s.sizes.items env ts R.arguments f = record {
      scope = h.scope;
      known = λ k d below. let inside = declared R found k d below in let one = fits.one_size_each in omega arith;
      terms = h.sorted.2.0;
      sorted = h.sorted.2.1;
      gives = h.gives;
    } in
    subst (λ xs. IsWritable P s.sizes.items env ts xs f) (sym (same_sorts R found)) own

-- lists of tables that are as long have as long tables
pub as_many : (xs ys : List (List Bool)) → AreAsLong xs ys → length xs ≡ length ys
as_many xs ys h = sym (length-map xs (λ (t : List Bool). length t)) ∙ (ap length h ∙ length-map ys (λ (t : List Bool). length t))

pub as_long_at : (xs ys : List (List Bool)) (r : ℕ) → AreAsLong xs ys → length (get_or xs r []) ≡ length (get_or ys r [])
as_long_at [] [] r h = refl
as_long_at [] (y ∷ ys) r h = absurd (let k : ⊥ = cc in k)
as_long_at (x ∷ xs) [] r h = absurd (let k : ⊥ = cc in k)
as_long_at (x ∷ xs) (y ∷ ys) zero h = cc
as_long_at (x ∷ xs) (y ∷ ys) (suc r) h = as_long_at xs ys r (tail_long h)
  where
    tail_long : map (λ (t : List Bool). length t) (x ∷ xs) ≡ map (λ (t : List Bool). length t) (y ∷ ys) → map (λ (t : List Bool). length t) xs ≡ map (λ (t : List Bool). length t) ys
    tail_long h = cc

-- the bits of tables with one of them replaced
pub bits_with : (tables : Vec (Vec Bool Global) Global) (r : ℕ) (x : Vec Bool Global) → bits_of (with_item tables r x) ≡ set (bits_of tables) r x.items
bits_with tables r x = map-set (λ (t : Vec Bool Global). t.items) tables.items r x

pub bits_read : (tables : Vec (Vec Bool Global) Global) (r : ℕ) (t : Vec Bool Global) → r < length (bits_of tables) → t ≡ get_or tables.items r t → t.items ≡ get_or (bits_of tables) r []
bits_read tables r t below is =
    let long = length-map tables.items (λ (t : Vec Bool Global). t.items) in
    ap (λ (v : Vec Bool Global). v.items) is ∙ sym (get_or-map (λ (v : Vec Bool Global). v.items) tables.items r t [] (omega arith))

lengths_with : (tables : List (List Bool)) (r : ℕ) (row : List Bool) → map (λ (t : List Bool). length t) (set tables r row) ≡ set (map (λ (t : List Bool). length t) tables) r (length row)
lengths_with tables r row = map-set (λ (t : List Bool). length t) tables r row

pub as_long_with : (xs ys : List (List Bool)) (r : ℕ) (x y : List Bool) → AreAsLong xs ys → length x ≡ length y → AreAsLong (set xs r x) (set ys r y)
as_long_with xs ys r x y h e =
    lengths_with xs r x ∙ (ap (λ ns. set ns r (length x)) h ∙ (ap (λ n. set (map (λ (t : List Bool). length t) ys) r n) e ∙ sym (lengths_with ys r y)))

-- a slice written back to its vector
pub written_items : (v : Vec Bool Global) (ws : List Bool) → length ws ≡ length v.items → (with_items v ws).items ≡ ws
written_items v ws e =
    let long : v.len ≡ length v.items = v.ok.0 in
    ap (λ n. take n (ws ++ drop (length ws) v.items)) (long ∙ sym e) ∙ (take-append-le (length ws) ws (drop (length ws) v.items) (omega arith) ∙ take_all (length ws) ws (omega arith))

row_length : (tables : List (List Bool)) (r : ℕ) (row : List Bool) (q : ℕ) → length row ≡ length (get_or tables r []) → length (get_or (set tables r row) q []) ≡ length (get_or tables q [])
row_length [] r row q h = refl
row_length (t ∷ tables) zero row zero h = h
row_length (t ∷ tables) zero row (suc q) h = refl
row_length (t ∷ tables) (suc r) row zero h = refl
row_length (t ∷ tables) (suc r) row (suc q) h = row_length tables r row q h

-- a structure with as long a table in place of one of its own fits
pub table_fits : (P : Protocol) (s : Structure) (r : ℕ) (x : Vec Bool Global) → Fits P s → length x.items ≡ length (get_or (tables_of s) r []) → Fits P (record s { tables = with_item s.tables r x })
table_fits P s r x fits long = record {
  one_size_each = fits.one_size_each;
  inhabited = fits.inhabited;
  one_table_each = ap length (bits_with s.tables r x) ∙ (length-set (tables_of s) r x.items ∙ fits.one_table_each);
  whole_tables = λ q Q found. ap (λ (xs : List (List Bool)). length (get_or xs q [])) (bits_with s.tables r x) ∙ (row_length (tables_of s) r x.items q long ∙ fits.whole_tables q Q found);
  one_value_each = fits.one_value_each;
  values_inside = fits.values_inside;
}

-- a tuple of the relation that is updated
tuple_written : (s : Model.Structure) (env : Environment) (ts : List Term) (sorts : List ℕ) (f : Formula) (old new : List Bool) (es : List ℕ) (b : Bool) → is_tuple s.sizes sorts es ≡ b → IsWritten s env ts sorts f 0 old new → (if is_tuple s.sizes sorts es && matches s env ts es then value_of s (bind_target env ts es) f else (is_tuple s.sizes sorts es && get_or old (tuple_place s.sizes sorts es) false)) ≡ (is_tuple s.sizes sorts es && get_or new (tuple_place s.sizes sorts es) false)
tuple_written s env ts sorts f old new es false test w = ap (λ t. if t && matches s env ts es then value_of s (bind_target env ts es) f else (t && get_or old (tuple_place s.sizes sorts es) false)) test ∙ ap (λ t. t && get_or new (tuple_place s.sizes sorts es) false) (sym test)
tuple_written s env ts sorts f old new es true test w =
    let place = tuple_place s.sizes sorts es in
    let here : 0 * tuple_count s.sizes sorts + tuple_place s.sizes sorts es ≡ tuple_place s.sizes sorts es = omega arith in
    let inside : get_or new place false ≡ (if matches s env ts es then value_of s (bind_target env ts es) f else get_or old place false) = subst (λ n. get_or new n false ≡ (if matches s env ts es then value_of s (bind_target env ts es) f else get_or old n false)) here (w.inside es test) in
    ap (λ t. if t && matches s env ts es then value_of s (bind_target env ts es) f else (t && get_or old place false)) test
    ∙ (sym inside ∙ ap (λ t. t && get_or new place false) (sym test))

relation_written : (s : Model.Structure) (env : Environment) (ts : List Term) (o : Option Relation) (R : Relation) (f : Formula) (old new : List Bool) (es : List ℕ) → o ≡ Some R → IsWritten s env ts R.arguments f 0 old new → (if is_tuple_for s.sizes o es && matches s env ts es then value_of s (bind_target env ts es) f else (is_tuple_for s.sizes o es && bit_in s.sizes old o es)) ≡ (is_tuple_for s.sizes o es && bit_in s.sizes new o es)
relation_written s env ts o R f old new es found w =
    subst (λ p. (if is_tuple_for s.sizes p es && matches s env ts es then value_of s (bind_target env ts es) f else (is_tuple_for s.sizes p es && bit_in s.sizes old p es)) ≡ (is_tuple_for s.sizes p es && bit_in s.sizes new p es)) (sym found)
    (tuple_written s env ts R.arguments f old new es (is_tuple s.sizes R.arguments es) refl w)

written_holds : (P : Protocol) (s : Structure) (env : Environment) (r : ℕ) (ts : List Term) (f : Formula) (R : Relation) (x : Vec Bool Global) → slice_get P.relations r ≡ Some R → r < length (tables_of s) → IsWritten (structure_of P s) env ts R.arguments f 0 (get_or (tables_of s) r []) x.items → (q : ℕ) (es : List ℕ) (b : Bool) → nat_eq q r ≡ b → (structure_of P (record s { tables = with_item s.tables r x })).holds q es ≡ (after_relation P (structure_of P s) env r ts f).holds q es
written_holds P s env r ts f R x found below w q es false test =
    let S = structure_of P s in
    let other : q ≢ r = grind (arith, nat_tests) in
    let same_table : get_or (bits_of (with_item s.tables r x)) q [] ≡ get_or (tables_of s) q [] = ap (λ (xs : List (List Bool)). get_or xs q []) (bits_with s.tables r x) ∙ get_or-set_other (tables_of s) r q x.items [] other in
    ap (λ table. is_tuple_of P S.sizes q es && bit_in S.sizes table (slice_get P.relations q) es) same_table
    ∙ sym (ap (λ t. if t && (is_tuple_of P S.sizes q es && matches S env ts es) then value_of S (bind_target env ts es) f else S.holds q es) test)
written_holds P s env r ts f R x found below w q es true test =
    let S = structure_of P s in
    let k : q ≡ r = grind (arith, nat_tests) in
    let same_test : nat_eq r r ≡ true = grind (arith, nat_tests) in
    let row : get_or (bits_of (with_item s.tables r x)) r [] ≡ x.items = ap (λ (xs : List (List Bool)). get_or xs r []) (bits_with s.tables r x) ∙ get_or-set_same (tables_of s) r x.items [] below in
    let here : (structure_of P (record s { tables = with_item s.tables r x })).holds r es ≡ (after_relation P S env r ts f).holds r es =
    ap (λ table. is_tuple_of P S.sizes r es && bit_in S.sizes table (slice_get P.relations r) es) row
    ∙ (sym (relation_written S env ts (slice_get P.relations r) R f (get_or (tables_of s) r []) x.items es found w)
    ∙ sym (ap (λ t. if t && (is_tuple_of P S.sizes r es && matches S env ts es) then value_of S (bind_target env ts es) f else S.holds r es) same_test)) in
    subst (λ p. (structure_of P (record s { tables = with_item s.tables r x })).holds p es ≡ (after_relation P S env r ts f).holds p es) (sym k) here

-- the structure after an update of a relation
pub written_structure : (P : Protocol) (s : Structure) (env : Environment) (r : ℕ) (ts : List Term) (f : Formula) (R : Relation) (x : Vec Bool Global) → slice_get P.relations r ≡ Some R → r < length (tables_of s) → IsWritten (structure_of P s) env ts R.arguments f 0 (get_or (tables_of s) r []) x.items → structure_of P (record s { tables = with_item s.tables r x }) ≡ after_relation P (structure_of P s) env r ts f
written_structure P s env r ts f R x found below w = λ i. record {
  sizes = s.sizes.items;
  holds = λ q es. written_holds P s env r ts f R x found below w q es (nat_eq q r) refl i;
  element = λ j. get_or s.values.items j 0;
}

-- an individual's new value is in range
value_inside : (values : List ℕ) (i j e : ℕ) (I J : Individual) (P : Protocol) (sizes : List ℕ) (b : Bool) → nat_eq j i ≡ b → slice_get P.individuals i ≡ Some I → slice_get P.individuals j ≡ Some J → i < length values → e < get_or sizes I.sort 0 → get_or values j 0 < get_or sizes J.sort 0 → get_or (set values i e) j 0 < get_or sizes J.sort 0
value_inside values i j e I J P sizes false test found other below inside old =
    let k : j ≢ i = grind (arith, nat_tests) in
    subst (λ x. x < get_or sizes J.sort 0) (sym (get_or-set_other values i j e 0 k)) old
value_inside values i j e I J P sizes true test found other below inside old =
    let k : j ≡ i = grind (arith, nat_tests) in
    let same_one : I ≡ J = same_Some I J (sym found ∙ (ap (slice_get P.individuals) (sym k) ∙ other)) in
    let here : get_or (set values i e) i 0 < get_or sizes J.sort 0 = subst (λ x. x < get_or sizes J.sort 0) (sym (get_or-set_same values i e 0 below)) (subst (λ (K : Individual). e < get_or sizes K.sort 0) same_one inside) in
    subst (λ x. get_or (set values i e) x 0 < get_or sizes J.sort 0) (sym k) here

pub value_fits : (P : Protocol) (s : Structure) (env : Environment) (i : ℕ) (t : Term) (e : ℕ) → Fits P s → IsRunnableStatement P s.sizes.items env (update_individual i t) → e ≡ value_of_term (structure_of P s) env t → Fits P (record s { values = with_item s.values i e })
value_fits P s env i t e fits h is =
    let I = h.sorted.0 in
    let found = h.sorted.1 in
    let inside : e < get_or s.sizes.items I.sort 0 = subst (λ x. x < get_or s.sizes.items I.sort 0) (sym is) (term_fits P h.scope (structure_of P s) env t I.sort (fits_structure P s fits) h.gives.fits h.sorted.2) in
    let below : i < length s.values.items = let here = slice_get-length P.individuals i I found in let one = fits.one_value_each in omega arith in
    record {
      one_size_each = fits.one_size_each;
      inhabited = fits.inhabited;
      one_table_each = fits.one_table_each;
      whole_tables = fits.whole_tables;
      one_value_each = length-set s.values.items i e ∙ fits.one_value_each;
      values_inside = λ j J other. value_inside s.values.items i j e I J P s.sizes.items (nat_eq j i) refl found other below inside (fits.values_inside j J other);
    }

-- the structure after an update of an individual
pub value_written : (P : Protocol) (s : Structure) (env : Environment) (i : ℕ) (t : Term) (e : ℕ) → Fits P s → IsRunnableStatement P s.sizes.items env (update_individual i t) → e ≡ value_of_term (structure_of P s) env t → structure_of P (record s { values = with_item s.values i e }) ≡ after_individual (structure_of P s) env i t
value_written P s env i t e fits h is =
    let below : i < length s.values.items = let here = slice_get-length P.individuals i h.sorted.0 h.sorted.1 in let one = fits.one_value_each in omega arith in
    λ k. record {
      sizes = s.sizes.items;
      holds = (structure_of P s).holds;
      element = λ j. (set_at s.values.items i e j (nat_eq j i) below refl ∙ ap (λ x. if nat_eq j i then x else get_or s.values.items j 0) is) k;
    }
