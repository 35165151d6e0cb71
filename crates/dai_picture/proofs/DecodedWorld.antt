-- The structure, arguments and choices that are read off an assignment.
use Rattle.std.proofs.Common.{◌≡◌, ◌<◌, ◌≤◌, ◌^◌, ◌&&◌, ℕ, zero, suc, Bool, true, false, List, [], ◌∷◌, length, get_or, map, Option, Some, None, slice_get, Vec, refl, ap, sym, ◌∙◌, subst, arith, inl, inr, ◌⊎◌, lit<}
use Rattle.std.specs.List.{All, range_with_len}
use Rattle.std.specs.declared.alloc.Global.{Global}
use Rattle.std.proofs.lemmas.Bool.{cases_lt}
use Rattle.std.proofs.lemmas.Nat.{mul-le}
use Rattle.std.proofs.lemmas.List.{ext_get_or, get_or-map, get_or_default, get_or_past, length-map}
use Rattle.std.proofs.lemmas.List.Elements.{All-map}
use Rattle.std.proofs.lemmas.List.FromFn.{length-map-range_with_len, get_or-map-range_with_len}
use Rattle.std.proofs.lemmas.Option.{get_or_from_slice_get}
use Rattle.dai_model.specs.Protocol as Model
use Rattle.dai_model.specs.Structure.{Structure, is_tuple, is_tuple_for}
use Rattle.dai_model.proofs.Typed.{slice_get-length}
use Rattle.dai_logic.specs.declared.protocol.Protocol.{Protocol}
use Rattle.dai_logic.specs.declared.layout.Layout.{Layout}
use Rattle.dai_logic.specs.Counts.{tuple_count, tuple_place, tuple_at}
use Rattle.dai_logic.specs.Protocols.{protocol_of, arguments_in}
use Rattle.dai_logic.specs.Strides as Strides
use Rattle.dai_logic.specs.Strides.{AreNumbered}
use Rattle.dai_logic.specs.Tables.{AreFitting, structure_with, bit_in}
use Rattle.dai_logic.proofs.Accepted.{is_accepted, is_protocol}
use Rattle.dai_logic.proofs.Tuples.{place_inside, tuple_of_place}
use Rattle.dai_circuit.specs.declared.bit.Bit.{Bit}
use Rattle.dai_circuit.specs.Circuits.{bit_value}
use Rattle.dai_picture.specs.declared.picture.Frame.{Frame}
use Rattle.dai_picture.specs.declared.picture.Picture.{Picture}
use Rattle.dai_picture.specs.Pictures.{row_at, bit_at, rows_of, MarkEach, Shows, AreRows, slots_of_each, IsFrame, IsPicture}
use Rattle.dai_picture.specs.Decoding.{IsDecodable, AreShort, AreCounted, AreMarked, AreNested, AreTables, table_shown, tables_shown}
use Rattle.dai_picture.proofs.ReadWorld.{many_rows, long_row}
use Rattle.dai_picture.proofs.SameWorld.{none_outside}
use Rattle.dai_picture.proofs.DrawnRows.{frame_grow, picture_grow}
use Rattle.dai_picture.specs.Worlds.{Draws}
use Rattle.dai_trail.specs.Formula.{Formula, AreMetBy}

-- ---- rows are short
pub rows_short : (count : ℕ) (lengths : List ℕ) (rows : List (List Bit)) → AreRows count lengths rows → ((k : ℕ) → get_or lengths k 0 < 2 ^ 16) → AreShort rows
rows_short count lengths rows h small k d l =
    let bound = small k in
    let own = long_row count lengths rows k h l in
    subst (λ (row : List Bit). length row < 2 ^ 16) (get_or_default rows k [] d l) (omega arith)

pub marks_short : (count : ℕ) (slots sorts : List ℕ) (rows : List (List Bit)) → AreRows count (slots_of_each slots sorts) rows → ((k : ℕ) → get_or slots k 0 < 2 ^ 16) → AreShort rows
marks_short count slots sorts rows h small = rows_short count (slots_of_each slots sorts) rows h (λ k. by_cases k (cases_lt k (length sorts)))
  where
    by_cases : (k : ℕ) → (k < length sorts) ⊎ (length sorts ≤ k) → get_or (slots_of_each slots sorts) k 0 < 2 ^ 16
    by_cases k (inl inside) = subst (λ n. n < 2 ^ 16) (sym (get_or-map (λ i. get_or slots i 0) sorts k 0 0 inside)) (small (get_or sorts k 0))
    by_cases k (inr past) =
        let many = length-map sorts (λ i. get_or slots i 0) in
        subst (λ n. n < 2 ^ 16) (sym (get_or_past (slots_of_each slots sorts) k 0 (omega arith))) (lit< tt)

-- ---- sizes
pub sizes_are : (P : Model.Protocol) (parameters choices : List ℕ) (count : ℕ) (frame : Frame) (picture : Picture) (bits : List Bool) (s : Structure) (sizes : List ℕ) → IsFrame P parameters choices count frame → Shows P frame picture bits s → AreCounted bits (rows_of frame.used) sizes → sizes ≡ s.sizes
sizes_are P parameters choices count frame picture bits s sizes f shows counted =
    let many : length (rows_of frame.used) ≡ length P.sorts = many_rows count frame.slots.items (rows_of frame.used) f.used ∙ f.one_each in
    let long = counted.long in
    let own = shows.structure.one_size_each in
    ext_get_or 0 sizes s.sizes (omega arith) (λ k l. counted.each k (get_or s.sizes k 0) (omega arith) (shows.sizes k (omega arith)))

pub fewer : (P : Model.Protocol) (parameters choices : List ℕ) (count : ℕ) (frame : Frame) (picture : Picture) (bits : List Bool) (s : Structure) → IsFrame P parameters choices count frame → Shows P frame picture bits s → (sort : ℕ) → get_or s.sizes sort 0 ≤ get_or frame.slots.items sort 0
fewer P parameters choices count frame picture bits s f shows sort = by_cases (cases_lt sort (length s.sizes))
  where
    by_cases : (sort < length s.sizes) ⊎ (length s.sizes ≤ sort) → get_or s.sizes sort 0 ≤ get_or frame.slots.items sort 0
    by_cases (inl inside) =
        let own = shows.structure.one_size_each in
        let many : length (rows_of frame.used) ≡ length P.sorts = many_rows count frame.slots.items (rows_of frame.used) f.used ∙ f.one_each in
        let within = (shows.sizes sort (omega arith)).within in
        let long = long_row count frame.slots.items (rows_of frame.used) sort f.used (omega arith) in
        omega arith
    by_cases (inr past) = let none = get_or_past s.sizes sort 0 past in omega arith

-- ---- numbers of tuples
pub count_fewer : (sizes slots sorts : List ℕ) → ((sort : ℕ) → get_or sizes sort 0 ≤ get_or slots sort 0) → tuple_count sizes sorts ≤ tuple_count slots sorts
count_fewer sizes slots [] wide = omega arith
count_fewer sizes slots (sort ∷ sorts) wide = mul-le (get_or sizes sort 0) (tuple_count sizes sorts) (get_or slots sort 0) (tuple_count slots sorts) (wide sort) (count_fewer sizes slots sorts wide)

row_bound : (rows : Vec (Vec Bit Global) Global) (r : ℕ) → length (row_at (rows_of rows) r) < 2 ^ 64
row_bound rows r = bound_in rows.items r
  where
    bound_in : (ts : List (Vec Bit Global)) (r : ℕ) → length (get_or (map (λ (t : Vec Bit Global). t.items) ts) r []) < 2 ^ 64
    bound_in [] r = lit< tt
    bound_in (t ∷ ts) zero = let long = t.ok.0 in let few = t.small in omega arith
    bound_in (t ∷ ts) (suc r) = bound_in ts r

pub many_tables : (P : Model.Protocol) (slots : List ℕ) (count : ℕ) (picture : Picture) → IsPicture P slots count picture → length (rows_of picture.tables) ≡ length (arguments_in P)
many_tables P slots count picture p = many_rows count (map (tuple_count slots) (arguments_in P)) (rows_of picture.tables) p.tables ∙ length-map (arguments_in P) (tuple_count slots)

pub long_table : (P : Model.Protocol) (slots : List ℕ) (count : ℕ) (picture : Picture) (r : ℕ) → IsPicture P slots count picture → r < length (arguments_in P) → length (row_at (rows_of picture.tables) r) ≡ tuple_count slots (get_or (arguments_in P) r [])
long_table P slots count picture r p l =
    let many = many_tables P slots count picture p in
    long_row count (map (tuple_count slots) (arguments_in P)) (rows_of picture.tables) r p.tables (omega arith) ∙ get_or-map (tuple_count slots) (arguments_in P) r [] 0 l

pub numbered : (p : Protocol) (slots sizes : List ℕ) (count : ℕ) (picture : Picture) → IsPicture (protocol_of p) slots count picture → length sizes ≡ length (protocol_of p).sorts → All (λ size. 0 < size) sizes → ((sort : ℕ) → get_or sizes sort 0 ≤ get_or slots sort 0) → All (AreNumbered sizes) (arguments_in (protocol_of p))
numbered p slots sizes count picture pic many inhabited wide k d l =
    let P = protocol_of p in
    let declared = All-map (λ (sorts : List ℕ). All (λ sort. sort < length P.sorts) sorts) (λ (R : Model.Relation). R.arguments) P.relations (is_protocol p).relations in
    let long = long_table P slots count picture k pic l in
    let bound = row_bound picture.tables k in
    let less = count_fewer sizes slots (get_or (arguments_in P) k []) wide in
    subst (AreNumbered sizes) (get_or_default (arguments_in P) k [] d l) record {
      known = subst (λ n. All (λ sort. sort < n) (get_or (arguments_in P) k [])) (sym many) (declared k [] l);
      inhabited = inhabited;
      few = omega arith;
    }

-- ---- layouts
pub nested : (P : Model.Protocol) (small wide : Layout) (sizes slots : List ℕ) → Strides.rows_of small.sorts ≡ arguments_in P → Strides.rows_of wide.sorts ≡ arguments_in P → small.sizes.items ≡ sizes → wide.sizes.items ≡ slots → ((sort : ℕ) → get_or sizes sort 0 ≤ get_or slots sort 0) → AreNested small wide
nested P small wide sizes slots e f g h less = record {
  same = f ∙ sym e;
  fewer = λ sort.
      let a = ap (λ xs. get_or xs sort 0) g in
      let b = ap (λ xs. get_or xs sort 0) h in
      let c = less sort in
      omega arith;
}

pub are_tables : (p : Protocol) (wide : Layout) (slots : List ℕ) (count : ℕ) (picture : Picture) → IsPicture (protocol_of p) slots count picture → Strides.rows_of wide.sorts ≡ arguments_in (protocol_of p) → wide.sizes.items ≡ slots → AreTables wide (rows_of picture.tables)
are_tables p wide slots count picture pic e f =
    let P = protocol_of p in
    let many = many_tables P slots count picture pic in
    let args = length-map P.relations (λ (R : Model.Relation). R.arguments) in
    let few = (is_accepted p).profile.few_relations in
    record {
      one_each = many ∙ sym (ap length e);
      few = omega arith;
      long = λ r l. long_table P slots count picture r pic (omega arith) ∙ (λ i. tuple_count (sym f i) (get_or (sym e i) r []));
    }

pub tables_made : (bits : List Bool) (small wide : Layout) (rows : List (List Bit)) (sizes slots : List ℕ) (sorts : List (List ℕ)) → small.sizes.items ≡ sizes → wide.sizes.items ≡ slots → Strides.rows_of small.sorts ≡ sorts → tables_shown bits small wide rows ≡ map (λ r. table_shown bits sizes slots (get_or sorts r []) (row_at rows r)) (range_with_len 0 (length rows))
tables_made bits small wide rows sizes slots sorts e f g = λ i. map (λ r. table_shown bits (e i) (f i) (get_or (g i) r []) (row_at rows r)) (range_with_len 0 (length rows))

-- ---- the structure
pub record AreDecoded (P : Model.Protocol) (slots : List ℕ) (frame : Frame) (picture : Picture) (bits : List Bool) (sizes values : List ℕ) (tables : List (List Bool)) : Type 0 where
  pub counted : AreCounted bits (rows_of frame.used) sizes
  pub marked : AreMarked bits (rows_of picture.values) values
  pub tabled : tables ≡ map (λ r. table_shown bits sizes slots (get_or (arguments_in P) r []) (row_at (rows_of picture.tables) r)) (range_with_len 0 (length (rows_of picture.tables)))

arguments_found : (P : Model.Protocol) (r : ℕ) (R : Model.Relation) → slice_get P.relations r ≡ Some R → (get_or (arguments_in P) r [] ≡ R.arguments) × (r < length (arguments_in P))
arguments_found P r R found =
    let below = slice_get-length P.relations r R found in
    let args = length-map P.relations (λ (Q : Model.Relation). Q.arguments) in
    (get_or-map (λ (Q : Model.Relation). Q.arguments) P.relations r R [] below ∙ ap (λ (Q : Model.Relation). Q.arguments) (get_or_from_slice_get P.relations r R R found), omega arith)

table_at : (P : Model.Protocol) (slots : List ℕ) (count : ℕ) (frame : Frame) (picture : Picture) (bits : List Bool) (sizes values : List ℕ) (tables : List (List Bool)) (r : ℕ) (R : Model.Relation) → IsPicture P slots count picture → AreDecoded P slots frame picture bits sizes values tables → slice_get P.relations r ≡ Some R → get_or tables r [] ≡ table_shown bits sizes slots R.arguments (row_at (rows_of picture.tables) r)
table_at P slots count frame picture bits sizes values tables r R pic d found =
    let many = many_tables P slots count picture pic in
    let args = arguments_found P r R found in
    ap (λ ts. get_or ts r []) d.tabled
    ∙ (get_or-map-range_with_len (λ q. table_shown bits sizes slots (get_or (arguments_in P) q []) (row_at (rows_of picture.tables) q)) 0 (length (rows_of picture.tables)) r r [] (let l = args.1 in omega arith) (omega arith)
    ∙ ap (λ sorts. table_shown bits sizes slots sorts (row_at (rows_of picture.tables) r)) args.0)

pub values_at : (P : Model.Protocol) (slots : List ℕ) (count : ℕ) (frame : Frame) (picture : Picture) (bits : List Bool) (s : Structure) (values : List ℕ) (i : ℕ) → IsPicture P slots count picture → Shows P frame picture bits s → AreMarked bits (rows_of picture.values) values → i < length P.individuals → get_or values i 0 ≡ s.element i
values_at P slots count frame picture bits s values i pic shows marked l =
    let sorts = map (λ (I : Model.Individual). I.sort) P.individuals in
    let many = many_rows count (slots_of_each slots sorts) (rows_of picture.values) pic.values in
    let one = length-map sorts (λ j. get_or slots j 0) in
    let two = length-map P.individuals (λ (I : Model.Individual). I.sort) in
    marked.each i (s.element i) (omega arith) (shows.individuals i l)

many_values : (P : Model.Protocol) (slots : List ℕ) (count : ℕ) (picture : Picture) (bits : List Bool) (values : List ℕ) → IsPicture P slots count picture → AreMarked bits (rows_of picture.values) values → length values ≡ length P.individuals
many_values P slots count picture bits values pic marked =
    let sorts = map (λ (I : Model.Individual). I.sort) P.individuals in
    marked.long ∙ (many_rows count (slots_of_each slots sorts) (rows_of picture.values) pic.values ∙ (length-map sorts (λ j. get_or slots j 0) ∙ length-map P.individuals (λ (I : Model.Individual). I.sort)))

element_is : (P : Model.Protocol) (slots : List ℕ) (count : ℕ) (frame : Frame) (picture : Picture) (bits : List Bool) (s : Structure) (values : List ℕ) (i : ℕ) → IsPicture P slots count picture → Shows P frame picture bits s → AreMarked bits (rows_of picture.values) values → (i < length P.individuals) ⊎ (length P.individuals ≤ i) → get_or values i 0 ≡ s.element i
element_is P slots count frame picture bits s values i pic shows marked (inl inside) = values_at P slots count frame picture bits s values i pic shows marked inside
element_is P slots count frame picture bits s values i pic shows marked (inr past) =
    let many = many_values P slots count picture bits values pic marked in
    get_or_past values i 0 (omega arith) ∙ sym (shows.structure.nothing_outside i past)

holds_is : (P : Model.Protocol) (count : ℕ) (frame : Frame) (picture : Picture) (bits : List Bool) (s : Structure) (sizes values : List ℕ) (tables : List (List Bool)) (r : ℕ) (es : List ℕ) (o : Option Model.Relation) (b : Bool) → IsPicture P frame.slots.items count picture → Shows P frame picture bits s → AreDecoded P frame.slots.items frame picture bits sizes values tables → sizes ≡ s.sizes → slice_get P.relations r ≡ o → is_tuple_for sizes o es ≡ b → (is_tuple_for sizes o es && bit_in sizes (get_or tables r []) o es) ≡ s.holds r es
holds_is P count frame picture bits s sizes values tables r es o false pic shows d same found test =
    ap (λ t. t && bit_in sizes (get_or tables r []) o es) test ∙ sym (none_outside P s r es o shows.structure found (ap (λ xs. is_tuple_for xs o es) (sym same) ∙ test))
holds_is P count frame picture bits s sizes values tables r es None true pic shows d same found test = absurd (let k : ⊥ = cc in k)
holds_is P count frame picture bits s sizes values tables r es (Some R) true pic shows d same found test =
    let row = row_at (rows_of picture.tables) r in
    let slots = frame.slots.items in
    ap (λ t. t && bit_in sizes (get_or tables r []) (Some R) es) test
    ∙ (ap (λ table. get_or table (tuple_place sizes R.arguments es) false) (table_at P slots count frame picture bits sizes values tables r R pic d found)
    ∙ (get_or-map-range_with_len (λ place. bit_value bits (bit_at row (tuple_place slots R.arguments (tuple_at sizes R.arguments place)))) 0 (tuple_count sizes R.arguments) (tuple_place sizes R.arguments es) (tuple_place sizes R.arguments es) false (place_inside sizes R.arguments es test) (omega arith)
    ∙ (ap (λ tuple. bit_value bits (bit_at row (tuple_place slots R.arguments tuple))) (tuple_of_place sizes R.arguments es test)
    ∙ shows.relations r R es found (ap (λ xs. is_tuple xs R.arguments es) (sym same) ∙ test))))

pub structure_is : (P : Model.Protocol) (parameters choices : List ℕ) (count : ℕ) (frame : Frame) (picture : Picture) (bits : List Bool) (s : Structure) (sizes values : List ℕ) (tables : List (List Bool)) → IsFrame P parameters choices count frame → IsPicture P frame.slots.items count picture → Shows P frame picture bits s → AreDecoded P frame.slots.items frame picture bits sizes values tables → structure_with P sizes tables values ≡ s
structure_is P parameters choices count frame picture bits s sizes values tables f pic shows d =
    let same = sizes_are P parameters choices count frame picture bits s sizes f shows d.counted in
    λ i. record {
      sizes = same i;
      holds = λ r es. holds_is P count frame picture bits s sizes values tables r es (slice_get P.relations r) (is_tuple_for sizes (slice_get P.relations r) es) pic shows d same refl refl i;
      element = λ j. element_is P frame.slots.items count frame picture bits s values j pic shows d.marked (cases_lt j (length P.individuals)) i;
    }

pub fitting : (P : Model.Protocol) (parameters choices : List ℕ) (count : ℕ) (frame : Frame) (picture : Picture) (bits : List Bool) (s : Structure) (sizes values : List ℕ) (tables : List (List Bool)) → IsFrame P parameters choices count frame → IsPicture P frame.slots.items count picture → Shows P frame picture bits s → AreDecoded P frame.slots.items frame picture bits sizes values tables → AreFitting P sizes tables values
fitting P parameters choices count frame picture bits s sizes values tables f pic shows d =
    let slots = frame.slots.items in
    let same = sizes_are P parameters choices count frame picture bits s sizes f shows d.counted in
    let st = shows.structure in
    let args = length-map P.relations (λ (R : Model.Relation). R.arguments) in
    record {
      one_size_each = ap length same ∙ st.one_size_each;
      inhabited = subst (λ xs. All (λ size. 0 < size) xs) (sym same) st.inhabited;
      one_table_each = ap length d.tabled ∙ (length-map-range_with_len (λ r. table_shown bits sizes slots (get_or (arguments_in P) r []) (row_at (rows_of picture.tables) r)) 0 (length (rows_of picture.tables)) ∙ (many_tables P slots count picture pic ∙ args));
      whole_tables = λ r R found. ap length (table_at P slots count frame picture bits sizes values tables r R pic d found) ∙ length-map-range_with_len (λ place. bit_value bits (bit_at (row_at (rows_of picture.tables) r) (tuple_place slots R.arguments (tuple_at sizes R.arguments place)))) 0 (tuple_count sizes R.arguments);
      one_value_each = many_values P slots count picture bits values pic d.marked;
      values_inside = λ i I found.
          subst (λ e. e < get_or sizes I.sort 0) (sym (values_at P slots count frame picture bits s values i pic shows d.marked (slice_get-length P.individuals i I found)))
          (subst (λ xs. s.element i < get_or xs I.sort 0) (sym same) (st.elements_inside i I found));
    }

pub marks_are : (bits : List Bool) (rows : List (List Bit)) (es fs : List ℕ) → AreMarked bits rows es → MarkEach bits rows fs → es ≡ fs
marks_are bits rows es fs marked each =
    let m = marked.long in
    let n = each.one_each in
    ext_get_or 0 es fs (omega arith) (λ k l. marked.each k (get_or fs k 0) (omega arith) (each.each k (omega arith)))

-- an assignment that meets the clauses of a drawing can be decoded
pub decodable : (P : Model.Protocol) (parameters choices slots : List ℕ) (exact : Bool) (formula : Formula) (count : ℕ) (frame : Frame) (picture : Picture) (bits : List Bool) → frame.slots.items ≡ slots → IsFrame P parameters choices count frame → IsPicture P slots count picture → Draws P parameters choices exact formula frame picture → count ≤ length bits → AreMetBy formula bits → IsDecodable P frame picture bits
decodable P parameters choices slots exact formula count frame picture bits same f p draws grows met =
    let shown = draws.shows bits met in
    record {
      parameters = parameters;
      locals = choices;
      frame = frame_grow P parameters choices count (length bits) frame f grows;
      picture = subst (λ s. IsPicture P s (length bits) picture) (sym same) (picture_grow P slots count (length bits) picture p grows);
      world = shown.0;
      shown = shown.2;
    }
