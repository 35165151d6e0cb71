-- The world that an assignment shows which meets the clauses.
use Rattle.std.proofs.Common.{◌≡◌, ◌<◌, ◌≤◌, ◌&&◌, ℕ, Bool, true, false, List, [], length, get_or, Option, Some, None, slice_get, refl, ap, sym, ◌∙◌, subst, arith, inl, inr, ◌⊎◌}
use Rattle.std.proofs.lemmas.Bool.{cases_lt, both_ways, ltb-true, le-ltb}
use Rattle.std.proofs.lemmas.List.{get_or_past, get_or_default, get_or-map, length-map, ext_get_or}
use Rattle.std.proofs.lemmas.Option.{get_or_from_slice_get}
use Rattle.dai_model.specs.Protocol.{Protocol, Relation, Individual}
use Rattle.dai_model.specs.Structure.{Structure, IsStructure, is_tuple, is_tuple_for, is_tuple_of}
use Rattle.dai_model.proofs.Typed.{and_left, slice_get-length}
use Rattle.dai_logic.specs.Counts.{tuple_place}
use Rattle.dai_circuit.specs.declared.bit.Bit.{Bit}
use Rattle.dai_circuit.specs.declared.bit.Bit.TheVariants.{Known}
use Rattle.dai_circuit.specs.Circuits.{bit_value}
use Rattle.dai_picture.specs.declared.picture.Frame.{Frame}
use Rattle.dai_picture.specs.declared.picture.Picture.{Picture}
use Rattle.dai_picture.specs.Pictures.{row_at, bit_at, rows_of, Marks, MarkEach, Counts, AreRows, slots_of_each, IsFrame, IsPicture}
use Rattle.dai_picture.specs.Rows.{is_known}
use Rattle.dai_picture.specs.Drawing.{AreRuled, known_of}
use Rattle.dai_picture.specs.Worlds.{World, IsWorld, ShowsWorld, AreSizesWithin}
use Rattle.dai_picture.proofs.Declared.{sorts_in}
use Rattle.dai_picture.proofs.Choices.{AreChosen, choose, tuple_from, zip_from}

-- ---- lengths of rows
pub many_rows : (count : ℕ) (lengths : List ℕ) (rows : List (List Bit)) → AreRows count lengths rows → length rows ≡ length lengths
many_rows count lengths rows h = sym (length-map rows (λ (row : List Bit). length row)) ∙ ap length h.long

pub long_row : (count : ℕ) (lengths : List ℕ) (rows : List (List Bit)) (k : ℕ) → AreRows count lengths rows → k < length rows → length (row_at rows k) ≡ get_or lengths k 0
long_row count lengths rows k h l = sym (get_or-map (λ (row : List Bit). length row) rows k [] 0 l) ∙ ap (λ xs. get_or xs k 0) h.long

pub many_marks : (count : ℕ) (slots sorts : List ℕ) (rows : List (List Bit)) → AreRows count (slots_of_each slots sorts) rows → length rows ≡ length sorts
many_marks count slots sorts rows h = many_rows count (slots_of_each slots sorts) rows h ∙ length-map sorts (λ i. get_or slots i 0)

-- a slot that is used is an element
pub used_inside : (bits : List Bool) (row : List Bit) (size e : ℕ) → Counts bits row size → bit_value bits (bit_at row e) ≡ true → e < size
used_inside bits row size e counts used = by_cases (cases_lt e (length row))
  where
    by_cases : (e < length row) ⊎ (length row ≤ e) → e < size
    by_cases (inl inside) = ltb-true e size (sym (counts.front e inside) ∙ used)
    by_cases (inr past) = absurd (both_ways (bit_value bits (bit_at row e)) (ap (bit_value bits) (get_or_past row e (Known false) past)) used)

pub element_inside : (bits : List Bool) (used : List (List Bit)) (sizes : List ℕ) (sort e : ℕ) → ((k : ℕ) → k < length used → Counts bits (row_at used k) (get_or sizes k 0)) → bit_value bits (bit_at (row_at used sort) e) ≡ true → e < get_or sizes sort 0
element_inside bits used sizes sort e counts here = by_cases (cases_lt sort (length used))
  where
    by_cases : (sort < length used) ⊎ (length used ≤ sort) → e < get_or sizes sort 0
    by_cases (inl inside) = used_inside bits (row_at used sort) (get_or sizes sort 0) e (counts sort inside) here
    by_cases (inr past) = absurd (both_ways (bit_value bits (bit_at (row_at used sort) e)) (ap (λ row. bit_value bits (bit_at row e)) (get_or_past used sort [] past)) here)

-- ---- what a picture shows
abbrev pub bit_for : List Bool → List ℕ → List (List Bit) → ℕ → Option Relation → List ℕ → Bool
bit_for bits slots tables r None es = false
bit_for bits slots tables r (Some R) es = bit_value bits (bit_at (row_at tables r) (tuple_place slots R.arguments es))

abbrev pub structure_shown : Protocol → List Bool → List ℕ → List (List Bit) → List ℕ → List ℕ → Structure
structure_shown P bits slots tables sizes values = record {
  sizes = sizes;
  holds = λ r es. is_tuple_of P sizes r es && bit_for bits slots tables r (slice_get P.relations r) es;
  element = λ i. get_or values i 0;
}

-- sizes and elements that the rows give
pub record AreRead (P : Protocol) (parameters choices : List ℕ) (frame : Frame) (picture : Picture) (bits : List Bool) (sizes values chosen given : List ℕ) : Type 0 where
  pub sizes_read : AreChosen (λ k size. (0 < size) × Counts bits (row_at (rows_of frame.used) k) size) (length (rows_of frame.used)) sizes
  pub values_read : AreChosen (λ k e. (bit_value bits (bit_at (row_at (rows_of frame.used) (get_or (sorts_in P) k 0)) e) ≡ true) × Marks bits (row_at (rows_of picture.values) k) e) (length (rows_of picture.values)) values
  pub chosen_read : AreChosen (λ k e. (bit_value bits (bit_at (row_at (rows_of frame.used) (get_or choices k 0)) e) ≡ true) × Marks bits (row_at (rows_of frame.choices) k) e) (length (rows_of frame.choices)) chosen
  pub given_read : AreChosen (λ k e. (bit_value bits (bit_at (row_at (rows_of frame.used) (get_or parameters k 0)) e) ≡ true) × Marks bits (row_at (rows_of frame.arguments) k) e) (length (rows_of frame.arguments)) given

abbrev world_of : Protocol → Frame → Picture → List Bool → List ℕ → List ℕ → List ℕ → List ℕ → World
world_of P frame picture bits sizes values chosen given = record {
  structure = structure_shown P bits frame.slots.items (rows_of picture.tables) sizes values;
  arguments = given;
  choices = chosen;
}

sort_found : (P : Protocol) (i : ℕ) (I : Individual) → slice_get P.individuals i ≡ Some I → get_or (sorts_in P) i 0 ≡ I.sort
sort_found P i I found =
    get_or-map (λ (J : Individual). J.sort) P.individuals i I 0 (slice_get-length P.individuals i I found) ∙ ap (λ (J : Individual). J.sort) (get_or_from_slice_get P.individuals i I I found)

tuple_read : (bits : List Bool) (count : ℕ) (slots sizes sorts es : List ℕ) (used rows : List (List Bit)) → AreRows count (slots_of_each slots sorts) rows → ((k : ℕ) → k < length used → Counts bits (row_at used k) (get_or sizes k 0)) → AreChosen (λ k e. (bit_value bits (bit_at (row_at used (get_or sorts k 0)) e) ≡ true) × Marks bits (row_at rows k) e) (length rows) es → is_tuple sizes sorts es ≡ true
tuple_read bits count slots sizes sorts es used rows h counts read =
    let many = many_marks count slots sorts rows h in
    tuple_from sizes sorts es (read.long ∙ many) (λ k l. element_inside bits used sizes (get_or sorts k 0) (get_or es k 0) counts (read.each k (omega arith)).0)

names_read : (bits : List Bool) (used rows : List (List Bit)) (sorts es : List ℕ) → AreChosen (λ k e. (bit_value bits (bit_at (row_at used (get_or sorts k 0)) e) ≡ true) × Marks bits (row_at rows k) e) (length rows) es → MarkEach bits rows es
names_read bits used rows sorts es read = record { one_each = read.long; each = λ k l. (read.each k l).1 }

holds_read : (P : Protocol) (bits : List Bool) (slots sizes : List ℕ) (tables : List (List Bit)) (r : ℕ) (R : Relation) (es : List ℕ) (o : Option Relation) → o ≡ Some R → is_tuple sizes R.arguments es ≡ true → bit_value bits (bit_at (row_at tables r) (tuple_place slots R.arguments es)) ≡ (is_tuple_for sizes o es && bit_for bits slots tables r o es)
holds_read P bits slots sizes tables r R es o found tuple =
    let here = bit_value bits (bit_at (row_at tables r) (tuple_place slots R.arguments es)) in
    sym (ap (λ p. is_tuple_for sizes p es && bit_for bits slots tables r p es) found ∙ ap (λ b. b && here) tuple)

pub world_read : (P : Protocol) (parameters choices : List ℕ) (count : ℕ) (frame : Frame) (picture : Picture) (bits : List Bool) (exact : Bool) (sizes values chosen given : List ℕ) → IsFrame P parameters choices count frame → IsPicture P frame.slots.items count picture → AreRead P parameters choices frame picture bits sizes values chosen given → AreSizesWithin exact frame.slots.items sizes → (w : World) × IsWorld P parameters choices exact frame.slots.items w × ShowsWorld P frame picture bits w
world_read P parameters choices count frame picture bits exact sizes values chosen given f p read within =
    let U = rows_of frame.used in
    let slots = frame.slots.items in
    let many : length U ≡ length P.sorts = many_rows count slots U f.used ∙ f.one_each in
    let counts : (k : ℕ) → k < length U → Counts bits (row_at U k) (get_or sizes k 0) = λ k l. (read.sizes_read.each k l).1 in
    let long = read.sizes_read.long in
    let individuals : length (rows_of picture.values) ≡ length P.individuals = many_marks count slots (sorts_in P) (rows_of picture.values) p.values ∙ length-map P.individuals (λ (I : Individual). I.sort) in
    let s = structure_shown P bits slots (rows_of picture.tables) sizes values in
    let is : IsStructure P s = record {
      one_size_each = long ∙ many;
      inhabited = λ k d l. subst (λ size. 0 < size) (get_or_default sizes k 0 d l) (read.sizes_read.each k (omega arith)).0;
      tuples_inside = λ r es h. and_left _ _ h;
      elements_inside = λ i I found.
          let inside = slice_get-length P.individuals i I found in
          subst (λ sort. get_or values i 0 < get_or sizes sort 0) (sort_found P i I found)
          (element_inside bits U sizes (get_or (sorts_in P) i 0) (get_or values i 0) counts (read.values_read.each i (omega arith)).0);
      nothing_outside = λ i past. get_or_past values i 0 (let v = read.values_read.long in omega arith);
    } in (
      world_of P frame picture bits sizes values chosen given,
      record {
        structure = is;
        sizes = within;
        given = tuple_read bits count slots sizes parameters given U (rows_of frame.arguments) f.named counts read.given_read;
        chosen = tuple_read bits count slots sizes choices chosen U (rows_of frame.choices) f.chosen counts read.chosen_read;
      },
      record {
        structure = record {
          structure = is;
          sizes = λ sort l. counts sort (omega arith);
          relations = λ r R es found tuple. holds_read P bits slots sizes (rows_of picture.tables) r R es (slice_get P.relations r) found tuple;
          individuals = λ i l. (read.values_read.each i (omega arith)).1;
        };
        names = record {
          named = names_read bits U (rows_of frame.arguments) parameters given read.given_read;
          chosen = names_read bits U (rows_of frame.choices) choices chosen read.chosen_read;
        };
      },
    )

-- ---- the sizes are within the slots
all_used : (bits : List Bool) (row : List Bit) (size : ℕ) → Counts bits row size → ((slot : ℕ) → slot < length row → bit_at row slot ≡ Known true) → size ≡ length row
all_used bits row size counts known = by_cases (cases_lt size (length row))
  where
    by_cases : (size < length row) ⊎ (length row ≤ size) → size ≡ length row
    by_cases (inl less) = absurd (both_ways (bit_value bits (bit_at row size)) (counts.front size less ∙ le-ltb size size (omega arith)) (ap (bit_value bits) (known size less)))
    by_cases (inr most) = let within = counts.within in omega arith

pub sizes_within : (exact : Bool) (count : ℕ) (slots sizes : List ℕ) (bits : List Bool) (used : List (List Bit)) → AreRows count slots used → AreChosen (λ k size. (0 < size) × Counts bits (row_at used k) size) (length used) sizes → ((k slot : ℕ) → k < length used → slot < length (row_at used k) → is_known (known_of exact) slot ≡ true → bit_at (row_at used k) slot ≡ Known true) → AreSizesWithin exact slots sizes
sizes_within true count slots sizes bits used rows read known =
    let many = many_rows count slots used rows in
    let long = read.long in
    ext_get_or 0 sizes slots (omega arith) (λ k l.
    let inside : k < length used = omega arith in
    all_used bits (row_at used k) (get_or sizes k 0) (read.each k inside).1 (λ slot m. known k slot inside m refl) ∙ long_row count slots used k rows inside)
sizes_within false count slots sizes bits used rows read known =
    let many = many_rows count slots used rows in
    let long = read.long in
    zip_from sizes slots (omega arith) (λ k l.
    let inside : k < length used = omega arith in
    let within = (read.each k inside).1.within in
    let same = long_row count slots used k rows inside in
    omega arith)

pub shows_world : (P : Protocol) (parameters choices : List ℕ) (count : ℕ) (frame : Frame) (picture : Picture) (bits : List Bool) (exact : Bool) → IsFrame P parameters choices count frame → IsPicture P frame.slots.items count picture → AreRuled P parameters choices frame picture bits → ((k slot : ℕ) → k < length (rows_of frame.used) → slot < length (row_at (rows_of frame.used) k) → is_known (known_of exact) slot ≡ true → bit_at (row_at (rows_of frame.used) k) slot ≡ Known true) → (w : World) × IsWorld P parameters choices exact frame.slots.items w × ShowsWorld P frame picture bits w
shows_world P parameters choices count frame picture bits exact f p ruled known =
    let U = rows_of frame.used in
    let sizes = choose (λ k size. (0 < size) × Counts bits (row_at U k) size) (length U) (λ k l. let x = ruled.used k l in (x.0, (x.1, x.2))) in
    let values = choose (λ k e. (bit_value bits (bit_at (row_at U (get_or (sorts_in P) k 0)) e) ≡ true) × Marks bits (row_at (rows_of picture.values) k) e) (length (rows_of picture.values)) (λ k l. let x = ruled.values k l in (x.0, (x.1, x.2))) in
    let chosen = choose (λ k e. (bit_value bits (bit_at (row_at U (get_or choices k 0)) e) ≡ true) × Marks bits (row_at (rows_of frame.choices) k) e) (length (rows_of frame.choices)) (λ k l. let x = ruled.chosen k l in (x.0, (x.1, x.2))) in
    let given = choose (λ k e. (bit_value bits (bit_at (row_at U (get_or parameters k 0)) e) ≡ true) × Marks bits (row_at (rows_of frame.arguments) k) e) (length (rows_of frame.arguments)) (λ k l. let x = ruled.given k l in (x.0, (x.1, x.2))) in
    world_read P parameters choices count frame picture bits exact sizes.0 values.0 chosen.0 given.0 f p
    (record { sizes_read = sizes.1; values_read = values.1; chosen_read = chosen.1; given_read = given.1 })
    (sizes_within exact count frame.slots.items sizes.0 bits U f.used sizes.1 known)
