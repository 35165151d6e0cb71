-- What a picture shows depends on the values of its variables alone, and it is one world.
use Rattle.std.proofs.Common.{◌≡◌, ◌<◌, ◌≤◌, ℕ, Bool, true, false, List, length, get_or, Option, Some, None, slice_get, refl, ap, sym, ◌∙◌, arith, inl, inr, ◌⊎◌}
use Rattle.std.specs.List.{All}
use Rattle.std.proofs.lemmas.Bool.{cases_lt, cases_order, both_ways, lt-ltb, le-ltb, eq-eqb, eqb-true, false_from_ne_true}
use Rattle.std.proofs.lemmas.List.{ext_get_or}
use Rattle.dai_model.specs.Protocol.{Protocol, Relation}
use Rattle.dai_model.specs.Structure.{Structure, IsStructure, is_tuple, is_tuple_for}
use Rattle.dai_logic.specs.Counts.{tuple_place}
use Rattle.dai_circuit.specs.declared.bit.Bit.{Bit}
use Rattle.dai_circuit.specs.Circuits.{bit_value, AreBitsBelow}
use Rattle.dai_picture.specs.declared.picture.Frame.{Frame}
use Rattle.dai_picture.specs.declared.picture.Picture.{Picture}
use Rattle.dai_picture.specs.Pictures.{row_at, bit_at, rows_of, Marks, MarkEach, Counts, Shows, Names, IsFrame, IsPicture}
use Rattle.dai_picture.specs.Rows.{AgreeBelow}
use Rattle.dai_trail.specs.Formula.{Formula}
use Rattle.dai_circuit.specs.Circuits.{Extends}
use Rattle.dai_picture.specs.Worlds.{World, ShowsWorld, Draws}
use Rattle.dai_picture.proofs.FreeRows.{row_kept, row_below}

-- ---- assignments with the same values below the count show the same
pub counts_kept : (count : ℕ) (bits more : List Bool) (row : List Bit) (size : ℕ) → AgreeBelow count more bits → AreBitsBelow count row → Counts bits row size → Counts more row size
counts_kept count bits more row size agree below h = record { within = h.within; front = λ slot l. row_kept count bits more row agree below slot ∙ h.front slot l }

pub marks_kept : (count : ℕ) (bits more : List Bool) (row : List Bit) (e : ℕ) → AgreeBelow count more bits → AreBitsBelow count row → Marks bits row e → Marks more row e
marks_kept count bits more row e agree below h = record { inside = h.inside; marks = λ slot l. row_kept count bits more row agree below slot ∙ h.marks slot l }

pub mark_each_kept : (count : ℕ) (bits more : List Bool) (rows : List (List Bit)) (es : List ℕ) → AgreeBelow count more bits → All (AreBitsBelow count) rows → MarkEach bits rows es → MarkEach more rows es
mark_each_kept count bits more rows es agree below h = record {
  one_each = h.one_each;
  each = λ k l. marks_kept count bits more (row_at rows k) (get_or es k 0) agree (row_below count rows k below) (h.each k l);
}

pub shows_kept : (P : Protocol) (parameters choices : List ℕ) (count : ℕ) (frame : Frame) (picture : Picture) (bits more : List Bool) (s : Structure) → IsFrame P parameters choices count frame → IsPicture P frame.slots.items count picture → AgreeBelow count more bits → Shows P frame picture bits s → Shows P frame picture more s
shows_kept P parameters choices count frame picture bits more s f p agree h = record {
  structure = h.structure;
  sizes = λ sort l. counts_kept count bits more (row_at (rows_of frame.used) sort) (get_or s.sizes sort 0) agree (row_below count (rows_of frame.used) sort f.used.below) (h.sizes sort l);
  relations = λ r R es found tuple. row_kept count bits more (row_at (rows_of picture.tables) r) agree (row_below count (rows_of picture.tables) r p.tables.below) (tuple_place frame.slots.items R.arguments es) ∙ h.relations r R es found tuple;
  individuals = λ i l. marks_kept count bits more (row_at (rows_of picture.values) i) (s.element i) agree (row_below count (rows_of picture.values) i p.values.below) (h.individuals i l);
}

pub names_kept : (P : Protocol) (parameters choices : List ℕ) (count : ℕ) (frame : Frame) (bits more : List Bool) (arguments chosen : List ℕ) → IsFrame P parameters choices count frame → AgreeBelow count more bits → Names frame bits arguments chosen → Names frame more arguments chosen
names_kept P parameters choices count frame bits more arguments chosen f agree h = record {
  named = mark_each_kept count bits more (rows_of frame.arguments) arguments agree f.named.below h.named;
  chosen = mark_each_kept count bits more (rows_of frame.choices) chosen agree f.chosen.below h.chosen;
}

pub world_kept : (P : Protocol) (parameters choices : List ℕ) (count : ℕ) (frame : Frame) (picture : Picture) (bits more : List Bool) (w : World) → IsFrame P parameters choices count frame → IsPicture P frame.slots.items count picture → AgreeBelow count more bits → ShowsWorld P frame picture bits w → ShowsWorld P frame picture more w
world_kept P parameters choices count frame picture bits more w f p agree h = record {
  structure = shows_kept P parameters choices count frame picture bits more w.structure f p agree h.structure;
  names = names_kept P parameters choices count frame bits more w.arguments w.choices f agree h.names;
}

-- ---- one world
pub one_count : (bits : List Bool) (row : List Bit) (m n : ℕ) → Counts bits row m → Counts bits row n → m ≡ n
one_count bits row m n g h = by_cases (cases_order m n)
  where
    less : (a b : ℕ) → Counts bits row a → Counts bits row b → a < b → ⊥
    less a b c d l =
        let within = d.within in
        both_ways (bit_value bits (bit_at row a)) (c.front a (omega arith) ∙ le-ltb a a (omega arith)) (d.front a (omega arith) ∙ lt-ltb a b l)

    by_cases : (m ≡ n) ⊎ ((m < n) ⊎ (n < m)) → m ≡ n
    by_cases (inl same) = same
    by_cases (inr (inl l)) = absurd (less m n g h l)
    by_cases (inr (inr l)) = absurd (less n m h g l)

pub one_mark : (bits : List Bool) (row : List Bit) (d e : ℕ) → Marks bits row d → Marks bits row e → d ≡ e
one_mark bits row d e g h = eqb-true d e (sym (h.marks d g.inside) ∙ (g.marks d g.inside ∙ eq-eqb d d refl))

pub one_mark_each : (bits : List Bool) (rows : List (List Bit)) (ds es : List ℕ) → MarkEach bits rows ds → MarkEach bits rows es → ds ≡ es
one_mark_each bits rows ds es g h =
    let m = g.one_each in
    let n = h.one_each in
    ext_get_or 0 ds es (omega arith) (λ k l. one_mark bits (row_at rows k) (get_or ds k 0) (get_or es k 0) (g.each k (omega arith)) (h.each k (omega arith)))

one_size_each : (P : Protocol) (frame : Frame) (picture : Picture) (bits : List Bool) (s t : Structure) → Shows P frame picture bits s → Shows P frame picture bits t → s.sizes ≡ t.sizes
one_size_each P frame picture bits s t g h =
    let m = g.structure.one_size_each in
    let n = h.structure.one_size_each in
    ext_get_or 0 s.sizes t.sizes (omega arith) (λ k l. one_count bits (row_at (rows_of frame.used) k) (get_or s.sizes k 0) (get_or t.sizes k 0) (g.sizes k (omega arith)) (h.sizes k (omega arith)))

one_element : (P : Protocol) (frame : Frame) (picture : Picture) (bits : List Bool) (s t : Structure) (i : ℕ) → Shows P frame picture bits s → Shows P frame picture bits t → (i < length P.individuals) ⊎ (length P.individuals ≤ i) → s.element i ≡ t.element i
one_element P frame picture bits s t i g h (inl inside) = one_mark bits (row_at (rows_of picture.values) i) (s.element i) (t.element i) (g.individuals i inside) (h.individuals i inside)
one_element P frame picture bits s t i g h (inr past) = g.structure.nothing_outside i past ∙ sym (h.structure.nothing_outside i past)

-- nothing holds outside
pub none_outside : (P : Protocol) (s : Structure) (r : ℕ) (es : List ℕ) (o : Option Relation) → IsStructure P s → slice_get P.relations r ≡ o → is_tuple_for s.sizes o es ≡ false → s.holds r es ≡ false
none_outside P s r es o st found test = false_from_ne_true (s.holds r es) (λ t. both_ways (is_tuple_for s.sizes o es) test (ap (λ p. is_tuple_for s.sizes p es) (sym found) ∙ st.tuples_inside r es t))

one_holds : (P : Protocol) (frame : Frame) (picture : Picture) (bits : List Bool) (s t : Structure) (r : ℕ) (es : List ℕ) (o : Option Relation) (b : Bool) → Shows P frame picture bits s → Shows P frame picture bits t → s.sizes ≡ t.sizes → slice_get P.relations r ≡ o → is_tuple_for s.sizes o es ≡ b → s.holds r es ≡ t.holds r es
one_holds P frame picture bits s t r es o false g h same found test =
    none_outside P s r es o g.structure found test ∙ sym (none_outside P t r es o h.structure found (ap (λ sizes. is_tuple_for sizes o es) (sym same) ∙ test))
one_holds P frame picture bits s t r es None true g h same found test = absurd (let k : ⊥ = cc in k)
one_holds P frame picture bits s t r es (Some R) true g h same found test =
    sym (g.relations r R es found test) ∙ h.relations r R es found (ap (λ sizes. is_tuple sizes R.arguments es) (sym same) ∙ test)

pub one_structure : (P : Protocol) (frame : Frame) (picture : Picture) (bits : List Bool) (s t : Structure) → Shows P frame picture bits s → Shows P frame picture bits t → s ≡ t
one_structure P frame picture bits s t g h =
    let same = one_size_each P frame picture bits s t g h in
    λ i. record {
      sizes = same i;
      holds = λ r es. one_holds P frame picture bits s t r es (slice_get P.relations r) (is_tuple_for s.sizes (slice_get P.relations r) es) g h same refl refl i;
      element = λ j. one_element P frame picture bits s t j g h (cases_lt j (length P.individuals)) i;
    }

pub one_world : (P : Protocol) (frame : Frame) (picture : Picture) (bits : List Bool) (v w : World) → ShowsWorld P frame picture bits v → ShowsWorld P frame picture bits w → v ≡ w
one_world P frame picture bits v w g h =
    let s = one_structure P frame picture bits v.structure w.structure g.structure h.structure in
    let a = one_mark_each bits (rows_of frame.arguments) v.arguments w.arguments g.names.named h.names.named in
    let c = one_mark_each bits (rows_of frame.choices) v.choices w.choices g.names.chosen h.names.chosen in
    λ i. record { structure = s i; arguments = a i; choices = c i }

-- ---- a formula that was extended draws the same
pub draws_extended : (P : Protocol) (parameters choices : List ℕ) (exact : Bool) (old new : Formula) (frame : Frame) (picture : Picture) → IsFrame P parameters choices old.vars frame → IsPicture P frame.slots.items old.vars picture → Extends old new → Draws P parameters choices exact old frame picture → Draws P parameters choices exact new frame picture
draws_extended P parameters choices exact old new frame picture f p extends draws = record {
  shows = λ bits met. draws.shows bits (extends.keeps bits met);
  each = λ w is.
      let first = draws.each w is in
      let more = extends.completes first.0 first.1 in
      (more.0, more.1, world_kept P parameters choices old.vars frame picture first.0 more.0 w f p more.2 first.2);
}
