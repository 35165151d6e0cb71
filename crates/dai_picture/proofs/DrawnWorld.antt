-- An assignment that shows a given world.
use Rattle.std.proofs.Common.{◌≡◌, ◌<◌, ◌≤◌, ℕ, Bool, true, false, List, [], length, get_or, map, Option, Some, None, slice_get, nat_eq, nat_lt, refl, ap, sym, ◌∙◌, subst, arith}
use Rattle.std.specs.List.{All}
use Rattle.std.proofs.lemmas.Bool.{lt-ltb, eqb-true}
use Rattle.std.proofs.lemmas.List.{get_or-map, length-map}
use Rattle.std.proofs.lemmas.List.Elements.{All-nil}
use Rattle.std.proofs.lemmas.Option.{slice_get-get_or, get_or_from_slice_get}
use Rattle.dai_model.specs.Protocol.{Protocol, Relation, Individual}
use Rattle.dai_model.specs.Structure.{Structure, IsStructure, is_tuple}
use Rattle.dai_model.proofs.Typed.{slice_get-length}
use Rattle.dai_logic.specs.Counts.{tuple_count, tuple_place, tuple_at}
use Rattle.dai_logic.specs.Protocols.{arguments_in}
use Rattle.dai_logic.proofs.Tuples.{size_inside, place_inside, tuple_of_place, tuple_length}
use Rattle.dai_trail.specs.Formula.{Formula, AreMetBy, IsMetBy, formula_of}
use Rattle.dai_trail.specs.declared.cnf.Lit.{Lit}
use Rattle.dai_circuit.specs.declared.bit.Bit.{Bit}
use Rattle.dai_circuit.specs.declared.bit.Bit.TheVariants.{Known}
use Rattle.dai_circuit.specs.Circuits.{bit_value}
use Rattle.dai_picture.specs.declared.draw.Drawing.{Drawing}
use Rattle.dai_picture.specs.declared.picture.Frame.{Frame}
use Rattle.dai_picture.specs.declared.picture.Picture.{Picture}
use Rattle.dai_picture.specs.Pictures.{row_at, bit_at, rows_of, Marks, Counts, AreRows, slots_of_each, IsFrame, IsPicture}
use Rattle.dai_picture.specs.Rules.{Constrains}
use Rattle.dai_picture.specs.Rows.{is_known, HaveValues}
use Rattle.dai_picture.specs.Drawing.{AreDrawn, AreRuled, known_of}
use Rattle.dai_picture.specs.Worlds.{World, IsWorld, ShowsWorld, AreSizesWithin, Draws}
use Rattle.dai_picture.proofs.Declared.{sorts_in}
use Rattle.dai_picture.proofs.Choices.{tuple_at_each, tuple_wider, within_at}
use Rattle.dai_picture.proofs.ReadWorld.{many_rows, long_row, many_marks, shows_world}

-- the wanted values
abbrev used_wanted : List ℕ → ℕ → ℕ → Bool
used_wanted sizes k slot = nat_lt slot (get_or sizes k 0)

abbrev mark_wanted : (ℕ → ℕ) → ℕ → ℕ → Bool
mark_wanted pick k slot = nat_eq slot (pick k)

abbrev table_for : Structure → List ℕ → ℕ → Option Relation → ℕ → Bool
table_for s slots r None place = false
table_for s slots r (Some R) place = s.holds r (tuple_at slots R.arguments place)

abbrev table_wanted : Protocol → Structure → List ℕ → ℕ → ℕ → Bool
table_wanted P s slots r place = table_for s slots r (slice_get P.relations r) place

counts_wanted : (bits : List Bool) (count : ℕ) (slots sizes : List ℕ) (used : List (List Bit)) → AreRows count slots used → ((sort : ℕ) → get_or sizes sort 0 ≤ get_or slots sort 0) → HaveValues bits used (used_wanted sizes) → (k : ℕ) → k < length used → Counts bits (row_at used k) (get_or sizes k 0)
counts_wanted bits count slots sizes used rows wide values k l = record {
  within = let w = wide k in let e = long_row count slots used k rows l in omega arith;
  front = λ slot m. values k slot l m;
}

-- a row that marks an element
marks_wanted : (bits : List Bool) (count : ℕ) (slots sizes sorts : List ℕ) (used rows : List (List Bit)) (pick : ℕ → ℕ) → length sizes ≡ length used → AreRows count slots used → AreRows count (slots_of_each slots sorts) rows → ((sort : ℕ) → get_or sizes sort 0 ≤ get_or slots sort 0) → HaveValues bits used (used_wanted sizes) → HaveValues bits rows (mark_wanted pick) → (k : ℕ) → k < length rows → pick k < get_or sizes (get_or sorts k 0) 0 → (bit_value bits (bit_at (row_at used (get_or sorts k 0)) (pick k)) ≡ true) × Marks bits (row_at rows k) (pick k)
marks_wanted bits count slots sizes sorts used rows pick many u r wide used_values values k l below =
    let sort = get_or sorts k 0 in
    let inside : sort < length used = let s = size_inside sizes sort (pick k) below in omega arith in
    let long = long_row count slots used sort u inside in
    let wider = wide sort in
    let known : k < length sorts = let m = many_marks count slots sorts rows r in omega arith in
    let own : length (row_at rows k) ≡ get_or slots sort 0 = long_row count (slots_of_each slots sorts) rows k r l ∙ get_or-map (λ i. get_or slots i 0) sorts k 0 0 known in (
      used_values sort (pick k) inside (omega arith) ∙ lt-ltb (pick k) (get_or sizes sort 0) below,
      record {
        inside = omega arith;
        marks = λ slot m. values k slot l m;
      },
    )

pub record AreGiven (P : Protocol) (parameters choices : List ℕ) (frame : Frame) (picture : Picture) (bits : List Bool) (w : World) : Type 0 where
  pub used_given : HaveValues bits (rows_of frame.used) (used_wanted w.structure.sizes)
  pub tables_given : HaveValues bits (rows_of picture.tables) (table_wanted P w.structure frame.slots.items)
  pub values_given : HaveValues bits (rows_of picture.values) (mark_wanted w.structure.element)
  pub chosen_given : HaveValues bits (rows_of frame.choices) (mark_wanted (λ k. get_or w.choices k 0))
  pub named_given : HaveValues bits (rows_of frame.arguments) (mark_wanted (λ k. get_or w.arguments k 0))

no_individual : Individual
no_individual = record { name = []; sort = 0 }

element_below : (P : Protocol) (s : Structure) (i : ℕ) → IsStructure P s → i < length P.individuals → s.element i < get_or s.sizes (get_or (sorts_in P) i 0) 0
element_below P s i st l =
    let I = get_or P.individuals i no_individual in
    subst (λ sort. s.element i < get_or s.sizes sort 0) (sym (get_or-map (λ (J : Individual). J.sort) P.individuals i no_individual 0 l)) (st.elements_inside i I (slice_get-get_or P.individuals i no_individual l))

-- what such an assignment says of each row
record AreMarked (P : Protocol) (parameters choices : List ℕ) (frame : Frame) (picture : Picture) (bits : List Bool) (w : World) : Type 0 where
  sizes_marked : (k : ℕ) → k < length (rows_of frame.used) → Counts bits (row_at (rows_of frame.used) k) (get_or w.structure.sizes k 0)
  values_marked : (k : ℕ) → k < length (rows_of picture.values) → (bit_value bits (bit_at (row_at (rows_of frame.used) (get_or (sorts_in P) k 0)) (w.structure.element k)) ≡ true) × Marks bits (row_at (rows_of picture.values) k) (w.structure.element k)
  chosen_marked : (k : ℕ) → k < length (rows_of frame.choices) → (bit_value bits (bit_at (row_at (rows_of frame.used) (get_or choices k 0)) (get_or w.choices k 0)) ≡ true) × Marks bits (row_at (rows_of frame.choices) k) (get_or w.choices k 0)
  named_marked : (k : ℕ) → k < length (rows_of frame.arguments) → (bit_value bits (bit_at (row_at (rows_of frame.used) (get_or parameters k 0)) (get_or w.arguments k 0)) ≡ true) × Marks bits (row_at (rows_of frame.arguments) k) (get_or w.arguments k 0)

marked : (P : Protocol) (parameters choices : List ℕ) (count : ℕ) (frame : Frame) (picture : Picture) (bits : List Bool) (exact : Bool) (w : World) → IsFrame P parameters choices count frame → IsPicture P frame.slots.items count picture → IsWorld P parameters choices exact frame.slots.items w → AreGiven P parameters choices frame picture bits w → AreMarked P parameters choices frame picture bits w
marked P parameters choices count frame picture bits exact w f p is given =
    let U = rows_of frame.used in
    let slots = frame.slots.items in
    let sizes = w.structure.sizes in
    let many : length sizes ≡ length U = is.structure.one_size_each ∙ sym (many_rows count slots U f.used ∙ f.one_each) in
    let wide = within_at exact slots sizes is.sizes in
    let individuals : length (rows_of picture.values) ≡ length P.individuals = many_marks count slots (sorts_in P) (rows_of picture.values) p.values ∙ length-map P.individuals (λ (I : Individual). I.sort) in
    let many_chosen = many_marks count slots choices (rows_of frame.choices) f.chosen in
    let many_named = many_marks count slots parameters (rows_of frame.arguments) f.named in
    record {
      sizes_marked = counts_wanted bits count slots sizes U f.used wide given.used_given;
      values_marked = λ k l. marks_wanted bits count slots sizes (sorts_in P) U (rows_of picture.values) w.structure.element many f.used p.values wide given.used_given given.values_given k l (element_below P w.structure k is.structure (omega arith));
      chosen_marked = λ k l. marks_wanted bits count slots sizes choices U (rows_of frame.choices) (λ j. get_or w.choices j 0) many f.used f.chosen wide given.used_given given.chosen_given k l (tuple_at_each sizes choices w.choices k is.chosen (omega arith));
      named_marked = λ k l. marks_wanted bits count slots sizes parameters U (rows_of frame.arguments) (λ j. get_or w.arguments j 0) many f.used f.named wide given.used_given given.named_given k l (tuple_at_each sizes parameters w.arguments k is.given (omega arith));
    }

ruled_by : (P : Protocol) (parameters choices : List ℕ) (count : ℕ) (frame : Frame) (picture : Picture) (bits : List Bool) (exact : Bool) (w : World) → IsFrame P parameters choices count frame → IsWorld P parameters choices exact frame.slots.items w → AreMarked P parameters choices frame picture bits w → AreRuled P parameters choices frame picture bits
ruled_by P parameters choices count frame picture bits exact w f is m =
    let many : length w.structure.sizes ≡ length (rows_of frame.used) = is.structure.one_size_each ∙ sym (many_rows count frame.slots.items (rows_of frame.used) f.used ∙ f.one_each) in
    record {
      used = λ k l. (get_or w.structure.sizes k 0, is.structure.inhabited k 0 (omega arith), m.sizes_marked k l);
      values = λ k l. let x = m.values_marked k l in (w.structure.element k, x.0, x.1);
      chosen = λ k l. let x = m.chosen_marked k l in (get_or w.choices k 0, x.0, x.1);
      given = λ k l. let x = m.named_marked k l in (get_or w.arguments k 0, x.0, x.1);
    }

-- the bits of a table
table_given : (P : Protocol) (s : Structure) (count : ℕ) (slots : List ℕ) (tables : List (List Bit)) (bits : List Bool) (r : ℕ) (R : Relation) (es : List ℕ) → AreRows count (map (tuple_count slots) (arguments_in P)) tables → ((sort : ℕ) → get_or s.sizes sort 0 ≤ get_or slots sort 0) → HaveValues bits tables (table_wanted P s slots) → slice_get P.relations r ≡ Some R → is_tuple s.sizes R.arguments es ≡ true → bit_value bits (bit_at (row_at tables r) (tuple_place slots R.arguments es)) ≡ s.holds r es
table_given P s count slots tables bits r R es rows wide values found tuple =
    let all = map (tuple_count slots) (arguments_in P) in
    let below = slice_get-length P.relations r R found in
    let args = length-map P.relations (λ (Q : Relation). Q.arguments) in
    let mapped = length-map (arguments_in P) (tuple_count slots) in
    let many = many_rows count all tables rows in
    let inside : r < length tables = omega arith in
    let known : r < length (arguments_in P) = omega arith in
    let own : length (row_at tables r) ≡ tuple_count slots R.arguments =
    long_row count all tables r rows inside
    ∙ (get_or-map (tuple_count slots) (arguments_in P) r [] 0 known
    ∙ ap (tuple_count slots) (get_or-map (λ (Q : Relation). Q.arguments) P.relations r R [] below ∙ ap (λ (Q : Relation). Q.arguments) (get_or_from_slice_get P.relations r R R found))) in
    let wider = tuple_wider s.sizes slots R.arguments es wide tuple in
    let place = place_inside slots R.arguments es wider in
    values r (tuple_place slots R.arguments es) inside (omega arith)
    ∙ (ap (λ o. table_for s slots r o (tuple_place slots R.arguments es)) found ∙ ap (s.holds r) (tuple_of_place slots R.arguments es wider))

shown_by : (P : Protocol) (parameters choices : List ℕ) (count : ℕ) (frame : Frame) (picture : Picture) (bits : List Bool) (exact : Bool) (w : World) → IsFrame P parameters choices count frame → IsPicture P frame.slots.items count picture → IsWorld P parameters choices exact frame.slots.items w → AreGiven P parameters choices frame picture bits w → AreMarked P parameters choices frame picture bits w → ShowsWorld P frame picture bits w
shown_by P parameters choices count frame picture bits exact w f p is given m =
    let slots = frame.slots.items in
    let U = rows_of frame.used in
    let many : length U ≡ length P.sorts = many_rows count slots U f.used ∙ f.one_each in
    let individuals : length (rows_of picture.values) ≡ length P.individuals = many_marks count slots (sorts_in P) (rows_of picture.values) p.values ∙ length-map P.individuals (λ (I : Individual). I.sort) in
    let many_chosen = many_marks count slots choices (rows_of frame.choices) f.chosen in
    let many_named = many_marks count slots parameters (rows_of frame.arguments) f.named in
    record {
      structure = record {
        structure = is.structure;
        sizes = λ sort l. m.sizes_marked sort (omega arith);
        relations = λ r R es found tuple. table_given P w.structure count slots (rows_of picture.tables) bits r R es p.tables (within_at exact slots w.structure.sizes is.sizes) given.tables_given found tuple;
        individuals = λ i l. (m.values_marked i (omega arith)).1;
      };
      names = record {
        named = record { one_each = tuple_length w.structure.sizes parameters w.arguments is.given ∙ sym many_named; each = λ k l. (m.named_marked k l).1 };
        chosen = record { one_each = tuple_length w.structure.sizes choices w.choices is.chosen ∙ sym many_chosen; each = λ k l. (m.chosen_marked k l).1 };
      };
    }

-- the wanted sizes are right where bits are known
known_wanted : (exact : Bool) (count : ℕ) (slots sizes : List ℕ) (used : List (List Bit)) → AreRows count slots used → length sizes ≡ length used → All (λ size. 0 < size) sizes → AreSizesWithin exact slots sizes → (k slot : ℕ) → k < length used → slot < length (row_at used k) → is_known (known_of exact) slot ≡ true → used_wanted sizes k slot ≡ true
known_wanted true count slots sizes used rows many inhabited same k slot l m is =
    let long = long_row count slots used k rows l in
    let e = ap (λ xs. get_or xs k 0) same in
    lt-ltb slot (get_or sizes k 0) (omega arith)
known_wanted false count slots sizes used rows many inhabited within k slot l m is =
    let first = eqb-true slot 0 is in
    let some = inhabited k 0 (omega arith) in
    lt-ltb slot (get_or sizes k 0) (omega arith)

met_none : (a b : Formula) (bits : List Bool) → a ≡ formula_of 0 [] → b.clauses ≡ a.clauses → AreMetBy b bits
met_none a b bits empty same = subst (λ (cs : List (List Lit)). All (λ c. IsMetBy c bits) cs) (sym (same ∙ ap (λ (f : Formula). f.clauses) empty)) (All-nil (λ (c : List Lit). IsMetBy c bits))

pub draws : (P : Protocol) (parameters choices slots : List ℕ) (exact : Bool) (a b c : Formula) (d : Drawing) → a ≡ formula_of 0 [] → AreDrawn P parameters choices slots (known_of exact) a b d → Constrains b c (AreRuled P parameters choices d.frame d.picture) → Draws P parameters choices exact c d.frame d.picture
draws P parameters choices slots exact a b c d empty drawn tied =
    let f = drawn.frame in
    let U = rows_of d.frame.used in
    let own = d.frame.slots.items in
    let p : IsPicture P own b.vars d.picture = subst (λ s. IsPicture P s b.vars d.picture) (sym drawn.same) drawn.picture in
    record {
      shows = λ bits met. shows_world P parameters choices b.vars d.frame d.picture bits exact f p (tied.holds bits met) drawn.known;
      each = λ w is.
          let many : length w.structure.sizes ≡ length U = is.structure.one_size_each ∙ sym (many_rows b.vars own U f.used ∙ f.one_each) in
          let x = drawn.free (used_wanted w.structure.sizes) (table_wanted P w.structure own) (mark_wanted w.structure.element) (mark_wanted (λ k. get_or w.choices k 0)) (mark_wanted (λ k. get_or w.arguments k 0)) (known_wanted exact b.vars own w.structure.sizes U f.used many is.structure.inhabited is.sizes) in
          let given : AreGiven P parameters choices d.frame d.picture x.0 w = record { used_given = x.1; tables_given = x.2; values_given = x.3; chosen_given = x.4; named_given = x.5 } in
          let m = marked P parameters choices b.vars d.frame d.picture x.0 exact w f p is given in
          (x.0, tied.admits x.0 (met_none a b x.0 empty drawn.clauses) (ruled_by P parameters choices b.vars d.frame d.picture x.0 exact w f is m), shown_by P parameters choices b.vars d.frame d.picture x.0 exact w f p is given m);
    }

-- the first bit of each type is known
pub begun : (P : Protocol) (parameters choices slots : List ℕ) (exact : Bool) (a b : Formula) (d : Drawing) → AreDrawn P parameters choices slots (known_of exact) a b d → (k : ℕ) → k < length (rows_of d.frame.used) → bit_at (row_at (rows_of d.frame.used) k) 0 ≡ Known true
begun P parameters choices slots exact a b d drawn k l =
    let f = drawn.frame in
    let long = long_row b.vars d.frame.slots.items (rows_of d.frame.used) k f.used l in
    let many = many_rows b.vars d.frame.slots.items (rows_of d.frame.used) f.used in
    let some = f.inhabited k 0 (omega arith) in
    drawn.known k 0 l (omega arith) (first_known exact)
  where
    first_known : (exact : Bool) → is_known (known_of exact) 0 ≡ true
    first_known true = refl
    first_known false = refl
