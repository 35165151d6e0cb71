-- All rows that are drawn, one kind after another.
use Rattle.std.proofs.Common.{◌≡◌, ◌<◌, ◌≤◌, ℕ, Bool, true, false, List, [], ◌++◌, length, map, refl, ap, sym, ◌∙◌, subst, arith}
use Rattle.std.specs.List.{All}
use Rattle.std.proofs.lemmas.Bool.{both_ways}
use Rattle.dai_model.specs.Protocol.{Protocol}
use Rattle.dai_logic.specs.Counts.{tuple_count}
use Rattle.dai_logic.specs.Protocols.{arguments_in}
use Rattle.dai_trail.specs.Formula.{Formula}
use Rattle.dai_circuit.specs.declared.bit.Bit.{Bit}
use Rattle.dai_circuit.specs.Circuits.{AreBitsBelow}
use Rattle.dai_picture.specs.declared.draw.Drawing.{Drawing}
use Rattle.dai_picture.specs.declared.picture.Frame.{Frame}
use Rattle.dai_picture.specs.declared.picture.Picture.{Picture}
use Rattle.dai_picture.specs.declared.rows.Known.{Known}
use Rattle.dai_picture.specs.declared.rows.Known.TheVariants.{Nowhere}
use Rattle.dai_picture.specs.Pictures.{row_at, rows_of, AreRows, slots_of_each, IsFrame, IsPicture}
use Rattle.dai_picture.specs.Rows.{is_known, AgreeBelow, HaveValues, AreFreeRows, NumberFrom, all_bits}
use Rattle.dai_picture.specs.Drawing.{AreDrawn}
use Rattle.dai_picture.proofs.Declared.{sorts_in}
use Rattle.dai_picture.proofs.FreeRows.{numbered_append, row_kept, row_below, rows_weaker}

-- rows stay right when the count of variables grows
pub rows_grow : (n m : ℕ) (lengths : List ℕ) (rows : List (List Bit)) → n ≤ m → AreRows n lengths rows → AreRows m lengths rows
rows_grow n m lengths rows grows h = record { long = h.long; below = rows_weaker n m grows rows h.below }

pub frame_grow : (P : Protocol) (parameters choices : List ℕ) (n m : ℕ) (frame : Frame) → IsFrame P parameters choices n frame → n ≤ m → IsFrame P parameters choices m frame
frame_grow P parameters choices n m frame h grows = record {
  one_each = h.one_each;
  inhabited = h.inhabited;
  used = rows_grow n m frame.slots.items (rows_of frame.used) grows h.used;
  named = rows_grow n m (slots_of_each frame.slots.items parameters) (rows_of frame.arguments) grows h.named;
  chosen = rows_grow n m (slots_of_each frame.slots.items choices) (rows_of frame.choices) grows h.chosen;
}

pub picture_grow : (P : Protocol) (slots : List ℕ) (n m : ℕ) (picture : Picture) → IsPicture P slots n picture → n ≤ m → IsPicture P slots m picture
picture_grow P slots n m picture h grows = record {
  tables = rows_grow n m (map (tuple_count slots) (arguments_in P)) (rows_of picture.tables) grows h.tables;
  values = rows_grow n m (slots_of_each slots (sorts_in P)) (rows_of picture.values) grows h.values;
}

pub values_kept : (count : ℕ) (bits more : List Bool) (rows : List (List Bit)) (values : ℕ → ℕ → Bool) → All (AreBitsBelow count) rows → AgreeBelow count more bits → HaveValues bits rows values → HaveValues more rows values
values_kept count bits more rows values below agree h k slot l m = row_kept count bits more (row_at rows k) agree (row_below count rows k below) slot ∙ h k slot l m

free_below : (a b m : Formula) (which : Known) (lengths : List ℕ) (rows : List (List Bit)) → AreFreeRows a b which lengths rows → b.vars ≤ m.vars → All (AreBitsBelow m.vars) rows
free_below a b m which lengths rows h grows = rows_weaker b.vars m.vars grows rows h.rows.below

never : (rows : List (List Bit)) (values : ℕ → ℕ → Bool) (k slot : ℕ) → k < length rows → slot < length (row_at rows k) → is_known Nowhere slot ≡ true → values k slot ≡ true
never rows values k slot l m is = absurd (both_ways false refl is)

pub drawn : (P : Protocol) (parameters choices slots : List ℕ) (which : Known) (a b c d e f : Formula) (x : Drawing) → length slots ≡ length P.sorts → All (λ n. 0 < n) slots → x.frame.slots.items ≡ slots → AreFreeRows a b which slots (rows_of x.frame.used) → AreFreeRows b c Nowhere (map (tuple_count slots) (arguments_in P)) (rows_of x.picture.tables) → AreFreeRows c d Nowhere (slots_of_each slots (sorts_in P)) (rows_of x.picture.values) → AreFreeRows d e Nowhere (slots_of_each slots choices) (rows_of x.frame.choices) → x.start ≡ e.vars → AreFreeRows e f Nowhere (slots_of_each slots parameters) (rows_of x.frame.arguments) → AreDrawn P parameters choices slots which a f x
drawn P parameters choices slots which a b c d e f x one_each inhabited same used tables values chosen start given =
    let g1 = tables.grows in
    let g2 = values.grows in
    let g3 = chosen.grows in
    let g4 = given.grows in
    let U = rows_of x.frame.used in
    let T = rows_of x.picture.tables in
    let V = rows_of x.picture.values in
    let C = rows_of x.frame.choices in
    let A = rows_of x.frame.arguments in
    let own : (S : List ℕ → Type 0) → S slots → S x.frame.slots.items = λ S s. subst S (sym same) s in
    let used_rows : (n : ℕ) → b.vars ≤ n → AreRows n x.frame.slots.items U = λ n g. own (λ s. AreRows n s U) (rows_grow b.vars n slots U g used.rows) in
    let chosen_rows : (n : ℕ) → e.vars ≤ n → AreRows n (slots_of_each x.frame.slots.items choices) C = λ n g. own (λ s. AreRows n (slots_of_each s choices) C) (rows_grow e.vars n (slots_of_each slots choices) C g chosen.rows) in
    let shown : (n : ℕ) → d.vars ≤ n → IsPicture P slots n x.picture = λ n g. record {
      tables = rows_grow c.vars n (map (tuple_count slots) (arguments_in P)) T (omega arith) tables.rows;
      values = rows_grow d.vars n (slots_of_each slots (sorts_in P)) V g values.rows;
    } in
    record {
      clauses = given.clauses ∙ (chosen.clauses ∙ (values.clauses ∙ (tables.clauses ∙ used.clauses)));
      same = same;
      frame = record {
        one_each = ap length same ∙ one_each;
        inhabited = own (λ s. All (λ n. 0 < n) s) inhabited;
        used = used_rows f.vars (omega arith);
        named = own (λ s. AreRows f.vars (slots_of_each s parameters) A) given.rows;
        chosen = chosen_rows f.vars (omega arith);
      };
      picture = shown f.vars (omega arith);
      before = record {
        used = used_rows x.start (omega arith);
        chosen = chosen_rows x.start (omega arith);
        shown = own (λ s. IsPicture P s x.start x.picture) (shown x.start (omega arith));
      };
      within = omega arith;
      in_order = λ is.
          let behind : NumberFrom c.vars x.start (all_bits V ++ all_bits C) = subst (λ n. NumberFrom c.vars n (all_bits V ++ all_bits C)) (sym start) (numbered_append c.vars d.vars e.vars (all_bits V) (all_bits C) (values.numbered refl) (chosen.numbered refl)) in
          subst (λ n. NumberFrom n x.start (all_bits T ++ (all_bits V ++ all_bits C))) (used.none is) (numbered_append b.vars c.vars x.start (all_bits T) (all_bits V ++ all_bits C) (tables.numbered refl) behind);
      known = used.known;
      free = λ u t v w g fixed.
          let one = used.free [] u fixed in
          let two = tables.free one.0 t (never T t) in
          let three = values.free two.0 v (never V v) in
          let four = chosen.free three.0 w (never C w) in
          let five = given.free four.0 g (never A g) in
          let u2 = values_kept b.vars one.0 two.0 U u used.rows.below two.1 one.2 in
          let u3 = values_kept c.vars two.0 three.0 U u (free_below a b c which slots U used (omega arith)) three.1 u2 in
          let u4 = values_kept d.vars three.0 four.0 U u (free_below a b d which slots U used (omega arith)) four.1 u3 in
          let u5 = values_kept e.vars four.0 five.0 U u (free_below a b e which slots U used (omega arith)) five.1 u4 in
          let t3 = values_kept c.vars two.0 three.0 T t tables.rows.below three.1 two.2 in
          let t4 = values_kept d.vars three.0 four.0 T t (free_below b c d Nowhere (map (tuple_count slots) (arguments_in P)) T tables (omega arith)) four.1 t3 in
          let t5 = values_kept e.vars four.0 five.0 T t (free_below b c e Nowhere (map (tuple_count slots) (arguments_in P)) T tables (omega arith)) five.1 t4 in
          let v4 = values_kept d.vars three.0 four.0 V v values.rows.below four.1 three.2 in
          let v5 = values_kept e.vars four.0 five.0 V v (free_below c d e Nowhere (slots_of_each slots (sorts_in P)) V values (omega arith)) five.1 v4 in
          let w5 = values_kept e.vars four.0 five.0 C w chosen.rows.below five.1 four.2 in
          (five.0, u5, t5, v5, w5, five.2);
    }
