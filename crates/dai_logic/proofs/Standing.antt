-- Sizes, tables and values that stand for a structure of the model.
use Rattle.std.proofs.Common.{◌≡◌, ℕ, ◌<◌, ◌≤◌, ◌^◌, ◌&&◌, Bool, true, false, List, [], length, get_or, map, Option, Some, None, slice_get, sym, ap, ◌∙◌, refl, subst, arith, ◌⊎◌, inl, inr}
use Rattle.std.specs.List.{All, range_with_len}
use Rattle.std.proofs.lemmas.Bool.{cases_lt}
use Rattle.std.proofs.lemmas.List.{get_or_past, get_or_default}
use Rattle.std.proofs.lemmas.List.FromFn.{length-map-range_with_len, get_or-map-range_with_len}
use Rattle.std.proofs.lemmas.Option.{slice_get-get_or}
use Rattle.dai_model.specs.Protocol.{Protocol, Relation, Individual}
use Rattle.dai_model.specs.Structure as Model
use Rattle.dai_model.specs.Structure.{IsStructure, is_tuple, is_tuple_for, is_tuple_of, size_of}
use Rattle.dai_model.proofs.Typed.{slice_get-length}
use Rattle.dai_logic.specs.Tables.{tuple_count, tuple_place, tuple_at, bit_in, AreFitting, IsStoodFor}
use Rattle.dai_logic.proofs.Tuples.{place_inside, tuple_of_place}

-- the truth values of the tuples in order
abbrev table_of : Model.Structure → ℕ → Option Relation → List Bool
table_of s r None = []
table_of s r (Some R) = map (λ place. s.holds r (tuple_at s.sizes R.arguments place)) (range_with_len 0 (tuple_count s.sizes R.arguments))

abbrev all_tables : Protocol → Model.Structure → List (List Bool)
all_tables P s = map (λ r. table_of s r (slice_get P.relations r)) (range_with_len 0 (length P.relations))

abbrev all_values : Protocol → Model.Structure → List ℕ
all_values P s = map s.element (range_with_len 0 (length P.individuals))

table_at : (P : Protocol) (s : Model.Structure) (r : ℕ) (R : Relation) → slice_get P.relations r ≡ Some R → get_or (all_tables P s) r [] ≡ table_of s r (Some R)
table_at P s r R found =
    get_or-map-range_with_len (λ q. table_of s q (slice_get P.relations q)) 0 (length P.relations) r r [] (slice_get-length P.relations r R found) (omega arith) ∙ ap (table_of s r) found

value_at : (P : Protocol) (s : Model.Structure) (i : ℕ) → i < length P.individuals → get_or (all_values P s) i 0 ≡ s.element i
value_at P s i below = get_or-map-range_with_len s.element 0 (length P.individuals) i i 0 below (omega arith)

tables_fit : (P : Protocol) (s : Model.Structure) → IsStructure P s → AreFitting P s.sizes (all_tables P s) (all_values P s)
tables_fit P s st = record {
  one_size_each = st.one_size_each;
  inhabited = st.inhabited;
  one_table_each = length-map-range_with_len (λ r. table_of s r (slice_get P.relations r)) 0 (length P.relations);
  whole_tables = λ r R found. ap length (table_at P s r R found) ∙ length-map-range_with_len (λ place. s.holds r (tuple_at s.sizes R.arguments place)) 0 (tuple_count s.sizes R.arguments);
  one_value_each = length-map-range_with_len s.element 0 (length P.individuals);
  values_inside = λ i I found. subst (λ x. x < size_of s I.sort) (sym (value_at P s i (slice_get-length P.individuals i I found))) (st.elements_inside i I found);
}

-- a relation outside its tuples holds of nothing
outside : (b c : Bool) → (b ≡ true → c ≡ true) → c ≡ false → b ≡ false
outside true c h e = absurd (let k : true ≡ false = sym (h refl) ∙ e in let x : ⊥ = cc in x)
outside false c h e = refl

holds_inside : (s : Model.Structure) (r : ℕ) (R : Relation) (es : List ℕ) → is_tuple s.sizes R.arguments es ≡ true → get_or (table_of s r (Some R)) (tuple_place s.sizes R.arguments es) false ≡ s.holds r es
holds_inside s r R es tuple =
    get_or-map-range_with_len (λ place. s.holds r (tuple_at s.sizes R.arguments place)) 0 (tuple_count s.sizes R.arguments) (tuple_place s.sizes R.arguments es) (tuple_place s.sizes R.arguments es) false (place_inside s.sizes R.arguments es tuple) (omega arith)
    ∙ ap (s.holds r) (tuple_of_place s.sizes R.arguments es tuple)

holds_for : (P : Protocol) (s : Model.Structure) (r : ℕ) (es : List ℕ) (o : Option Relation) (b : Bool) → IsStructure P s → slice_get P.relations r ≡ o → is_tuple_for s.sizes o es ≡ b → (is_tuple_for s.sizes o es && bit_in s.sizes (get_or (all_tables P s) r []) o es) ≡ s.holds r es
holds_for P s r es o false st found test =
    ap (λ t. t && bit_in s.sizes (get_or (all_tables P s) r []) o es) test ∙ sym (outside (s.holds r es) (is_tuple_for s.sizes o es) (λ h. ap (λ p. is_tuple_for s.sizes p es) (sym found) ∙ st.tuples_inside r es h) test)
holds_for P s r es None true st found test = absurd (let k : ⊥ = cc in k)
holds_for P s r es (Some R) true st found test =
    ap (λ t. t && bit_in s.sizes (get_or (all_tables P s) r []) (Some R) es) test
    ∙ (ap (λ table. get_or table (tuple_place s.sizes R.arguments es) false) (table_at P s r R found) ∙ holds_inside s r R es test)

element_at : (P : Protocol) (s : Model.Structure) (i : ℕ) → IsStructure P s → (i < length P.individuals) ⊎ (length P.individuals ≤ i) → get_or (all_values P s) i 0 ≡ s.element i
element_at P s i st (inl below) = value_at P s i below
element_at P s i st (inr past) =
    let many = length-map-range_with_len s.element 0 (length P.individuals) in
    get_or_past (all_values P s) i 0 (omega arith) ∙ sym (st.nothing_outside i past)

no_individual : Individual
no_individual = record { name = []; sort = 0 }

below_small : (sizes : List ℕ) (sort e : ℕ) → All (λ size. size < 2 ^ 16) sizes → (sort < length sizes) ⊎ (length sizes ≤ sort) → e < get_or sizes sort 0 → e < 2 ^ 16
below_small sizes sort e small (inl known) h = let size = small sort 0 known in omega arith
below_small sizes sort e small (inr past) h = let none = get_or_past sizes sort 0 past in absurd (omega arith)

small_element : (P : Protocol) (s : Model.Structure) (i : ℕ) → IsStructure P s → All (λ size. size < 2 ^ 16) s.sizes → i < length P.individuals → s.element i < 2 ^ 16
small_element P s i st small below =
    let I = get_or P.individuals i no_individual in
    below_small s.sizes I.sort (s.element i) small (cases_lt I.sort (length s.sizes)) (st.elements_inside i I (slice_get-get_or P.individuals i no_individual below))

small_values : (P : Protocol) (s : Model.Structure) → IsStructure P s → All (λ size. size < 2 ^ 16) s.sizes → All (λ value. value < 2 ^ 16) (all_values P s)
small_values P s st small k d below =
    let many = length-map-range_with_len s.element 0 (length P.individuals) in
    let inside : k < length P.individuals = omega arith in
    subst (λ x. x < 2 ^ 16) (sym (get_or_default (all_values P s) k d 0 below ∙ value_at P s k inside)) (small_element P s k st small inside)

pub stood_for : (P : Protocol) (s : Model.Structure) → IsStructure P s → All (λ size. size < 2 ^ 16) s.sizes → IsStoodFor P s
stood_for P s st small = record {
  sizes = s.sizes;
  tables = all_tables P s;
  values = all_values P s;
  fit = tables_fit P s st;
  small_sizes = small;
  small_values = small_values P s st small;
  stand = λ i. record {
    sizes = s.sizes;
    holds = λ r es. holds_for P s r es (slice_get P.relations r) (is_tuple_for s.sizes (slice_get P.relations r) es) st refl refl i;
    element = λ j. element_at P s j st (cases_lt j (length P.individuals)) i;
  };
}
