-- Tables copied one by one, and the structure that a copy stands for.
use Rattle.std.proofs.Common.{◌≡◌, ℕ, zero, suc, ◌+◌, ◌<◌, ◌≤◌, ◌&&◌, Bool, List, [], ◌∷◌, length, get_or, set, take, map, Some, slice_get, Vec, sym, ap, ◌∙◌, refl, subst, arith, get_or-set_same}
use Rattle.std.specs.List.{All}
use Rattle.std.specs.Vec.{with_item}
use Rattle.std.specs.declared.alloc.Global.{Global}
use Rattle.std.proofs.lemmas.List.{length-map, take-set-le, take_more_same, take_all, set-get_or}
use Rattle.std.proofs.lemmas.Option.{slice_get-get_or}
use Rattle.dai_model.specs.Protocol.{Protocol, Relation}
use Rattle.dai_model.specs.Structure.{is_tuple_of}
use Rattle.dai_logic.specs.declared.structure.Structure.{Structure}
use Rattle.dai_logic.specs.Tables.{structure_of, tables_of, bits_of, bit_in, tuple_count, Fits, IsCopy, IsAlike, AreAsLong}
use Rattle.dai_logic.proofs.Updating.{as_many, as_long_with, bits_with}

-- the tables so far are copied, and the others are as long
pub record AreCopied (from to : Vec (Vec Bool Global) Global) (front : ℕ) : Type 0 where
  pub long : AreAsLong (bits_of to) (bits_of from)
  pub same : take front (bits_of to) ≡ take front (bits_of from)

pub copied_none : (from to : Vec (Vec Bool Global) Global) → AreAsLong (bits_of to) (bits_of from) → AreCopied from to 0
copied_none from to long = record { long = long; same = refl }

pub copied_more : (from to : Vec (Vec Bool Global) Global) (k : ℕ) (t : Vec Bool Global) → AreCopied from to k → k < length (bits_of from) → t.items ≡ get_or (bits_of from) k [] → AreCopied from (with_item to k t) (k + 1)
copied_more from to k t h below is =
    let many = as_many (bits_of to) (bits_of from) h.long in
    let inside : k < length (bits_of to) = omega arith in
    let changed = bits_with to k t in
    let others : take k (set (bits_of to) k t.items) ≡ take k (bits_of from) = take-set-le k (bits_of to) k t.items (omega arith) ∙ h.same in
    let here : get_or (set (bits_of to) k t.items) k [] ≡ get_or (bits_of from) k [] = get_or-set_same (bits_of to) k t.items [] inside ∙ is in
    let as_many_now : k < length (set (bits_of to) k t.items) = subst (λ n. k < n) (sym (length-set_now (bits_of to) k t.items)) inside in
    record {
      long = ap (map (λ (row : List Bool). length row)) changed ∙ (as_long_with (bits_of to) (bits_of from) k t.items (get_or (bits_of from) k []) h.long (ap length is) ∙ ap (map (λ (row : List Bool). length row)) (set-get_or (bits_of from) k []));
      same = ap (take (k + 1)) changed ∙ take_more_same (set (bits_of to) k t.items) (bits_of from) k [] as_many_now below others here;
    }
  where
    length-set_now : (xs : List (List Bool)) (i : ℕ) (x : List Bool) → length (set xs i x) ≡ length xs
    length-set_now [] i x = refl
    length-set_now (y ∷ ys) zero x = refl
    length-set_now (y ∷ ys) (suc i) x = ap suc (length-set_now ys i x)

pub copied_all : (from to : Vec (Vec Bool Global) Global) (k : ℕ) → AreCopied from to k → length (bits_of from) ≤ k → bits_of to ≡ bits_of from
copied_all from to k h past =
    let many = as_many (bits_of to) (bits_of from) h.long in
    sym (take_all k (bits_of to) (omega arith)) ∙ (h.same ∙ take_all k (bits_of from) past)

pub copied_structure : (P : Protocol) (s t : Structure) → IsCopy s t → structure_of P t ≡ structure_of P s
copied_structure P s t c = λ i. record { sizes = c.sizes i; holds = λ r es. is_tuple_of P (c.sizes i) r es && bit_in (c.sizes i) (get_or (c.tables i) r []) (slice_get P.relations r) es; element = λ j. get_or (c.values i) j 0 }

-- a copy fits where the structure does
pub copied_fits : (P : Protocol) (s t : Structure) → IsCopy s t → Fits P s → Fits P t
copied_fits P s t c fits =
    record {
      one_size_each = ap length c.sizes ∙ fits.one_size_each;
      inhabited = subst (All (λ size. 0 < size)) (sym c.sizes) fits.inhabited;
      one_table_each = ap length c.tables ∙ fits.one_table_each;
      whole_tables = λ q Q found. ap (λ (xs : List (List Bool)). length (get_or xs q [])) c.tables ∙ (fits.whole_tables q Q found ∙ ap (λ sizes. tuple_count sizes Q.arguments) (sym c.sizes));
      one_value_each = ap length c.values ∙ fits.one_value_each;
      values_inside = λ i I found. subst (λ (xs : List ℕ). get_or xs i 0 < get_or t.sizes.items I.sort 0) (sym c.values) (subst (λ (xs : List ℕ). get_or s.values.items i 0 < get_or xs I.sort 0) (sym c.sizes) (fits.values_inside i I found));
    }

as_long_from : (xs ys : List (List Bool)) → length xs ≡ length ys → ((r : ℕ) → r < length xs → length (get_or xs r []) ≡ length (get_or ys r [])) → AreAsLong xs ys
as_long_from [] [] many each = refl
as_long_from [] (y ∷ ys) many each = absurd (omega arith)
as_long_from (x ∷ xs) [] many each = absurd (omega arith)
as_long_from (x ∷ xs) (y ∷ ys) many each =
    let here : length x ≡ length y = each 0 (omega arith) in
    let rest : map (λ (t : List Bool). length t) xs ≡ map (λ (t : List Bool). length t) ys = as_long_from xs ys (omega arith) (λ r below. each (suc r) (omega arith)) in
    λ i. here i ∷ rest i

no_relation : Relation
no_relation = record { name = []; arguments = [] }

-- two structures of one protocol with the same sizes are alike
pub fits_alike : (P : Protocol) (s t : Structure) → Fits P s → Fits P t → t.sizes.items ≡ s.sizes.items → IsAlike s t
fits_alike P s t fits other sizes =
    let new = length-map t.tables.items (λ (t : Vec Bool Global). t.items) in
    let old = length-map s.tables.items (λ (t : Vec Bool Global). t.items) in
    let many_new = other.one_table_each in
    let many_old = fits.one_table_each in
    record {
      sizes = ap length sizes;
      tables = as_long_from (tables_of t) (tables_of s) (omega arith) (λ r below.
          let inside : r < length P.relations = omega arith in
          let R = get_or P.relations r no_relation in
          let found : slice_get P.relations r ≡ Some R = slice_get-get_or P.relations r no_relation inside in
          other.whole_tables r R found ∙ (ap (λ xs. tuple_count xs R.arguments) sizes ∙ sym (fits.whole_tables r R found)));
      values = other.one_value_each ∙ sym fits.one_value_each;
    }
