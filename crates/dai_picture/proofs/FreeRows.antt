-- Rows of new bits, one after another.
use Rattle.std.proofs.Common.{◌≡◌, ◌+◌, ◌<◌, ◌≤◌, ℕ, zero, suc, Bool, true, false, List, [], ◌∷◌, ◌++◌, length, get_or, take, append_assoc, refl, ap, sym, ◌∙◌, subst, arith, inl, inr, ◌⊎◌, Result, Ok, Err, IfOk}
use Rattle.std.specs.List.{All}
use Rattle.std.proofs.lemmas.Bool.{cases_lt, both_ways}
use Rattle.std.proofs.lemmas.List.{append-nil, get_or_append_left, get_or_push, get_or_past, length_push, length-map, length-take-le, take_more, map_push}
use Rattle.std.proofs.lemmas.List.Elements.{All-push, All-nil, All-weaker}
use Rattle.dai_base.specs.declared.memory.Spent.{Spent}
use Rattle.dai_trail.specs.Formula.{Formula, formula_of, value_at}
use Rattle.dai_circuit.specs.declared.bit.Bit.{Bit}
use Rattle.dai_circuit.specs.declared.bit.Bit.TheVariants as Bits
use Rattle.dai_circuit.specs.Circuits.{bit_value, same_value, variable, IsBitBelow, AreBitsBelow}
use Rattle.dai_picture.specs.declared.rows.Known.{Known}
use Rattle.dai_picture.specs.declared.rows.Known.TheVariants.{Nowhere, Everywhere}
use Rattle.dai_picture.specs.Pictures.{row_at, bit_at}
use Rattle.dai_picture.specs.Rows.{is_known, AgreeBelow, NumberFrom, all_bits, IsFreeBit, IsFreeRow, AreFreeRows}

-- ---- what bits below a count say
pub bit_kept : (count : ℕ) (bits more : List Bool) (bit : Bit) → AgreeBelow count more bits → IsBitBelow count bit → bit_value more bit ≡ bit_value bits bit
bit_kept count bits more (Bits.Known value) agree below = refl
bit_kept count bits more (Bits.Is l) agree below = ap (same_value l.positive) (agree l.var below)

pub bit_below : (count : ℕ) (row : List Bit) (slot : ℕ) → AreBitsBelow count row → IsBitBelow count (bit_at row slot)
bit_below count row slot below = by_cases (cases_lt slot (length row))
  where
    by_cases : (slot < length row) ⊎ (length row ≤ slot) → IsBitBelow count (bit_at row slot)
    by_cases (inl inside) = below slot (Bits.Known false) inside
    by_cases (inr past) = subst (IsBitBelow count) (sym (get_or_past row slot (Bits.Known false) past)) tt

pub row_below : (count : ℕ) (rows : List (List Bit)) (k : ℕ) → All (AreBitsBelow count) rows → AreBitsBelow count (row_at rows k)
row_below count rows k below = by_cases (cases_lt k (length rows))
  where
    by_cases : (k < length rows) ⊎ (length rows ≤ k) → AreBitsBelow count (row_at rows k)
    by_cases (inl inside) = below k [] inside
    by_cases (inr past) = subst (AreBitsBelow count) (sym (get_or_past rows k [] past)) (All-nil (IsBitBelow count))

pub row_kept : (count : ℕ) (bits more : List Bool) (row : List Bit) → AgreeBelow count more bits → AreBitsBelow count row → (slot : ℕ) → bit_value more (bit_at row slot) ≡ bit_value bits (bit_at row slot)
row_kept count bits more row agree below slot = bit_kept count bits more (bit_at row slot) agree (bit_below count row slot below)

pub bit_weaker : (n m : ℕ) → n ≤ m → (bit : Bit) → IsBitBelow n bit → IsBitBelow m bit
bit_weaker n m grows (Bits.Known value) below = tt
bit_weaker n m grows (Bits.Is l) below = omega arith

pub row_weaker : (n m : ℕ) → n ≤ m → (row : List Bit) → AreBitsBelow n row → AreBitsBelow m row
row_weaker n m grows row below = All-weaker (IsBitBelow n) (IsBitBelow m) (bit_weaker n m grows) row below

pub rows_weaker : (n m : ℕ) → n ≤ m → (rows : List (List Bit)) → All (AreBitsBelow n) rows → All (AreBitsBelow m) rows
rows_weaker n m grows rows below = All-weaker (AreBitsBelow n) (AreBitsBelow m) (row_weaker n m grows) rows below

-- ---- one more value
abbrev put : List Bool → ℕ → Bool → List Bool
put [] zero value = value ∷ []
put [] (suc n) value = false ∷ put [] n value
put (b ∷ bits) zero value = value ∷ bits
put (b ∷ bits) (suc n) value = b ∷ put bits n value

put_here : (bits : List Bool) (n : ℕ) (value : Bool) → value_at (put bits n value) n ≡ value
put_here [] zero value = refl
put_here [] (suc n) value = put_here [] n value
put_here (b ∷ bits) zero value = refl
put_here (b ∷ bits) (suc n) value = put_here bits n value

put_below : (bits : List Bool) (n : ℕ) (value : Bool) → AgreeBelow n (put bits n value) bits
put_below bits zero value var l = absurd (omega arith)
put_below [] (suc n) value zero l = refl
put_below [] (suc n) value (suc var) l = put_below [] n value var (omega arith)
put_below (b ∷ bits) (suc n) value zero l = refl
put_below (b ∷ bits) (suc n) value (suc var) l = put_below bits n value var (omega arith)

-- ---- new variables, one after another
numbered_from : (a b c : ℕ) (bits : List Bit) → a ≡ b → NumberFrom b c bits → NumberFrom a c bits
numbered_from a b c bits e h = subst (λ n. NumberFrom n c bits) (sym e) h

pub numbered_append : (a b c : ℕ) (xs ys : List Bit) → NumberFrom a b xs → NumberFrom b c ys → NumberFrom a c (xs ++ ys)
numbered_append a b c [] ys h g = numbered_from a b c ys h g
numbered_append a b c (x ∷ xs) ys h g = (h.0, numbered_append (a + 1) b c xs ys h.1 g)

pub all_bits-push : (rows : List (List Bit)) (row : List Bit) → all_bits (rows ++ row ∷ []) ≡ all_bits rows ++ row
all_bits-push [] row = append-nil row
all_bits-push (r ∷ rows) row = ap (λ xs. r ++ xs) (all_bits-push rows row) ∙ sym (append_assoc r (all_bits rows) row)

both_known : (which : Known) (n : ℕ) → which ≡ Everywhere → is_known which n ≡ true
both_known which n e = ap (λ w. is_known w n) e

none_known : (which : Known) (n : ℕ) → which ≡ Nowhere → is_known which n ≡ false
none_known which n e = ap (λ w. is_known w n) e

-- ---- a bit
pub bit_known : (f : Formula) (fixed : Bool) → fixed ≡ true → IsFreeBit f f fixed (Bits.Known true)
bit_known f fixed is = record {
  clauses = refl;
  grows = omega arith;
  below = tt;
  known = λ k. refl;
  none = λ k. refl;
  numbered = λ k. absurd (both_ways fixed k is);
  free = λ bits value k. (bits, λ var l. refl, sym (k is));
}

bit_new : (f : Formula) (fixed : Bool) → fixed ≡ false → IsFreeBit f (formula_of (f.vars + 1) f.clauses) fixed (Bits.Is (variable f.vars))
bit_new f fixed is = record {
  clauses = refl;
  grows = omega arith;
  below = omega arith;
  known = λ k. absurd (both_ways fixed is k);
  none = λ k. absurd (both_ways fixed is k);
  numbered = λ k. (refl, refl);
  free = λ bits value k. (put bits f.vars value, put_below bits f.vars value, put_here bits f.vars value);
}

pub bit_input : (old new : Formula) (fixed : Bool) (result : Result Bit Spent) → fixed ≡ false → IfOk result (λ bit. (bit ≡ Bits.Is (variable old.vars)) × (new ≡ formula_of (old.vars + 1) old.clauses)) → IfOk result (IsFreeBit old new fixed)
bit_input old new fixed (Ok bit) is h = subst (IsFreeBit old new fixed) (sym h.0) (subst (λ f. IsFreeBit old f fixed (Bits.Is (variable old.vars))) (sym h.1) (bit_new old fixed is))
bit_input old new fixed (Err e) is h = tt

-- ---- a row
pub row_none : (f : Formula) (which : Known) → IsFreeRow f f which 0 []
row_none f which = record {
  clauses = refl;
  grows = omega arith;
  long = refl;
  below = All-nil (IsBitBelow f.vars);
  known = λ slot l is. absurd (omega arith);
  none = λ is. refl;
  numbered = λ is. refl;
  free = λ bits values k. (bits, λ var l. refl, λ slot l. absurd (omega arith));
}

last_slot : (row : List Bit) (bit : Bit) (slot : ℕ) → slot < length (row ++ bit ∷ []) → length row ≤ slot → length row ≡ slot
last_slot row bit slot l past = let more = length_push row bit in omega arith

row_push : (a b c : Formula) (which : Known) (n : ℕ) (row : List Bit) (bit : Bit) → IsFreeRow a b which n row → IsFreeBit b c (is_known which n) bit → IsFreeRow a c which (n + 1) (row ++ bit ∷ [])
row_push a b c which n row bit r s =
    let one_more = length_push row bit in
    let long = r.long in
    let first = r.grows in
    let then_ = s.grows in
    let low : (slot : ℕ) → slot < length row → bit_at (row ++ bit ∷ []) slot ≡ bit_at row slot = λ slot l. get_or_append_left row (bit ∷ []) (Bits.Known false) slot l in
    let high : (slot : ℕ) → length row ≡ slot → bit_at (row ++ bit ∷ []) slot ≡ bit = λ slot e. get_or_push row bit (Bits.Known false) slot e in
    record {
      clauses = s.clauses ∙ r.clauses;
      grows = omega arith;
      long = omega arith;
      below = All-push (IsBitBelow c.vars) row bit (row_weaker b.vars c.vars s.grows row r.below) s.below;
      known = λ slot l is.
          elim (cases_lt slot (length row)) [
            | inl inside ↦ low slot inside ∙ r.known slot inside is
            | inr past ↦
                let here = last_slot row bit slot l past in
                high slot here ∙ s.known (subst (λ x. is_known which x ≡ true) (sym here ∙ long) is)
          ];
      none = λ is. s.none (both_known which n is) ∙ r.none is;
      numbered = λ is. numbered_append a.vars b.vars c.vars row (bit ∷ []) (r.numbered is) (s.numbered (none_known which n is));
      free = λ bits values fixed.
          let one = r.free bits values (λ slot l is. fixed slot (omega arith) is) in
          let two = s.free one.0 (values n) (λ is. fixed n (omega arith) is) in
          let ends : (slot : ℕ) → slot < length (row ++ bit ∷ []) → (slot < length row) ⊎ (length row ≤ slot) → bit_value two.0 (bit_at (row ++ bit ∷ []) slot) ≡ values slot =
          λ slot l cases.
          elim cases [
            | inl inside ↦ ap (bit_value two.0) (low slot inside) ∙ row_kept b.vars one.0 two.0 row two.1 r.below slot ∙ one.2 slot inside
            | inr past ↦
                let here = last_slot row bit slot l past in
                ap (bit_value two.0) (high slot here) ∙ two.2 ∙ ap values (sym long ∙ here)
          ] in
          (two.0, λ var l. two.1 var (omega arith) ∙ one.1 var l, λ slot l. ends slot l (cases_lt slot (length row)));
    }

pub row_more : (a b c : Formula) (which : Known) (n : ℕ) (row next : List Bit) (bit : Bit) → IsFreeRow a b which n row → IsFreeBit b c (is_known which n) bit → next ≡ row ++ bit ∷ [] → IsFreeRow a c which (n + 1) next
row_more a b c which n row next bit r s e = subst (IsFreeRow a c which (n + 1)) (sym e) (row_push a b c which n row bit r s)

-- ---- rows
pub rows_none : (f : Formula) (which : Known) → AreFreeRows f f which [] []
rows_none f which = record {
  clauses = refl;
  grows = omega arith;
  rows = record { long = refl; below = All-nil (AreBitsBelow f.vars) };
  known = λ k slot l m is. absurd (omega arith);
  none = λ is. refl;
  numbered = λ is. refl;
  free = λ bits values fixed. (bits, λ var l. refl, λ k slot l m. absurd (omega arith));
}

last_row : (rows : List (List Bit)) (row : List Bit) (k : ℕ) → k < length (rows ++ row ∷ []) → length rows ≤ k → length rows ≡ k
last_row rows row k l past = let more = length_push rows row in omega arith

rows_push : (a b c : Formula) (which : Known) (lengths : List ℕ) (n : ℕ) (rows : List (List Bit)) (row : List Bit) → n < length lengths → AreFreeRows a b which (take n lengths) rows → IsFreeRow b c which (get_or lengths n 0) row → AreFreeRows a c which (take (n + 1) lengths) (rows ++ row ∷ [])
rows_push a b c which lengths n rows row inside r s =
    let f : List Bit → ℕ = λ (x : List Bit). length x in
    let one_more = length_push rows row in
    let count : length rows ≡ n = sym (length-map rows f) ∙ (ap length r.rows.long ∙ length-take-le n lengths (omega arith)) in
    let first = r.grows in
    let then_ = s.grows in
    let low : (k : ℕ) → k < length rows → row_at (rows ++ row ∷ []) k ≡ row_at rows k = λ k l. get_or_append_left rows (row ∷ []) [] k l in
    let high : (k : ℕ) → length rows ≡ k → row_at (rows ++ row ∷ []) k ≡ row = λ k e. get_or_push rows row [] k e in
    record {
      clauses = s.clauses ∙ r.clauses;
      grows = omega arith;
      rows = record {
        long = map_push f rows row ∙ (ap (λ xs. xs ++ length row ∷ []) r.rows.long ∙ (ap (λ x. take n lengths ++ x ∷ []) s.long ∙ sym (take_more lengths n 0 inside)));
        below = All-push (AreBitsBelow c.vars) rows row (rows_weaker b.vars c.vars s.grows rows r.rows.below) s.below;
      };
      known = λ k slot l m is.
          elim (cases_lt k (length rows)) [
            | inl earlier ↦
                let e = low k earlier in
                ap (λ x. bit_at x slot) e ∙ r.known k slot earlier (subst (λ x. slot < length x) e m) is
            | inr past ↦
                let e = high k (last_row rows row k l past) in
                ap (λ x. bit_at x slot) e ∙ s.known slot (subst (λ x. slot < length x) e m) is
          ];
      none = λ is. s.none is ∙ r.none is;
      numbered = λ is. subst (NumberFrom a.vars c.vars) (sym (all_bits-push rows row)) (numbered_append a.vars b.vars c.vars (all_bits rows) row (r.numbered is) (s.numbered is));
      free = λ bits values fixed.
          let one = r.free bits values (λ k slot l m is. fixed k slot (omega arith) (subst (λ x. slot < length x) (sym (low k l)) m) is) in
          let two = s.free one.0 (values n) (λ slot l is. fixed n slot (omega arith) (subst (λ x. slot < length x) (sym (high n count)) l) is) in
          let ends : (k slot : ℕ) → k < length (rows ++ row ∷ []) → slot < length (row_at (rows ++ row ∷ []) k) → (k < length rows) ⊎ (length rows ≤ k) → bit_value two.0 (bit_at (row_at (rows ++ row ∷ []) k) slot) ≡ values k slot =
          λ k slot l m cases.
          elim cases [
            | inl earlier ↦
                let e = low k earlier in
                ap (λ x. bit_value two.0 (bit_at x slot)) e ∙ row_kept b.vars one.0 two.0 (row_at rows k) two.1 (row_below b.vars rows k r.rows.below) slot ∙ one.2 k slot earlier (subst (λ x. slot < length x) e m)
            | inr past ↦
                let here = last_row rows row k l past in
                let e = high k here in
                ap (λ x. bit_value two.0 (bit_at x slot)) e ∙ two.2 slot (subst (λ x. slot < length x) e m) ∙ ap (λ x. values x slot) (sym count ∙ here)
          ] in
          (two.0, λ var l. two.1 var (omega arith) ∙ one.1 var l, λ k slot l m. ends k slot l m (cases_lt k (length rows)));
    }

pub rows_more : (a b c : Formula) (which : Known) (lengths : List ℕ) (n : ℕ) (rows next : List (List Bit)) (row : List Bit) → n < length lengths → AreFreeRows a b which (take n lengths) rows → IsFreeRow b c which (get_or lengths n 0) row → next ≡ rows ++ row ∷ [] → AreFreeRows a c which (take (n + 1) lengths) next
rows_more a b c which lengths n rows next row inside r s e = subst (AreFreeRows a c which (take (n + 1) lengths)) (sym e) (rows_push a b c which lengths n rows row inside r s)
