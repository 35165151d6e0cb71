-- Looking up a tuple of terms, column by column.
use Rattle.std.proofs.Common.{◌≡◌, ◌+◌, ◌*◌, ◌^◌, ◌≢◌, ◌<◌, ◌≤◌, ◌&&◌, ◌||◌, ℕ, Bool, true, false, List, [], ◌∷◌, ◌++◌, length, get_or, take, drop, map, refl, ap, sym, ◌∙◌, subst, arith, Result, Ok, Vec, Global}
use Rattle.std.specs.List.{All, AllZip, list_any}
use Rattle.std.proofs.Math.Nat.{add-mul, mul_assoc, le-mul_of_pos_right}
use Rattle.std.proofs.lemmas.Nat.{mul-le}
use Rattle.std.proofs.lemmas.List.{take_more, map-append, drop_more, length-drop, get_or_default, get_or-map, length-map}
use Rattle.std.proofs.lemmas.List.Elements.{All-head, All-tail}
use Rattle.std.proofs.lemmas.Slice.Zip.{AllZip-long}
use Rattle.dai_base.specs.declared.memory.Spent.{Spent}
use Rattle.dai_trail.specs.Formula.{Formula}
use Rattle.dai_circuit.specs.declared.bit.Bit.{Bit}
use Rattle.dai_circuit.specs.declared.bit.Bit.TheVariants.{Known}
use Rattle.dai_circuit.proofs.Extensions.{extends_self}
use Rattle.dai_circuit.specs.Circuits.{bit_value, all_value, any_value, IsBitFor, Extends, Defines}
use Rattle.dai_logic.specs.Counts.{tuple_count, tuple_place}
use Rattle.dai_picture.specs.Pictures.{bit_at}
use Rattle.dai_ground.specs.declared.candidates.Candidate.{Candidate}
use Rattle.dai_ground.specs.Atoms.{columns_of, IsLookup, IsLookedUp, StandForEach, IsColumn}
use Rattle.dai_ground.specs.Findings.{HasValue, HaveValues, Finds}
use Rattle.dai_ground.proofs.Findings.{below_more, all_below_more, IsAny, IsMore, have_none, have_more, have_other, finds_any}

-- the bits of the candidates so far of one column, each with the bit of the table at the tuple that goes on with
-- its slot
pub record AreLookedUp (slots sorts : List ℕ) (table : List Bit) (column : List Candidate) (columns : List (List Candidate)) (first size : ℕ) (bits values : List Bool) : Type 0 where
  pub elements : List ℕ
  pub stand : StandForEach bits columns elements
  pub are : values ≡ map (λ (c : Candidate). bit_value bits c.bit && bit_value bits (bit_at table ((first * size + c.slot) * tuple_count slots sorts + tuple_place slots sorts elements))) column

dropped_inside : {A B : Type 0} (R : A → B → Type 0) (xs : List A) (ys : List B) (n : ℕ) → n < length ys → AllZip R (drop n xs) (drop n ys) → n < length xs
dropped_inside R xs ys n below zip =
    let l = AllZip-long R (drop n xs) (drop n ys) zip in
    let a = length-drop n xs in
    let b = length-drop n ys in
    omega arith

-- a place among more slots of one type
placed : (first size cnt slot total : ℕ) → slot < size → first * (size * cnt) + size * cnt ≤ total → (first * size + slot) * cnt + cnt ≤ total
placed first size cnt slot total below room =
    let a : (first * size + slot) * cnt + cnt ≡ (first * size + slot + 1) * cnt = sym (add-mul (first * size + slot) 1 cnt ∙ ap (λ n. (first * size + slot) * cnt + n) (let e : 1 * cnt ≡ cnt = omega arith in e)) in
    let b : (first * size + slot + 1) * cnt ≤ (first * size + size) * cnt = mul-le (first * size + slot + 1) cnt (first * size + size) cnt (omega arith) (omega arith) in
    let c : (first * size + size) * cnt ≡ first * (size * cnt) + size * cnt = add-mul (first * size) size cnt ∙ ap (λ n. n + size * cnt) (mul_assoc first size cnt) in
    omega arith

pub count_positive : (slots sorts : List ℕ) → All (λ n. 0 < n) slots → All (λ sort. sort < length slots) sorts → 0 < tuple_count slots sorts
count_positive slots [] inhabited known = omega arith
count_positive slots (sort ∷ sorts) inhabited known =
    let here = inhabited sort 0 (All-head (λ (t : ℕ). t < length slots) sort sorts known) in
    let rest = count_positive slots sorts inhabited (All-tail (λ (t : ℕ). t < length slots) sort sorts known) in
    mul-le 1 1 (get_or slots sort 0) (tuple_count slots sorts) here rest

-- a place and its size fit where the table is short
pub place_fits : (first size cnt slot total : ℕ) → 0 < cnt → slot < size → first * (size * cnt) + size * cnt ≤ total → first * size + slot < total
place_fits first size cnt slot total positive below room =
    let a = placed first size cnt slot total below room in
    let b : first * size + slot ≤ (first * size + slot) * cnt = le-mul_of_pos_right {m = cnt} (first * size + slot) positive in
    omega arith

-- what a column that is still to come gives
pub record IsNext (count : ℕ) (slots sorts : List ℕ) (table : List Bit) (columns : List (List Candidate)) (first number : ℕ) : Type 0 where
  pub inside : number < length sorts
  pub sorts_are : drop number sorts ≡ get_or sorts number 0 ∷ drop (number + 1) sorts
  pub columns_are : drop number columns ≡ get_or columns number [] ∷ drop (number + 1) columns
  pub known : get_or sorts number 0 < length slots
  pub column : IsColumn count slots (get_or sorts number 0) (get_or columns number [])
  pub short : first * get_or slots (get_or sorts number 0) 0 < 2 ^ 64
  pub shorter : (slot : ℕ) → slot < get_or slots (get_or sorts number 0) 0 → first * get_or slots (get_or sorts number 0) 0 + slot < 2 ^ 64
  pub later : (slot : ℕ) → slot < get_or slots (get_or sorts number 0) 0 → IsLookup count slots (drop (number + 1) sorts) table (drop (number + 1) columns) (first * get_or slots (get_or sorts number 0) 0 + slot)

later_lookup : (count : ℕ) (slots : List ℕ) (sort : ℕ) (sorts : List ℕ) (table : List Bit) (column : List Candidate) (columns : List (List Candidate)) (first slot : ℕ) → slot < get_or slots sort 0 → IsLookup count slots (sort ∷ sorts) table (column ∷ columns) first → IsLookup count slots sorts table columns (first * get_or slots sort 0 + slot)
later_lookup count slots sort sorts table column columns first slot below look = record {
  known = All-tail (λ (t : ℕ). t < length slots) sort sorts look.known;
  inhabited = look.inhabited;
  each = look.each.1;
  over = look.over;
  room = placed first (get_or slots sort 0) (tuple_count slots sorts) slot (length table) below look.room;
  short = look.short;
}

pub next : (count : ℕ) (slots sorts : List ℕ) (table : List Bit) (columns : List (List Candidate)) (first number : ℕ) → number < length columns → IsLookup count slots (drop number sorts) table (drop number columns) first → IsNext count slots sorts table columns first number
next count slots sorts table columns first number below look =
    let inside = dropped_inside (IsColumn count slots) sorts columns number below look.each in
    let s = drop_more sorts number 0 inside in
    let c = drop_more columns number [] below in
    let here : IsLookup count slots (get_or sorts number 0 ∷ drop (number + 1) sorts) table (get_or columns number [] ∷ drop (number + 1) columns) first =
    subst (λ cs. IsLookup count slots (get_or sorts number 0 ∷ drop (number + 1) sorts) table cs first) c (subst (λ ss. IsLookup count slots ss table (drop number columns) first) s look) in
    let size = get_or slots (get_or sorts number 0) 0 in
    let rest = tuple_count slots (drop (number + 1) sorts) in
    let known = All-head (λ (t : ℕ). t < length slots) (get_or sorts number 0) (drop (number + 1) sorts) here.known in
    let some : 0 < size = here.inhabited (get_or sorts number 0) 0 known in
    let positive : 0 < rest = count_positive slots (drop (number + 1) sorts) here.inhabited (All-tail (λ (t : ℕ). t < length slots) (get_or sorts number 0) (drop (number + 1) sorts) here.known) in
    record {
      inside = inside;
      sorts_are = s;
      columns_are = c;
      known = All-head (λ (t : ℕ). t < length slots) (get_or sorts number 0) (drop (number + 1) sorts) here.known;
      column = here.each.0;
      short = let p = place_fits first size rest 0 (length table) positive some here.room in let q = here.short in omega arith;
      shorter = λ slot l. let p = place_fits first size rest slot (length table) positive l here.room in let q = here.short in omega arith;
      later = λ slot l. later_lookup count slots (get_or sorts number 0) (drop (number + 1) sorts) table (get_or columns number []) (drop (number + 1) columns) first slot l here;
    }

columns_kept : (m n : ℕ) (slots sorts : List ℕ) (columns : List (List Candidate)) → m ≤ n → AllZip (IsColumn m slots) sorts columns → AllZip (IsColumn n slots) sorts columns
columns_kept m n slots [] [] le each = each
columns_kept m n slots [] (c ∷ cs) le each = absurd each
columns_kept m n slots (s ∷ ss) [] le each = absurd each
columns_kept m n slots (s ∷ ss) (c ∷ cs) le each = (record { inside = each.0.inside; over = λ k d l. below_more m n _ le (each.0.over k d l) }, columns_kept m n slots ss cs le each.1)

pub lookup_kept : (m n : ℕ) (slots sorts : List ℕ) (table : List Bit) (columns : List (List Candidate)) (first : ℕ) → m ≤ n → IsLookup m slots sorts table columns first → IsLookup n slots sorts table columns first
lookup_kept m n slots sorts table columns first le look = record {
  known = look.known;
  inhabited = look.inhabited;
  each = columns_kept m n slots sorts columns le look.each;
  over = all_below_more m n table le look.over;
  room = look.room;
  short = look.short;
}

pub looked_up_none : (slots sorts : List ℕ) (table : List Bit) (column : List Candidate) (columns : List (List Candidate)) (first size : ℕ) (f : Formula) → HaveValues (AreLookedUp slots sorts table [] columns first size) f []
looked_up_none slots sorts table column columns first size f = have_none (AreLookedUp slots sorts table [] columns first size) f (λ bits values are. are.are)

-- one candidate with the bit of the rest
pub record IsOneLookedUp (slots sorts : List ℕ) (table : List Bit) (c : Candidate) (columns : List (List Candidate)) (first size : ℕ) (bits : List Bool) (value : Bool) : Type 0 where
  pub elements : List ℕ
  pub stand : StandForEach bits columns elements
  pub is : value ≡ (bit_value bits c.bit && bit_value bits (bit_at table ((first * size + c.slot) * tuple_count slots sorts + tuple_place slots sorts elements)))

and_true : (b : Bool) → (b && true) ≡ b
and_true true = refl
and_true false = refl

pub one_looked_up : (slots sorts : List ℕ) (table : List Bit) (c : Candidate) (columns : List (List Candidate)) (first size : ℕ) (f g : Formula) (found bit : Bit) → HasValue (IsLookedUp slots sorts table columns (first * size + c.slot)) f found → Extends f g → IsBitFor g (all_value (c.bit ∷ found ∷ [])) bit → HasValue (IsOneLookedUp slots sorts table c columns first size) g bit
one_looked_up slots sorts table c columns first size f g found bit h e d = record {
  below = d.below;
  same = λ bits value met is.
      let there = bit_value bits (bit_at table ((first * size + c.slot) * tuple_count slots sorts + tuple_place slots sorts is.elements)) in
      d.same bits met
      ∙ (ap (λ v. bit_value bits c.bit && (v && true)) (h.same bits there (e.keeps bits met) (record { elements = is.elements; stand = is.stand; is = refl }))
      ∙ (ap (λ v. bit_value bits c.bit && v) (and_true there) ∙ sym is.is));
}

pub looked_up_more : (slots sorts : List ℕ) (table : List Bit) (column : List Candidate) (columns : List (List Candidate)) (first size i : ℕ) (d : Candidate) (f : Formula) (parts : List Bit) (bit : Bit) → i < length column → HaveValues (AreLookedUp slots sorts table (take i column) columns first size) f parts → HasValue (IsOneLookedUp slots sorts table (get_or column i d) columns first size) f bit → HaveValues (AreLookedUp slots sorts table (take (i + 1) column) columns first size) f (parts ++ bit ∷ [])
looked_up_more slots sorts table column columns first size i d f parts bit below h g =
    have_other (IsMore (AreLookedUp slots sorts table (take i column) columns first size) (IsOneLookedUp slots sorts table (get_or column i d) columns first size)) (AreLookedUp slots sorts table (take (i + 1) column) columns first size) f (parts ++ bit ∷ [])
    (λ bits values are.
    let test : Candidate → Bool = λ c. bit_value bits c.bit && bit_value bits (bit_at table ((first * size + c.slot) * tuple_count slots sorts + tuple_place slots sorts are.elements)) in
    record {
      front = map test (take i column);
      last = test (get_or column i d);
      are = record { elements = are.elements; stand = are.stand; are = refl };
      is = record { elements = are.elements; stand = are.stand; is = refl };
      all = are.are ∙ (ap (map test) (take_more column i d below) ∙ map-append test (take i column) (get_or column i d ∷ []));
    })
    (have_more (AreLookedUp slots sorts table (take i column) columns first size) (IsOneLookedUp slots sorts table (get_or column i d) columns first size) f parts bit h g)

any_map : (test : Candidate → Bool) (cs : List Candidate) → list_any (λ b. b) (map test cs) ≡ list_any test cs
any_map test [] = refl
any_map test (c ∷ cs) = ap (λ v. test c || v) (any_map test cs)

place_again : (first size e cnt rest : ℕ) → (first * size + e) * cnt + rest ≡ first * (size * cnt) + (e * cnt + rest)
place_again first size e cnt rest =
    ap (λ n. n + rest) (add-mul (first * size) e cnt ∙ ap (λ n. n + e * cnt) (mul_assoc first size cnt))
    ∙ (let a : first * (size * cnt) + e * cnt + rest ≡ first * (size * cnt) + (e * cnt + rest) = omega arith in a)

column_value : (slots : List ℕ) (sort : ℕ) (sorts : List ℕ) (table : List Bit) (column : List Candidate) (columns : List (List Candidate)) (first : ℕ) (bits : List Bool) (value : Bool) (elements : List ℕ) → StandForEach bits (column ∷ columns) elements → value ≡ bit_value bits (bit_at table (first * tuple_count slots (sort ∷ sorts) + tuple_place slots (sort ∷ sorts) elements)) → IsAny (AreLookedUp slots sorts table column columns first (get_or slots sort 0)) bits value
column_value slots sort sorts table column columns first bits value [] stand is = absurd stand
column_value slots sort sorts table column columns first bits value (e ∷ es) stand is =
    let size = get_or slots sort 0 in
    let at : ℕ → Bool = λ slot. bit_value bits (bit_at table ((first * size + slot) * tuple_count slots sorts + tuple_place slots sorts es)) in
    let test : Candidate → Bool = λ c. bit_value bits c.bit && at c.slot in
    record {
      values = map test column;
      are = record { elements = es; stand = stand.1; are = refl };
      is = is ∙ (ap (λ place. bit_value bits (bit_at table place)) (sym (place_again first size e (tuple_count slots sorts) (tuple_place slots sorts es))) ∙ sym (any_map test column ∙ stand.0 at));
    }

pub looked_up_finds : (slots : List ℕ) (sort : ℕ) (sorts : List ℕ) (table : List Bit) (column : List Candidate) (columns : List (List Candidate)) (first : ℕ) (f g : Formula) (parts : List Bit) (result : Result Bit Spent) → HaveValues (AreLookedUp slots sorts table column columns first (get_or slots sort 0)) f parts → Defines f g result (any_value parts) → Finds (IsLookedUp slots (sort ∷ sorts) table (column ∷ columns) first) f g result
looked_up_finds slots sort sorts table column columns first f g parts result h d =
    finds_any (AreLookedUp slots sorts table column columns first (get_or slots sort 0)) (IsLookedUp slots (sort ∷ sorts) table (column ∷ columns) first) f g parts result
    (λ bits value is. column_value slots sort sorts table column columns first bits value is.elements is.stand is.is)
    h d

no_columns : (count : ℕ) (slots sorts : List ℕ) (columns : List (List Candidate)) → columns ≡ [] → AllZip (IsColumn count slots) sorts columns → sorts ≡ []
no_columns count slots [] columns e each = refl
no_columns count slots (s ∷ ss) [] e each = absurd each
no_columns count slots (s ∷ ss) (c ∷ cs) e each = absurd (let k : ⊥ = cc in k)

at_end : (slots sorts : List ℕ) (table : List Bit) (columns : List (List Candidate)) (first : ℕ) (bits : List Bool) (value : Bool) (elements : List ℕ) → sorts ≡ [] → columns ≡ [] → StandForEach bits columns elements → value ≡ bit_value bits (bit_at table (first * tuple_count slots sorts + tuple_place slots sorts elements)) → value ≡ bit_value bits (bit_at table first)
at_end slots [] table [] first bits value [] s c stand is = is ∙ ap (λ n. bit_value bits (bit_at table n)) (let e : first * 1 + 0 ≡ first = omega arith in e)
at_end slots [] table [] first bits value (e ∷ es) s c stand is = absurd stand
at_end slots [] table (k ∷ ks) first bits value elements s c stand is = absurd (let k : ⊥ = cc in k)
at_end slots (t ∷ ts) table columns first bits value elements s c stand is = absurd (let k : ⊥ = cc in k)

pub end_room : (count : ℕ) (slots sorts : List ℕ) (table : List Bit) (columns : List (List Candidate)) (first : ℕ) → columns ≡ [] → IsLookup count slots sorts table columns first → first < length table
end_room count slots sorts table columns first c look =
    let s = no_columns count slots sorts columns c look.each in
    let room : first * 1 + 1 ≤ length table = subst (λ (ss : List ℕ). first * tuple_count slots ss + tuple_count slots ss ≤ length table) s look.room in
    omega arith

pub end_finds : (slots sorts : List ℕ) (table : List Bit) (columns : List (List Candidate)) (first : ℕ) (f : Formula) (d : Bit) → columns ≡ [] → IsLookup f.vars slots sorts table columns first → Finds (IsLookedUp slots sorts table columns first) f f (Ok (get_or table first d))
end_finds slots sorts table columns first f d c look =
    let s = no_columns f.vars slots sorts columns c look.each in
    let inside = end_room f.vars slots sorts table columns first c look in
    record {
      extends = extends_self f;
      answer = record {
        below = look.over first d inside;
        same = λ bits value met is. ap (bit_value bits) (get_or_default table first d (Known false) inside) ∙ sym (at_end slots sorts table columns first bits value is.elements s c is.stand is.is);
      };
    }

pub column_is : (columns : List (Vec Candidate Global)) (number : ℕ) (d : Vec Candidate Global) → number < length columns → (get_or columns number d).items ≡ get_or (columns_of columns) number []
column_is columns number d below = sym (get_or-map (λ (column : Vec Candidate Global). column.items) columns number d [] below)

-- what is to come, where the number isn't that of all columns
pub not_last : (count : ℕ) (slots sorts : List ℕ) (table : List Bit) (columns : List (Vec Candidate Global)) (first number : ℕ) → number ≤ length columns → number ≢ length columns → IsLookup count slots (drop number sorts) table (drop number (columns_of columns)) first → IsNext count slots sorts table (columns_of columns) first number
not_last count slots sorts table columns first number le ne look =
    let many = length-map columns (λ (column : Vec Candidate Global). column.items) in
    next count slots sorts table (columns_of columns) first number (omega arith) look
