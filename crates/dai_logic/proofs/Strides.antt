-- The numbers of a layout, one after another.
use Rattle.std.proofs.Common.{◌≡◌, ℕ, zero, suc, true, ◌+◌, ◌*◌, ◌/◌, ◌%◌, ◌<◌, ◌≤◌, ◌++◌, List, [], ◌∷◌, length, get_or, set, take, drop, map, Vec, sym, ap, ◌∙◌, refl, subst, arith, append_assoc, ◌⊎◌, inl, inr}
use Rattle.std.specs.List.{All}
use Rattle.std.specs.Prelude.{nat_lt}
use Rattle.std.proofs.Math.Nat.{mul_assoc, mul_comm, le_refl, le-mul_of_pos_right}
use Rattle.std.proofs.lemmas.Bool.{cases_lt}
use Rattle.std.specs.declared.alloc.Global.{Global}
use Rattle.std.proofs.lemmas.List.{drop_more, drop_all, length-drop, get_or-drop, get_or-map, length-map, take_more, take_more_set, map-append}
use Rattle.std.proofs.lemmas.Nat.{div-mul-add, div-add-mod', mul-le}
use Rattle.dai_model.specs.Structure.{is_tuple}
use Rattle.dai_model.proofs.Typed.{and_right}
use Rattle.dai_logic.specs.Counts.{tuple_count, tuple_place, tuple_at}
use Rattle.dai_logic.specs.Strides.{counts_of, rows_of, AreNumbered, AreStrides}
use Rattle.dai_logic.proofs.Writing.{some_tuples}

-- a type, its size and what stands behind it
pub record IsNumberedAt (sizes sorts : List ℕ) (k : ℕ) : Type 0 where
  pub known : get_or sorts k 0 < length sizes
  pub some : 0 < get_or sizes (get_or sorts k 0) 0
  pub behind : 0 < tuple_count sizes (drop (k + 1) sorts)
  pub next : tuple_count sizes (drop k sorts) ≡ get_or sizes (get_or sorts k 0) 0 * tuple_count sizes (drop (k + 1) sorts)

pub known_rest : (sizes sorts : List ℕ) (k : ℕ) → All (λ sort. sort < length sizes) sorts → All (λ sort. sort < length sizes) (drop k sorts)
known_rest sizes sorts k known j d below =
    let long = length-drop k sorts in
    subst (λ x. x < length sizes) (sym (get_or-drop k sorts j d)) (known (k + j) d (omega arith))

pub numbered_at : (sizes sorts : List ℕ) (k : ℕ) → AreNumbered sizes sorts → k < length sorts → IsNumberedAt sizes sorts k
numbered_at sizes sorts k h below = record {
  known = h.known k 0 below;
  some = h.inhabited (get_or sorts k 0) 0 (h.known k 0 below);
  behind = some_tuples sizes (drop (k + 1) sorts) h.inhabited (known_rest sizes sorts (k + 1) h.known);
  next = ap (tuple_count sizes) (drop_more sorts k 0 below);
}

-- the product so far
pub product_more : (count size behind total : ℕ) → count * (size * behind) ≡ total → (count * size) * behind ≡ total
product_more count size behind total h = mul_assoc count size behind ∙ h

pub product_bound : (count behind total : ℕ) → 0 < behind → count * behind ≡ total → count ≤ total
product_bound count behind total some h =
    let grows = le-mul_of_pos_right {m = behind} count some in
    omega arith

pub product_all : (sizes sorts : List ℕ) (k count total : ℕ) → length sorts ≤ k → count * tuple_count sizes (drop k sorts) ≡ total → count ≡ total
product_all sizes sorts k count total past h =
    let one : tuple_count sizes (drop k sorts) ≡ 1 = ap (tuple_count sizes) (drop_all k sorts past) in
    let now : count * 1 ≡ total = ap (λ n. count * n) (sym one) ∙ h in
    omega arith

-- one size divided out
pub divided : (size behind count : ℕ) → 0 < size → count ≡ size * behind → count / size ≡ behind
divided size behind count some h =
    ap (λ n. n / size) (h ∙ (mul_comm size behind ∙ (let e : behind * size ≡ behind * size + 0 = omega arith in e))) ∙ div-mul-add behind size 0 some

-- the numbers so far, with the rest behind them
pub counts_more : (sizes sorts so_far all : List ℕ) (k count : ℕ) → k < length sorts → count ≡ tuple_count sizes (drop k sorts) → so_far ++ counts_of sizes (drop k sorts) ≡ all → (so_far ++ count ∷ []) ++ counts_of sizes (drop (k + 1) sorts) ≡ all
counts_more sizes sorts so_far all k count below is h =
    let front = drop_more sorts k 0 below in
    let opened : counts_of sizes (drop k sorts) ≡ count ∷ counts_of sizes (drop (k + 1) sorts) =
    ap (counts_of sizes) front ∙ ap (λ n. n ∷ counts_of sizes (drop (k + 1) sorts)) (sym (is ∙ ap (tuple_count sizes) front)) in
    append_assoc so_far (count ∷ []) (counts_of sizes (drop (k + 1) sorts)) ∙ (ap (λ xs. so_far ++ xs) (sym opened) ∙ h)

pub counts_all : (sizes sorts so_far all : List ℕ) (k count : ℕ) → length sorts ≤ k → count ≡ tuple_count sizes (drop k sorts) → so_far ++ counts_of sizes (drop k sorts) ≡ all → so_far ++ count ∷ [] ≡ all
counts_all sizes sorts so_far all k count past is h =
    let none = drop_all k sorts past in
    ap (λ n. so_far ++ n ∷ []) (is ∙ ap (tuple_count sizes) none) ∙ (ap (λ xs. so_far ++ counts_of sizes xs) (sym none) ∙ h)

-- the number behind an argument
pub count_at : (sizes sorts : List ℕ) (k : ℕ) → k < length sorts → (get_or (counts_of sizes sorts) (k + 1) 0 ≡ tuple_count sizes (drop (k + 1) sorts)) × (k + 1 < length (counts_of sizes sorts))
count_at sizes sorts k below = at (k + 1) sorts (omega arith)
  where
    at : (j : ℕ) (xs : List ℕ) → j ≤ length xs → (get_or (counts_of sizes xs) j 0 ≡ tuple_count sizes (drop j xs)) × (j < length (counts_of sizes xs))
    at zero [] h = (refl, omega arith)
    at zero (x ∷ xs) h = (refl, omega arith)
    at (suc j) [] h = absurd (omega arith)
    at (suc j) (x ∷ xs) h = let k = at j xs (omega arith) in (k.0, omega (arith, k.1))

pub count_whole : (sizes sorts : List ℕ) → (get_or (counts_of sizes sorts) 0 0 ≡ tuple_count sizes sorts) × (0 < length (counts_of sizes sorts))
count_whole sizes [] = (refl, omega arith)
count_whole sizes (sort ∷ sorts) = (refl, omega arith)

-- the step of a sum along a tuple
pub record IsAdded (sizes sorts es : List ℕ) (k place total : ℕ) : Type 0 where
  pub known : k + 1 < length (counts_of sizes sorts)
  pub product : get_or es k 0 * get_or (counts_of sizes sorts) (k + 1) 0 ≤ total
  pub sum : place + get_or es k 0 * get_or (counts_of sizes sorts) (k + 1) 0 ≤ total
  pub tuple : is_tuple sizes (drop (k + 1) sorts) (drop (k + 1) es) ≡ true
  pub next : place + get_or es k 0 * get_or (counts_of sizes sorts) (k + 1) 0 + tuple_place sizes (drop (k + 1) sorts) (drop (k + 1) es) ≡ total

pub added : (sizes sorts es : List ℕ) (k place total : ℕ) → k < length sorts → k < length es → is_tuple sizes (drop k sorts) (drop k es) ≡ true → place + tuple_place sizes (drop k sorts) (drop k es) ≡ total → IsAdded sizes sorts es k place total
added sizes sorts es k place total below inside tuple number =
    let front = drop_more sorts k 0 below in
    let front_es = drop_more es k 0 inside in
    let here = count_at sizes sorts k below in
    let opened : is_tuple sizes (get_or sorts k 0 ∷ drop (k + 1) sorts) (get_or es k 0 ∷ drop (k + 1) es) ≡ true = subst (λ ys. is_tuple sizes (get_or sorts k 0 ∷ drop (k + 1) sorts) ys ≡ true) front_es (subst (λ xs. is_tuple sizes xs (drop k es) ≡ true) front tuple) in
    let value : place + tuple_place sizes (get_or sorts k 0 ∷ drop (k + 1) sorts) (get_or es k 0 ∷ drop (k + 1) es) ≡ total = subst (λ ys. place + tuple_place sizes (get_or sorts k 0 ∷ drop (k + 1) sorts) ys ≡ total) front_es (subst (λ xs. place + tuple_place sizes xs (drop k es) ≡ total) front number) in
    let product : get_or es k 0 * get_or (counts_of sizes sorts) (k + 1) 0 ≡ get_or es k 0 * tuple_count sizes (drop (k + 1) sorts) = ap (λ n. get_or es k 0 * n) here.0 in
    record {
      known = here.1;
      product = omega arith;
      sum = omega arith;
      tuple = and_right (nat_lt (get_or es k 0) (get_or sizes (get_or sorts k 0) 0)) _ opened;
      next = omega arith;
    }

pub added_all : (sizes sorts es : List ℕ) (k place total : ℕ) → length es ≤ k → place + tuple_place sizes (drop k sorts) (drop k es) ≡ total → place ≡ total
added_all sizes sorts es k place total past h = at_end (drop k sorts) (drop k es) (drop_all k es past) h
  where
    at_end : (xs ys : List ℕ) → ys ≡ [] → place + tuple_place sizes xs ys ≡ total → place ≡ total
    at_end [] ys e h = let k : place + 0 ≡ total = h in omega arith
    at_end (x ∷ xs) [] e h = let k : place + 0 ≡ total = h in omega arith
    at_end (x ∷ xs) (y ∷ ys) e h = absurd (let k : ⊥ = cc in k)

pub rows_read : (rows : Vec (Vec ℕ Global) Global) (r : ℕ) (t : Vec ℕ Global) → r < length (rows_of rows) → t ≡ get_or rows.items r t → t.items ≡ get_or (rows_of rows) r []
rows_read rows r t below is =
    let long = length-map rows.items (λ (row : Vec ℕ Global). row.items) in
    ap (λ (row : Vec ℕ Global). row.items) is ∙ sym (get_or-map (λ (row : Vec ℕ Global). row.items) rows.items r t [] (omega arith))

pub row_inside : (sizes : List ℕ) (sorts counts : List (List ℕ)) (r : ℕ) → AreStrides sizes sorts counts → r < length sorts → r < length counts
row_inside sizes sorts counts r h below =
    let same = ap length h.exact in
    let long = length-map sorts (counts_of sizes) in
    omega arith

pub row_exact : (sizes : List ℕ) (sorts counts : List (List ℕ)) (r : ℕ) → AreStrides sizes sorts counts → r < length sorts → get_or counts r [] ≡ counts_of sizes (get_or sorts r [])
row_exact sizes sorts counts r h below = ap (λ (xs : List (List ℕ)). get_or xs r []) h.exact ∙ get_or-map (counts_of sizes) sorts r [] [] below

-- the step of a walk back from a place
pub record IsReadOff (sizes sorts written all : List ℕ) (k rest behind : ℕ) : Type 0 where
  pub element : rest / behind < get_or sizes (get_or sorts k 0) 0
  pub some : 0 < behind
  pub inside : rest % behind < tuple_count sizes (drop (k + 1) sorts)
  pub next : take (k + 1) (set written k (rest / behind)) ++ tuple_at sizes (drop (k + 1) sorts) (rest % behind) ≡ all

quotient_inside : (n c m : ℕ) → 0 < c → n < m * c → n / c < m
quotient_inside n c m some below = by_cases (cases_lt (n / c) m)
  where
    by_cases : (n / c < m) ⊎ (m ≤ n / c) → n / c < m
    by_cases (inl less) = less
    by_cases (inr more) = absurd (omega (arith, mul-le m c (n / c) c more (le_refl c), div-add-mod' n c))

pub read_off : (sizes sorts written all : List ℕ) (k rest behind : ℕ) → AreNumbered sizes sorts → k < length sorts → k < length written → behind ≡ tuple_count sizes (drop (k + 1) sorts) → rest < tuple_count sizes (drop k sorts) → take k written ++ tuple_at sizes (drop k sorts) rest ≡ all → IsReadOff sizes sorts written all k rest behind
read_off sizes sorts written all k rest behind numbered below room is inside so_far =
    let at = numbered_at sizes sorts k numbered below in
    let front = drop_more sorts k 0 below in
    let c = tuple_count sizes (drop (k + 1) sorts) in
    let some : 0 < behind = subst (λ n. 0 < n) (sym is) at.behind in
    let size = get_or sizes (get_or sorts k 0) 0 in
    let within : rest < size * behind = subst (λ n. rest < n) (at.next ∙ ap (λ n. size * n) (sym is)) inside in
    let left : rest % behind < behind = omega arith in
    let opened : tuple_at sizes (drop k sorts) rest ≡ rest / behind ∷ tuple_at sizes (drop (k + 1) sorts) (rest % behind) =
    ap (λ xs. tuple_at sizes xs rest) front ∙ ap (λ n. rest / n ∷ tuple_at sizes (drop (k + 1) sorts) (rest % n)) (sym is) in
    record {
      element = quotient_inside rest behind size some within;
      some = some;
      inside = subst (λ n. rest % behind < n) is left;
      next = ap (λ xs. xs ++ tuple_at sizes (drop (k + 1) sorts) (rest % behind)) (take_more_set written k (rest / behind) room)
          ∙ (append_assoc (take k written) (rest / behind ∷ []) (tuple_at sizes (drop (k + 1) sorts) (rest % behind))
          ∙ (ap (λ xs. take k written ++ xs) (sym opened) ∙ so_far));
    }

-- one row more
pub pushed_more : {X : Type 0} (f : X → List ℕ) (xs zs : List X) (all : List (List ℕ)) (x : X) (n : ℕ) → map f xs ≡ take n all → n < length all → zs ≡ xs ++ (x ∷ []) → f x ≡ get_or all n [] → map f zs ≡ take (n + 1) all
pushed_more f xs zs all x n so_far below more is =
    ap (map f) more ∙ (map-append f xs (x ∷ []) ∙ (ap (λ rows. rows ++ (f x ∷ [])) so_far ∙ (ap (λ row. take n all ++ (row ∷ [])) is ∙ sym (take_more all n [] below))))
