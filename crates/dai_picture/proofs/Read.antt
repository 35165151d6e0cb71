-- What reading a row of rows gives.
use Rattle.std.proofs.Common.{◌≡◌, ◌<◌, ℕ, List, [], Vec, vec_len, length, map, get_or, sym, ap, ◌∙◌, arith}
use Rattle.std.specs.declared.alloc.Global.{Global}
use Rattle.std.proofs.lemmas.List.{get_or-map, length-map}
use Rattle.dai_circuit.specs.declared.bit.Bit.{Bit}
use Rattle.dai_circuit.specs.Circuits.{AreBitsBelow}
use Rattle.dai_picture.specs.Pictures.{rows_of, row_at}
use Rattle.dai_picture.specs.Rules.{AreOverUsed}

pub row_inside : (rows : Vec (Vec Bit Global) Global) (k : ℕ) → k < vec_len rows → k < length (rows_of rows)
row_inside rows k below =
    let long = length-map rows.items (λ (row : Vec Bit Global). row.items) in
    let same = rows.ok.0 in
    omega arith

pub read_row : (rows : Vec (Vec Bit Global) Global) (k : ℕ) (row : Vec Bit Global) → k < vec_len rows → row ≡ get_or rows.items k row → row.items ≡ row_at (rows_of rows) k
read_row rows k row below is =
    let long = length-map rows.items (λ (row : Vec Bit Global). row.items) in
    let same = rows.ok.0 in
    ap (λ (x : Vec Bit Global). x.items) is ∙ sym (get_or-map (λ (row : Vec Bit Global). row.items) rows.items k row [] (omega arith))

-- a row over the slots of its type
pub record IsOver (count : ℕ) (used : List (List Bit)) (sorts : List ℕ) (rows : List (List Bit)) (k : ℕ) : Type 0 where
  pub known : get_or sorts k 0 < length used
  pub used_below : AreBitsBelow count (row_at used (get_or sorts k 0))
  pub row_below : AreBitsBelow count (row_at rows k)
  pub as_long : length (row_at rows k) ≡ length (row_at used (get_or sorts k 0))

pub over_at : (count : ℕ) (used : List (List Bit)) (sorts : List ℕ) (rows : List (List Bit)) (k : ℕ) → AreOverUsed count used sorts rows → k < length rows → IsOver count used sorts rows k
over_at count used sorts rows k h below =
    let f : List Bit → ℕ = λ (row : List Bit). length row in
    let long = length-map rows f in
    let wide = length-map sorts (λ i. get_or (map f used) i 0) in
    let same = ap length h.rows.long in
    let inside : k < length sorts = omega arith in
    let sort : get_or sorts k 0 < length used = h.known k 0 inside in
    record {
      known = sort;
      used_below = h.used (get_or sorts k 0) [] sort;
      row_below = h.rows.below k [] below;
      as_long = sym (get_or-map f rows k [] 0 below) ∙ (ap (λ xs. get_or xs k 0) h.rows.long ∙ (get_or-map (λ i. get_or (map f used) i 0) sorts k 0 0 inside ∙ get_or-map f used (get_or sorts k 0) [] 0 sort));
    }

pub number_inside : (rows : Vec (Vec Bit Global) Global) (k : ℕ) → k < length (rows_of rows) → k < vec_len rows
number_inside rows k below =
    let long = length-map rows.items (λ (row : Vec Bit Global). row.items) in
    let same = rows.ok.0 in
    omega arith
