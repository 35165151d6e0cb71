-- Structures with four elements of each type fit their protocol.
use Rattle.std.proofs.Common.{◌≡◌, ◌≤◌, ◌<◌, ◌*◌, ◌+◌, ◌^◌, ◌⊎◌, inl, inr, ℕ, suc, Bool, List, [], ◌∷◌, ◌++◌, length, get_or, take, map, Vec, sym, ◌∙◌, ap, subst, refl, arith}
use Rattle.std.specs.Prelude.{replicate}
use Rattle.std.specs.declared.alloc.Global.{Global}
use Rattle.std.specs.List.{All}
use Rattle.std.proofs.lemmas.Bool.{cases_lt}
use Rattle.std.proofs.lemmas.List.{get_or-map, get_or-replicate, get_or_past, length-map, length-replicate, map_push, take_more}
use Rattle.std.proofs.lemmas.List.Elements.{All-replicate}
use Rattle.std.proofs.lemmas.Option.{get_or_from_slice_get}
use Rattle.std.proofs.Math.Nat.{mul-le-mul, pow-suc, pow-le-pow_right}
use Rattle.dai_model.specs.Protocol.{Protocol, Relation}
use Rattle.dai_model.specs.Profile.{IsAccepted}
use Rattle.dai_model.proofs.Typed.{slice_get-length}
use Rattle.dai_logic.specs.Counts.{tuple_count}
use Rattle.dai_logic.specs.Protocols.{arguments_in}
use Rattle.dai_logic.specs.Strides.{AreNumbered}
use Rattle.dai_logic.specs.Tables.{AreFitting}

item_within : (n size k : ℕ) → (k < n) ⊎ (n ≤ k) → get_or (replicate n size) k 0 ≤ size
item_within n size k (inl below) = let e = get_or-replicate n k size 0 below in omega (arith, e)
item_within n size k (inr past) = let e = get_or_past (replicate n size) k 0 (let l = length-replicate n size in omega (arith, l, past)) in omega (arith, e)

-- no more tuples than with four elements of each type
count_within : (n : ℕ) (sorts : List ℕ) → tuple_count (replicate n 4) sorts ≤ 4 ^ length sorts
count_within n [] = omega arith
count_within n (sort ∷ sorts) =
    let rest : tuple_count (replicate n 4) sorts ≤ 4 ^ length sorts = count_within n sorts in
    let product : get_or (replicate n 4) sort 0 * tuple_count (replicate n 4) sorts ≤ 4 * 4 ^ length sorts = mul-le-mul (item_within n 4 sort (cases_lt sort n)) rest in
    let e : 4 ^ suc (length sorts) ≡ 4 ^ length sorts * 4 = pow-suc 4 (length sorts) in
    omega (arith, product, e)

no_relation : Relation
no_relation = record { name = []; arguments = [] }

pub numbered : (P : Protocol) (sizes : List ℕ) → IsAccepted P → sizes ≡ replicate (length P.sorts) 4 → All (AreNumbered sizes) (arguments_in P)
numbered P sizes accepted same k d below =
    let here : k < length P.relations = let e = length-map P.relations (λ (R : Relation). R.arguments) in omega (arith, e, below) in
    let R : Relation = get_or P.relations k no_relation in
    let e : get_or (arguments_in P) k d ≡ R.arguments = get_or-map (λ (Q : Relation). Q.arguments) P.relations k no_relation d here in
    let sorted = accepted.sorted.relations k no_relation here in
    let few : length R.arguments ≤ 5 = accepted.profile.few_arguments k no_relation here in
    let count = count_within (length P.sorts) R.arguments in
    let power : 4 ^ length R.arguments ≤ 4 ^ 5 = pow-le-pow_right {n = 4} (omega arith) {i = length R.arguments} {j = 5} few in
    let thousand : 4 ^ 5 ≡ 1024 = refl in
    let whole : AreNumbered (replicate (length P.sorts) 4) R.arguments = record {
      known = λ j x h. let inside = sorted j x h in let l = length-replicate {A = ℕ} (length P.sorts) 4 in omega (arith, inside, l);
      inhabited = All-replicate (λ size. 0 < size) (length P.sorts) 4 (omega arith);
      few = omega (arith, count, power, thousand);
    } in
    subst (λ xs. AreNumbered xs (get_or (arguments_in P) k d)) (sym same) (subst (AreNumbered (replicate (length P.sorts) 4)) (sym e) whole)

-- one table more
pub pushed_table : (sizes : List ℕ) (rows : List (List ℕ)) (i : ℕ) (old new : List (Vec Bool Global)) (table : Vec Bool Global) → new ≡ old ++ table ∷ [] → i < length rows → length table.items ≡ tuple_count sizes (get_or rows i []) → map (λ (t : List Bool). length t) (map (λ (t : Vec Bool Global). t.items) old) ≡ map (tuple_count sizes) (take i rows) → map (λ (t : List Bool). length t) (map (λ (t : Vec Bool Global). t.items) new) ≡ map (tuple_count sizes) (take (i + 1) rows)
pushed_table sizes rows i old new table e below h k =
    let items : Vec Bool Global → List Bool = λ t. t.items in
    let long : List Bool → ℕ = λ t. length t in
    ap (λ ts. map long (map items ts)) e
    ∙ (ap (map long) (map_push items old table)
    ∙ (map_push long (map items old) table.items
    ∙ (ap (λ ns. ns ++ length table.items ∷ []) k
    ∙ (ap (λ n. map (tuple_count sizes) (take i rows) ++ n ∷ []) h
    ∙ (sym (map_push (tuple_count sizes) (take i rows) (get_or rows i [])) ∙ ap (map (tuple_count sizes)) (sym (take_more rows i [] below)))))))

pub fits : (P : Protocol) (sizes : List ℕ) (tables : List (List Bool)) (values : List ℕ) → length sizes ≡ length P.sorts → All (λ size. 0 < size) sizes → map (λ (t : List Bool). length t) tables ≡ map (tuple_count sizes) (arguments_in P) → values ≡ [] → length P.individuals ≡ 0 → AreFitting P sizes tables values
fits P sizes tables values each some lengths none plain =
    let long : List Bool → ℕ = λ t. length t in
    let one : length tables ≡ length P.relations = sym (length-map tables long) ∙ (ap length lengths ∙ (length-map (arguments_in P) (tuple_count sizes) ∙ length-map P.relations (λ (R : Relation). R.arguments))) in
    record {
      one_size_each = each;
      inhabited = some;
      one_table_each = one;
      whole_tables = λ r R found.
          let below : r < length P.relations = slice_get-length P.relations r R found in
          sym (get_or-map long tables r [] 0 (omega (arith, one, below)))
          ∙ (ap (λ ns. get_or ns r 0) lengths
          ∙ (get_or-map (tuple_count sizes) (arguments_in P) r [] 0 (let e = length-map P.relations (λ (Q : Relation). Q.arguments) in omega (arith, e, below))
          ∙ ap (tuple_count sizes) (get_or-map (λ (Q : Relation). Q.arguments) P.relations r R [] below ∙ ap (λ (Q : Relation). Q.arguments) (get_or_from_slice_get P.relations r R R found))));
      one_value_each = ap length none ∙ sym plain;
      values_inside = λ i I found. absurd (let k = slice_get-length P.individuals i I found in omega (arith, k, plain));
    }

-- a structure of such sizes and tables
pub all_fit : (P : Protocol) (sizes counts : List ℕ) (rows : List (List ℕ)) (tables : List (List Bool)) (values : List ℕ) → sizes ≡ counts → counts ≡ replicate (length P.sorts) 4 → rows ≡ arguments_in P → map (λ (t : List Bool). length t) tables ≡ map (tuple_count counts) rows → values ≡ [] → length P.individuals ≡ 0 → AreFitting P sizes tables values
all_fit P sizes counts rows tables values same four row lengths none plain =
    let sizes_are : sizes ≡ replicate (length P.sorts) 4 = same ∙ four in
    fits P sizes tables values (ap length sizes_are ∙ length-replicate (length P.sorts) 4) (subst (All (λ size. 0 < size)) (sym sizes_are) (All-replicate (λ size. 0 < size) (length P.sorts) 4 (omega arith)))
    (lengths ∙ (ap (map (tuple_count counts)) row ∙ ap (λ xs. map (tuple_count xs) (arguments_in P)) (sym same))) none plain
