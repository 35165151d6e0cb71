-- The walk along a tuple of variables to its place in the relation's table.
use Rattle.std.proofs.Common.{◌≡◌, ◌<◌, ◌≤◌, ◌+◌, ◌*◌, ◌^◌, ℕ, zero, suc, Bool, List, [], ◌∷◌, length, get_or, map, drop, Vec, sym, ap, ◌∙◌, subst, arith, lit<}
use Rattle.std.specs.declared.alloc.Global.{Global}
use Rattle.std.proofs.lemmas.List.{get_or-map, length-map, drop_all}
use Rattle.std.proofs.lemmas.Grind.{get_or_default_zero}
use Rattle.dai_model.specs.Clause.{Variable}
use Rattle.dai_logic.specs.declared.structure.Structure.{Structure}
use Rattle.dai_logic.specs.Tables.{tables_of, bits_of, tuple_place}
use Rattle.dai_logic.proofs.Tuples.{IsRead, IsReadMore, read_more, read_all, place_inside}
use Rattle.dai_template.specs.Atoms.{variable_of}
use Rattle.dai_template.specs.Meeting.{element_in, sorts_of, IsReadAt}

table_bound : (tables : Vec (Vec Bool Global) Global) (r : ℕ) → length (get_or (bits_of tables) r []) < 2 ^ 64
table_bound tables r = bound_in tables.items r
  where
    bound_in : (ts : List (Vec Bool Global)) (r : ℕ) → length (get_or (map (λ (t : Vec Bool Global). t.items) ts) r []) < 2 ^ 64
    bound_in [] r = lit< tt
    bound_in (t ∷ ts) zero = let long = t.ok.0 in let few = t.small in omega arith
    bound_in (t ∷ ts) (suc r) = bound_in ts r

pub record IsStep (s : Structure) (values : List ℕ) (vars : List (ℕ × ℕ)) (k total place : ℕ) : Type 0 where
  pub known : (get_or vars k (0, 0)).0 < length s.sizes.items
  pub stored : 4 * (get_or vars k (0, 0)).0 + (get_or vars k (0, 0)).1 < 32
  pub more : IsReadMore s.sizes.items (get_or vars k (0, 0)).0 (drop (k + 1) (sorts_of (map variable_of vars))) (element_in values (variable_of (get_or vars k (0, 0)))) (drop (k + 1) (map (element_in values) (map variable_of vars))) total place
  pub bound : total < 2 ^ 64

pub total_bound : (s : Structure) (values : List ℕ) (r : ℕ) (vars : List (ℕ × ℕ)) → IsReadAt s values r (map variable_of vars) → tuple_place s.sizes.items (sorts_of (map variable_of vars)) (map (element_in values) (map variable_of vars)) < length (get_or (tables_of s) r [])
total_bound s values r vars h =
    let inside = place_inside s.sizes.items (sorts_of (map variable_of vars)) (map (element_in values) (map variable_of vars)) h.tuple in
    let whole = h.whole in
    omega (arith, inside, whole)

pub step : (s : Structure) (values : List ℕ) (r : ℕ) (vars : List (ℕ × ℕ)) (k place : ℕ) → IsReadAt s values r (map variable_of vars) → k < length vars → IsRead s.sizes.items (drop k (sorts_of (map variable_of vars))) (drop k (map (element_in values) (map variable_of vars))) (tuple_place s.sizes.items (sorts_of (map variable_of vars)) (map (element_in values) (map variable_of vars))) place → IsStep s values vars k (tuple_place s.sizes.items (sorts_of (map variable_of vars)) (map (element_in values) (map variable_of vars))) place
step s values r vars k place h below read =
    let vs = map variable_of vars in
    let total = tuple_place s.sizes.items (sorts_of vs) (map (element_in values) vs) in
    let long = length-map vars variable_of in
    let inside : k < length vs = omega (arith, long, below) in
    let sorts_long = length-map vs (λ (v : Variable). v.sort) in
    let elements_long = length-map vs (element_in values) in
    let v : get_or vs k (variable_of (0, 0)) ≡ variable_of (get_or vars k (0, 0)) = get_or-map variable_of vars k (0, 0) (variable_of (0, 0)) below in
    let sort : get_or (sorts_of vs) k 0 ≡ (get_or vars k (0, 0)).0 = get_or-map (λ (w : Variable). w.sort) vs k (variable_of (0, 0)) 0 inside ∙ ap (λ (w : Variable). w.sort) v in
    let element : get_or (map (element_in values) vs) k 0 ≡ element_in values (variable_of (get_or vars k (0, 0))) = get_or-map (element_in values) vs k (variable_of (0, 0)) 0 inside ∙ ap (element_in values) v in
    let more = read_more s.sizes.items (sorts_of vs) (map (element_in values) vs) k total place (omega (arith, inside, sorts_long)) (omega (arith, inside, elements_long)) read in
    let there = subst (λ e. IsReadMore s.sizes.items (get_or vars k (0, 0)).0 (drop (k + 1) (sorts_of vs)) e (drop (k + 1) (map (element_in values) vs)) total place) element
    (subst (λ t. IsReadMore s.sizes.items t (drop (k + 1) (sorts_of vs)) (get_or (map (element_in values) vs) k 0) (drop (k + 1) (map (element_in values) vs)) total place) sort more) in
    let at = subst (λ (w : Variable). 4 * w.sort + w.number < length values) v (h.places k (variable_of (0, 0)) inside) in
    let many = h.long in
    let all = total_bound s values r vars h in
    let few = table_bound s.tables r in
    record {
      known = there.known;
      stored = omega (arith, at, many);
      more = there;
      bound = omega (arith, all, few);
    }

pub arrived : (s : Structure) (values : List ℕ) (vars : List (ℕ × ℕ)) (k total place : ℕ) → length vars ≤ k → IsRead s.sizes.items (drop k (sorts_of (map variable_of vars))) (drop k (map (element_in values) (map variable_of vars))) total place → place ≡ total
arrived s values vars k total place past read =
    let long = length-map vars variable_of in
    let sorts_long = length-map (map variable_of vars) (λ (v : Variable). v.sort) in
    read_all s.sizes.items (drop k (sorts_of (map variable_of vars))) (drop k (map (element_in values) (map variable_of vars))) total place (drop_all k (sorts_of (map variable_of vars)) (omega (arith, past, long, sorts_long))) read

pub record IsNext (s : Structure) (values : List ℕ) (vars : List (ℕ × ℕ)) (k total place size e : ℕ) : Type 0 where
  pub small : place * size + e < 2 ^ 64
  pub next : IsRead s.sizes.items (drop (k + 1) (sorts_of (map variable_of vars))) (drop (k + 1) (map (element_in values) (map variable_of vars))) total (place * size + e)

pub read_on : (s : Structure) (values : List ℕ) (vars : List (ℕ × ℕ)) (k total place i size n j e : ℕ) → IsStep s values vars k total place → i ≡ (get_or vars k (0, 0)).0 → size ≡ get_or s.sizes.items i size → n ≡ size → j ≡ 4 * (get_or vars k (0, 0)).0 + (get_or vars k (0, 0)).1 → e ≡ get_or values j 0 → IsNext s values vars k total place n e
read_on s values vars k total place i size n j e h same is wide at read =
    let v = get_or vars k (0, 0) in
    let known = h.known in
    let here : n ≡ get_or s.sizes.items v.0 0 = wide ∙ (is ∙ (get_or_default_zero s.sizes.items i size (omega (arith, same, known)) ∙ ap (λ t. get_or s.sizes.items t 0) same)) in
    let element : e ≡ element_in values (variable_of v) = read ∙ ap (λ t. get_or values t 0) at in
    let more : (place * get_or s.sizes.items v.0 0 + element_in values (variable_of v)) ≡ place * n + e = sym (ap (λ m. place * m + e) here ∙ ap (λ m. place * get_or s.sizes.items v.0 0 + m) element) in
    let bound = h.more.bound in
    let total_small = h.bound in
    record {
      small = omega (arith, more, bound, total_small);
      next = subst (IsRead s.sizes.items (drop (k + 1) (sorts_of (map variable_of vars))) (drop (k + 1) (map (element_in values) (map variable_of vars))) total) more h.more.next;
    }

-- the relation's table
pub table_is : (s : Structure) (r i : ℕ) (t : Vec Bool Global) → r < length (tables_of s) → i ≡ r → t ≡ get_or s.tables.items i t → t.items ≡ get_or (tables_of s) r []
table_is s r i t below same is =
    let long = length-map s.tables.items (λ (u : Vec Bool Global). u.items) in
    ap (λ (u : Vec Bool Global). u.items) (is ∙ ap (λ k. get_or s.tables.items k t) same) ∙ sym (get_or-map (λ (u : Vec Bool Global). u.items) s.tables.items r t [] (omega (arith, below, long)))
