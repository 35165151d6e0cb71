-- The walk along a tuple of variables to its place in lexicographic order.
use Rattle.std.proofs.Common.{◌≡◌, ◌<◌, ◌≤◌, ◌+◌, ◌*◌, ◌^◌, ℕ, List, length, get_or, map, drop, sym, ap, ◌∙◌, subst, arith}
use Rattle.std.proofs.lemmas.List.{get_or-map, length-map, drop_all}
use Rattle.dai_model.specs.Clause.{Variable}
use Rattle.dai_logic.specs.Tables.{tuple_place}
use Rattle.dai_logic.proofs.Tuples.{IsRead, IsReadMore, read_more, read_all, place_inside}
use Rattle.dai_template.specs.Atoms.{variable_of}
use Rattle.dai_template.specs.Meeting.{element_in, sorts_of}
use Rattle.dai_template.specs.Renamings.{IsPlaceable}

pub record IsStep (sizes values : List ℕ) (vars : List (ℕ × ℕ)) (k total place : ℕ) : Type 0 where
  pub known : (get_or vars k (0, 0)).0 < length sizes
  pub stored : 4 * (get_or vars k (0, 0)).0 + (get_or vars k (0, 0)).1 < 32
  pub more : IsReadMore sizes (get_or vars k (0, 0)).0 (drop (k + 1) (sorts_of (map variable_of vars))) (element_in values (variable_of (get_or vars k (0, 0)))) (drop (k + 1) (map (element_in values) (map variable_of vars))) total place
  pub bound : total < 2 ^ 64

pub total_bound : (sizes values : List ℕ) (vars : List (ℕ × ℕ)) → IsPlaceable sizes values (map variable_of vars) → tuple_place sizes (sorts_of (map variable_of vars)) (map (element_in values) (map variable_of vars)) < 2 ^ 64
total_bound sizes values vars h =
    let inside = place_inside sizes (sorts_of (map variable_of vars)) (map (element_in values) (map variable_of vars)) h.tuple in
    let few = h.bound in
    omega (arith, inside, few)

pub step : (sizes values : List ℕ) (vars : List (ℕ × ℕ)) (k place : ℕ) → IsPlaceable sizes values (map variable_of vars) → k < length vars → IsRead sizes (drop k (sorts_of (map variable_of vars))) (drop k (map (element_in values) (map variable_of vars))) (tuple_place sizes (sorts_of (map variable_of vars)) (map (element_in values) (map variable_of vars))) place → IsStep sizes values vars k (tuple_place sizes (sorts_of (map variable_of vars)) (map (element_in values) (map variable_of vars))) place
step sizes values vars k place h below read =
    let vs = map variable_of vars in
    let total = tuple_place sizes (sorts_of vs) (map (element_in values) vs) in
    let long = length-map vars variable_of in
    let inside : k < length vs = omega (arith, long, below) in
    let sorts_long = length-map vs (λ (v : Variable). v.sort) in
    let elements_long = length-map vs (element_in values) in
    let v : get_or vs k (variable_of (0, 0)) ≡ variable_of (get_or vars k (0, 0)) = get_or-map variable_of vars k (0, 0) (variable_of (0, 0)) below in
    let sort : get_or (sorts_of vs) k 0 ≡ (get_or vars k (0, 0)).0 = get_or-map (λ (w : Variable). w.sort) vs k (variable_of (0, 0)) 0 inside ∙ ap (λ (w : Variable). w.sort) v in
    let element : get_or (map (element_in values) vs) k 0 ≡ element_in values (variable_of (get_or vars k (0, 0))) = get_or-map (element_in values) vs k (variable_of (0, 0)) 0 inside ∙ ap (element_in values) v in
    let more = read_more sizes (sorts_of vs) (map (element_in values) vs) k total place (omega (arith, inside, sorts_long)) (omega (arith, inside, elements_long)) read in
    let there = subst (λ e. IsReadMore sizes (get_or vars k (0, 0)).0 (drop (k + 1) (sorts_of vs)) e (drop (k + 1) (map (element_in values) vs)) total place) element
    (subst (λ t. IsReadMore sizes t (drop (k + 1) (sorts_of vs)) (get_or (map (element_in values) vs) k 0) (drop (k + 1) (map (element_in values) vs)) total place) sort more) in
    let at = subst (λ (w : Variable). 4 * w.sort + w.number < length values) v (h.places k (variable_of (0, 0)) inside) in
    let many = h.long in
    record {
      known = there.known;
      stored = omega (arith, at, many);
      more = there;
      bound = total_bound sizes values vars h;
    }

pub arrived : (sizes values : List ℕ) (vars : List (ℕ × ℕ)) (k total place : ℕ) → length vars ≤ k → IsRead sizes (drop k (sorts_of (map variable_of vars))) (drop k (map (element_in values) (map variable_of vars))) total place → place ≡ total
arrived sizes values vars k total place past read =
    let long = length-map vars variable_of in
    let sorts_long = length-map (map variable_of vars) (λ (v : Variable). v.sort) in
    read_all sizes (drop k (sorts_of (map variable_of vars))) (drop k (map (element_in values) (map variable_of vars))) total place (drop_all k (sorts_of (map variable_of vars)) (omega (arith, past, long, sorts_long))) read

pub record IsNext (sizes values : List ℕ) (vars : List (ℕ × ℕ)) (k total place size e : ℕ) : Type 0 where
  pub small : place * size + e < 2 ^ 64
  pub next : IsRead sizes (drop (k + 1) (sorts_of (map variable_of vars))) (drop (k + 1) (map (element_in values) (map variable_of vars))) total (place * size + e)

pub read_on : (sizes values : List ℕ) (vars : List (ℕ × ℕ)) (k total place i n j e : ℕ) → IsStep sizes values vars k total place → i ≡ (get_or vars k (0, 0)).0 → n ≡ get_or sizes i 0 → j ≡ 4 * (get_or vars k (0, 0)).0 + (get_or vars k (0, 0)).1 → e ≡ get_or values j 0 → IsNext sizes values vars k total place n e
read_on sizes values vars k total place i n j e h same wide at read =
    let v = get_or vars k (0, 0) in
    let here : n ≡ get_or sizes v.0 0 = wide ∙ ap (λ t. get_or sizes t 0) same in
    let element : e ≡ element_in values (variable_of v) = read ∙ ap (λ t. get_or values t 0) at in
    let more : (place * get_or sizes v.0 0 + element_in values (variable_of v)) ≡ place * n + e = sym (ap (λ m. place * m + e) here ∙ ap (λ m. place * get_or sizes v.0 0 + m) element) in
    let bound = h.more.bound in
    let total_small = h.bound in
    record {
      small = omega (arith, more, bound, total_small);
      next = subst (IsRead sizes (drop (k + 1) (sorts_of (map variable_of vars))) (drop (k + 1) (map (element_in values) (map variable_of vars))) total) more h.more.next;
    }
