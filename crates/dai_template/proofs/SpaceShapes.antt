-- The shapes of a space: they lie within the bounds, and are few.
use Rattle.std.proofs.Common.{◌≡◌, ◌<◌, ◌≤◌, ◌+◌, ◌*◌, ◌^◌, ℕ, zero, suc, Bool, true, false, cond, List, [], ◌∷◌, ◌++◌, length, get_or, map, sum, sym, ap, ◌∙◌, subst, arith}
use Rattle.std.specs.Prelude.{filter, slice_index, nat_eq, sum_by}
use Rattle.std.specs.List.{flat_map}
use Rattle.std.proofs.lemmas.Bool.{cases_lt}
use Rattle.std.proofs.lemmas.List.{length-map, length-append, append-nil, get_or-map}
use Rattle.std.proofs.lemmas.List.Concat.{flat_map-append}
use Rattle.std.proofs.lemmas.List.Sums.{sum_by-cons}
use Rattle.std.proofs.Math.Nat.{mul-le-mul}
use Rattle.dai_model.specs.Protocol.{Protocol, Relation, Individual}
use Rattle.dai_model.specs.Limits.{product, tuples_at}
use Rattle.dai_model.proofs.Tuples.{atoms_of-length}
use Rattle.dai_model.specs.Clause.{numbers_below, atoms_of}
use Rattle.dai_model.specs.Template.{Bounds, IsTemplate}
use Rattle.dai_model.specs.Shapes.{counts_within, with_sum, shapes_within}
use Rattle.dai_model.proofs.Below.{Each}
use Rattle.dai_template.specs.declared.clause.Clause.{Clause as Kept}
use Rattle.dai_template.specs.declared.clause.Shape.{Shape}
use Rattle.dai_template.specs.declared.space.Space.{Space}
use Rattle.dai_template.specs.Atoms.{counts_of, atom_of, IsShape}
use Rattle.dai_template.specs.Spaces.{IsSpaceOf, clause_of}
use Rattle.dai_template.proofs.Ways.{WithinEach, ways_within, within_length, within_at, few_ways, fewer_variables}
use Rattle.dai_template.proofs.Written.{small_sum}
use Rattle.dai_template.proofs.Clauses.{small}

each_append : {X : Type 0} (P : X → Type 0) (xs ys : List X) → Each P xs → Each P ys → Each P (xs ++ ys)
each_append P [] ys h k = k
each_append P (x ∷ xs) ys h k = (h.0, each_append P xs ys h.1 k)

each_filter : {X : Type 0} (P : X → Type 0) (p : X → Bool) (xs : List X) → Each P xs → Each P (filter p xs)
each_filter P p [] h = tt
each_filter P p (x ∷ xs) h = kept (p x) h.0 (each_filter P p xs h.1)
  where
    kept : (b : Bool) → P x → Each P (filter p xs) → Each P (cond b (x ∷ filter p xs) (filter p xs))
    kept true here rest = (here, rest)
    kept false here rest = rest

each_part : {X Y : Type 0} (P : Y → Type 0) (f : X → List Y) (xs : List X) → ((x : X) → Each P (f x)) → Each P (flat_map f xs)
each_part P f [] h = tt
each_part P f (x ∷ xs) h = each_append P (f x) (flat_map f xs) (h x) (each_part P f xs h)

each_at : {X : Type 0} (P : X → Type 0) (xs : List X) (k : ℕ) (d : X) → k < length xs → Each P xs → P (get_or xs k d)
each_at P [] k d h e = absurd (omega arith)
each_at P (x ∷ xs) zero d h e = e.0
each_at P (x ∷ xs) (suc k) d h e = each_at P xs k d (omega arith) e.1

shapes_inside : (bounds : List ℕ) → Each (λ counts. WithinEach counts bounds) (shapes_within bounds)
shapes_inside bounds = each_part (λ counts. WithinEach counts bounds) (with_sum (counts_within bounds)) (numbers_below (sum bounds + 1)) (λ n. each_filter (λ counts. WithinEach counts bounds) (λ (counts : List ℕ). nat_eq (sum counts) n) (counts_within bounds) (ways_within bounds))

pub shape_inside : (P : Protocol) (B : Bounds) (space : Space) (k : ℕ) → IsSpaceOf P B space → k < length space.shapes.items → WithinEach (get_or (map counts_of space.shapes.items) k []) B.variables
shape_inside P B space k h below =
    let long = length-map space.shapes.items counts_of in
    let same = ap length h.shapes in
    subst (λ (ls : List (List ℕ)). WithinEach (get_or ls k []) B.variables) (sym h.shapes) (each_at (λ counts. WithinEach counts B.variables) (shapes_within B.variables) k [] (omega (arith, long, same, below)) (shapes_inside B.variables))

pub empty_template : (P : Protocol) (B : Bounds) (space : Space) (empty : Kept) → IsSpaceOf P B space → empty.shape < length space.shapes.items → empty.lits.items ≡ [] → IsTemplate P B (clause_of space empty)
empty_template P B space empty h below none =
    let inside = shape_inside P B space empty.shape h below in
    let long = ap length none in
    record {
      one_count_each = within_length (clause_of space empty).counts B.variables inside ∙ h.each;
      few_variables = λ sort. within_at (clause_of space empty).counts B.variables sort inside;
      few_literals = omega (arith, long);
      of_the_shape = λ k d less. absurd (omega (arith, less, long));
      each_atom_once = λ i j before less. absurd (omega (arith, less, long));
    }

-- how many atoms a shape has
pub shape_atoms : (P : Protocol) (B : Bounds) (space : Space) (k : ℕ) (shape : Shape) → IsSpaceOf P B space → k < length space.shapes.items → shape ≡ get_or space.shapes.items k shape → (length shape.atoms.items ≡ length (atoms_of P (get_or (map counts_of space.shapes.items) k []))) × (length shape.atoms.items ≤ 64)
shape_atoms P B space k shape h below is =
    let own : IsShape P shape = subst (IsShape P) (sym is) (h.atoms k shape below) in
    let counts : shape.counts.items ≡ get_or (map counts_of space.shapes.items) k [] = ap counts_of is ∙ sym (get_or-map counts_of space.shapes.items k shape [] below) in
    let long = length-map shape.atoms.items atom_of in
    let same = ap length (own.atoms ∙ ap (atoms_of P) counts) in
    let inside = shape_inside P B space k h below in
    let few = fewer_variables P (get_or (map counts_of space.shapes.items) k []) B.variables (λ sort. within_at (get_or (map counts_of space.shapes.items) k []) B.variables sort inside) in
    let most = h.few_atoms in
    (omega (arith, long, same), omega (arith, long, same, few, most))

filter_length : {X : Type 0} (p : X → Bool) (xs : List X) → length (filter p xs) ≤ length xs
filter_length p [] = omega arith
filter_length p (x ∷ xs) = kept (p x) (filter_length p xs)
  where
    kept : (b : Bool) → length (filter p xs) ≤ length xs → length (cond b (x ∷ filter p xs) (filter p xs)) ≤ suc (length xs)
    kept true h = omega (arith, h)
    kept false h = omega (arith, h)

rows_most : {Y : Type 0} (f : ℕ → List Y) (n m : ℕ) → ((i : ℕ) → length (f i) ≤ m) → length (flat_map f (numbers_below n)) ≤ n * m
rows_most f zero m h = omega arith
rows_most f (suc n) m h =
    let e = ap length (flat_map-append f (numbers_below n) (n ∷ []) ∙ ap (λ ys. flat_map f (numbers_below n) ++ ys) (append-nil (f n))) ∙ length-append (flat_map f (numbers_below n)) (f n) in
    let k = rows_most f n m h in
    let here = h n in
    let more : suc n * m ≡ n * m + m = omega arith in
    omega (arith, e, k, here, more)

pub few_shapes : (P : Protocol) (B : Bounds) (space : Space) → IsSpaceOf P B space → length space.shapes.items < 2 ^ 32
few_shapes P B space h =
    let long = length-map space.shapes.items counts_of in
    let same = ap length h.shapes in
    let types : length B.variables ≤ 8 = let a = h.each in let b = h.few_types in omega (arith, a, b) in
    let ways = few_ways B.variables h.few_variables types in
    let rows = rows_most (with_sum (counts_within B.variables)) (sum B.variables + 1) (length (counts_within B.variables)) (λ n. filter_length (λ (counts : List ℕ). nat_eq (sum counts) n) (counts_within B.variables)) in
    let total = small_sum B.variables (λ sort. small B.variables sort h.few_variables (cases_lt sort (length B.variables))) in
    let most : (sum B.variables + 1) * length (counts_within B.variables) ≤ 33 * 2 ^ 20 = mul-le-mul (let s : sum B.variables + 1 ≤ 33 = omega (arith, total, types) in s) ways in
    omega (arith, long, same, rows, most)

sum_most : {X : Type 0} (f : X → ℕ) (most : ℕ) (xs : List X) → ((x : X) → f x ≤ most) → sum_by f xs ≤ length xs * most
sum_most f most [] h = omega arith
sum_most f most (x ∷ xs) h =
    let split = sum_by-cons f x xs in
    let rest = sum_most f most xs h in
    let here = h x in
    let more : suc (length xs) * most ≡ length xs * most + most = omega arith in
    omega (arith, split, rest, here, more)

one_tuple : (R : Relation) → tuples_at [] R ≤ 1
one_tuple R = at_most R.arguments
  where
    at_most : (sorts : List ℕ) → product (map (slice_index []) sorts) ≤ 1
    at_most [] = omega arith
    at_most (sort ∷ sorts) = omega arith

-- without variables there are no more atoms than relations
pub few_flags : (P : Protocol) → length P.relations ≤ 64 → length (atoms_of P []) ≤ 64
few_flags P few =
    let all = atoms_of-length P [] in
    let tuples = sum_most (tuples_at []) 1 P.relations one_tuple in
    let equations = sum_most (λ (I : Individual). slice_index [] I.sort) 0 P.individuals (λ I. omega arith) in
    omega (arith, all, tuples, equations, few)
