-- The clause of no variable and no literal.
use Rattle.std.proofs.Common.{◌≡◌, ◌++◌, ◌∷◌, ◌+◌, ℕ, zero, suc, true, List, [], length, map, subst, sym, ◌∙◌, ap, refl, arith, cond, nat_eq, filter, Result, Ok, Err, IfOk}
use Rattle.std.specs.Prelude.{sum, slice_index, slice_index_or}
use Rattle.std.specs.List.{Contains, flat_map}
use Rattle.std.proofs.lemmas.List.{length-map}
use Rattle.dai_model.specs.Protocol.{Protocol}
use Rattle.dai_model.specs.Placement.{of_sort}
use Rattle.dai_model.specs.Clause as Model
use Rattle.dai_model.specs.Clause.{numbers_below, atoms_of, literals_of}
use Rattle.dai_model.specs.Shapes.{counts_within, with_sum, shapes_within}
use Rattle.dai_model.specs.Template.{Bounds, IsTemplate}
use Rattle.dai_model.specs.Subsumption.{Subsumes}
use Rattle.dai_template.specs.declared.clause.Clause.{Clause}
use Rattle.dai_template.specs.declared.space.Space.{Space}
use Rattle.dai_template.specs.Atoms.{counts_of}
use Rattle.dai_template.specs.Spaces.{IsSpaceOf, IsClauseOf, clause_of}

abbrev zeros : List ℕ → List ℕ
zeros bounds = map (λ (b : ℕ). 0) bounds

sum_zeros : (bounds : List ℕ) → sum (zeros bounds) ≡ 0
sum_zeros [] = refl
sum_zeros (b ∷ bs) = let e = sum_zeros bs in e

zero_at : (bounds : List ℕ) (sort : ℕ) → slice_index (zeros bounds) sort ≡ 0
zero_at [] sort = refl
zero_at (b ∷ bs) zero = refl
zero_at (b ∷ bs) (suc sort) = zero_at bs sort

-- the first shape has no variable
abbrev BeginsWith : {X : Type 0} → X → List X → Type 0
BeginsWith {X} x xs = (rest : List X) × (xs ≡ x ∷ rest)

numbers_first : (n : ℕ) → BeginsWith 0 (numbers_below (suc n))
numbers_first zero = ([], refl)
numbers_first (suc n) = let h = numbers_first n in (h.0 ++ suc n ∷ [], ap (λ xs. xs ++ suc n ∷ []) h.1)

numbers_more : (n : ℕ) → BeginsWith 0 (numbers_below (n + 1))
numbers_more n = let e : suc n ≡ n + 1 = omega arith in subst (λ m. BeginsWith 0 (numbers_below m)) e (numbers_first n)

tuples_first : (bounds : List ℕ) → BeginsWith (zeros bounds) (counts_within bounds)
tuples_first [] = ([], refl)
tuples_first (b ∷ bs) =
    let h = tuples_first bs in
    let n = numbers_more b in
    let f = λ (k : ℕ). map (λ (t : List ℕ). k ∷ t) (counts_within bs) in
    (map (λ (t : List ℕ). 0 ∷ t) h.0 ++ flat_map f n.0, ap (flat_map f) n.1 ∙ ap (λ xs. map (λ (t : List ℕ). 0 ∷ t) xs ++ flat_map f n.0) h.1)

filtered : (test : List ℕ → _) (x : List ℕ) (xs : List (List ℕ)) → test x ≡ true → filter test (x ∷ xs) ≡ x ∷ filter test xs
filtered test x xs e = ap (λ b. cond b (x ∷ filter test xs) (filter test xs)) e

pub shape_first : (bounds : List ℕ) → BeginsWith (zeros bounds) (shapes_within bounds)
shape_first bounds =
    let n = numbers_more (sum bounds) in
    let t = tuples_first bounds in
    let test = λ (counts : List ℕ). nat_eq (sum counts) 0 in
    let none : with_sum (counts_within bounds) 0 ≡ zeros bounds ∷ filter test t.0 =
    ap (filter test) t.1 ∙ filtered test (zeros bounds) t.0 (ap (λ m. nat_eq m 0) (sum_zeros bounds)) in
    (filter test t.0 ++ flat_map (with_sum (counts_within bounds)) n.0, ap (flat_map (with_sum (counts_within bounds))) n.1 ∙ ap (λ xs. xs ++ flat_map (with_sum (counts_within bounds)) n.0) none)

-- no variable of any type
abbrev pub no_places : List ℕ → List (List ℕ)
no_places [] = []
no_places (n ∷ ns) = [] ∷ no_places ns

no_places-length : (counts : List ℕ) → length (no_places counts) ≡ length counts
no_places-length [] = refl
no_places-length (n ∷ ns) = ap suc (no_places-length ns)

none_at : (counts : List ℕ) (sort : ℕ) → of_sort (no_places counts) sort ≡ []
none_at [] sort = refl
none_at (n ∷ ns) zero = refl
none_at (n ∷ ns) (suc sort) = none_at ns sort

module _ (P : Protocol) (B : Bounds) (space : Space) (e : Clause) (is : IsSpaceOf P B space) (first : e.shape ≡ 0) (bare : e.lits.items ≡ []) where
  shapes : BeginsWith (zeros B.variables) (map counts_of space.shapes.items)
  shapes = let s = shape_first B.variables in (s.0, is.shapes ∙ s.1)

  counts_are : (clause_of space e).counts ≡ zeros B.variables
  counts_are = ap (λ k. slice_index_or (map counts_of space.shapes.items) k []) first ∙ ap (λ xs. slice_index_or xs 0 []) shapes.1

  many : length (clause_of space e).counts ≡ length P.sorts
  many = ap length counts_are ∙ length-map B.variables (λ (b : ℕ). 0) ∙ is.each

  no_literals : literals_of P (clause_of space e) ≡ []
  no_literals = ap (map (Model.literal_among (atoms_of P (clause_of space e).counts))) bare

  pub bottom_clause : IsClauseOf P B space e
  bottom_clause = record {
    space_of = is;
    shape = (let a = ap length shapes.1 in let b = length-map space.shapes.items counts_of in let f = first in omega (arith, a, b, f));
    template = record {
      one_count_each = many;
      few_variables = λ sort. let z = ap (λ xs. slice_index xs sort) counts_are ∙ zero_at B.variables sort in omega (arith, z);
      few_literals = (let l = ap length bare in omega (arith, l));
      of_the_shape = λ k d below. absurd (let l = ap length bare in omega (arith, l, below));
      each_atom_once = λ i j before below. absurd (let l = ap length bare in omega (arith, l, below));
    };
  }

  pub bottom_below : (d : Model.Clause) → IsTemplate P B d → Subsumes P (clause_of space e) d
  bottom_below d t = record {
    injection = no_places (clause_of space e).counts;
    places = record {
      one_list_each = no_places-length (clause_of space e).counts ∙ many;
      each = λ sort T found.
          let z : slice_index (clause_of space e).counts sort ≡ 0 = ap (λ xs. slice_index xs sort) counts_are ∙ zero_at B.variables sort in
          record {
            one_each = ap length (none_at (clause_of space e).counts sort) ∙ sym z;
            inside = λ i below. absurd (omega (arith, z, below));
            apart = λ i j before below. absurd (omega (arith, z, below));
          };
    };
    literals = λ l there. absurd (let own = subst (λ ls. Contains ls l) no_literals there in let less = own.1 in omega (arith, less));
  }

pub both_ok : {X Y : Type 0} (r : Result X Y) (A S Q : X → Type 0) → IfOk r A → IfOk r S → ((x : X) → A x → S x → Q x) → IfOk r Q
both_ok (Ok x) A S Q a s f = f x a s
both_ok (Err y) A S Q a s f = tt
