-- The shapes within bounds on the variables of each type, in print order, and how many templates there are.
use Rattle.std.specs.Prelude.{ℕ, zero, suc, ◌+◌, ◌*◌, ◌^◌, List, [], ◌∷◌, length, map, filter, sum, sum_by, nat_eq}
use Rattle.std.specs.List.{flat_map}
use Rattle.std.specs.Ordering.{nat_cmp, ordering_then}
use Rattle.std.specs.Cmp.Lexicographic.{slice_cmp}
use Rattle.std.specs.declared.cmp.Ordering.{Ordering}
use Rattle.dai_model.specs.Protocol.{Protocol}
use Rattle.dai_model.specs.Clause.{numbers_below, atoms_of}
use Rattle.dai_model.specs.Template.{Bounds}

-- one number below each limit, in lexicographic order
abbrev pub tuples_below : List ℕ → List (List ℕ)
tuples_below [] = [] ∷ []
tuples_below (limit ∷ limits) = flat_map (λ n. map (λ (tuple : List ℕ). n ∷ tuple) (tuples_below limits)) (numbers_below limit)

-- for each type a number of variables from 0 to its bound, in lexicographic order
abbrev pub counts_within : List ℕ → List (List ℕ)
counts_within bounds = tuples_below (map (λ bound. bound + 1) bounds)

abbrev pub with_sum : List (List ℕ) → ℕ → List (List ℕ)
with_sum lists n = filter (λ (counts : List ℕ). nat_eq (sum counts) n) lists

-- by number of variables, and then by counts in lexicographic order
abbrev pub shapes_within : List ℕ → List (List ℕ)
shapes_within bounds = flat_map (with_sum (counts_within bounds)) (numbers_below (sum bounds + 1))

-- how many sets of k members so many things have (Pascal)
abbrev pub choices_of : ℕ → ℕ → ℕ
choices_of n zero = 1
choices_of zero (suc k) = 0
choices_of (suc n) (suc k) = choices_of n k + choices_of n (suc k)

-- the clauses with at most so many literals over so many atoms: k atoms, each with two signs
abbrev pub clause_count : ℕ → ℕ → ℕ
clause_count literals atoms = sum_by (λ k. choices_of atoms k * 2 ^ k) (numbers_below (literals + 1))

-- the clauses of all shapes
abbrev pub template_count : Protocol → Bounds → ℕ
template_count P B = sum_by (λ counts. clause_count B.literals (length (atoms_of P counts))) (counts_within B.variables)

-- the order of shapes: number of variables, then counts in lexicographic order
abbrev pub compare_shapes : List ℕ → List ℕ → Ordering
compare_shapes c d = ordering_then (nat_cmp (sum c) (sum d)) (slice_cmp nat_cmp c d)
