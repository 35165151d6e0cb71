-- The sizes that a question about all sizes needs, type by type: an element for each individual, for each
-- parameter, choice and witness of the block, and for each variable of the goal.
use Rattle.std.specs.Prelude.{ℕ, ◌+◌, ◌++◌, List, [], ◌∷◌, map, length, max, nat_eq, count_by, slice_index}
use Rattle.dai_model.specs.Formula.{Formula, truth, relates, same, less, less_or_same, negation, conjunction, disjunction, implication, equivalence, universal, existential, Formulas, no_formulas, with_formula}
use Rattle.dai_model.specs.Protocol.{Protocol, Individual, Block, Action, Invariant}
use Rattle.dai_model.specs.Profile.{witnesses_in, requirements_in}
use Rattle.dai_model.specs.Clause.{numbers_below}

abbrev pub count_of : ℕ → List ℕ → ℕ
count_of sort sorts = count_by (λ t. nat_eq t sort) sorts

abbrev pub greatest : List ℕ → ℕ
greatest [] = 0
greatest (n ∷ ns) = max n (greatest ns)

-- the types of the variables that the formula binds, in order
abbrev mutual
  pub bound_sorts : Formula → List ℕ
  bound_sorts (truth b) = []
  bound_sorts (relates r ts) = []
  bound_sorts (same a b) = []
  bound_sorts (less a b) = []
  bound_sorts (less_or_same a b) = []
  bound_sorts (negation f) = bound_sorts f
  bound_sorts (conjunction fs) = bound_sorts_of_each fs
  bound_sorts (disjunction fs) = bound_sorts_of_each fs
  bound_sorts (implication f g) = bound_sorts f ++ bound_sorts g
  bound_sorts (equivalence fs) = bound_sorts_of_each fs
  bound_sorts (universal v sort f) = sort ∷ bound_sorts f
  bound_sorts (existential v sort f) = sort ∷ bound_sorts f

  pub bound_sorts_of_each : Formulas → List ℕ
  bound_sorts_of_each no_formulas = []
  bound_sorts_of_each (with_formula f fs) = bound_sorts f ++ bound_sorts_of_each fs

abbrev pub individual_count : Protocol → ℕ → ℕ
individual_count P sort = count_by (λ (I : Individual). nat_eq I.sort sort) P.individuals

-- the parameters, the choices and the witnesses of the block
abbrev pub block_count : ℕ → Block → ℕ
block_count sort block = count_of sort block.parameters + count_of sort block.choices + count_of sort (witnesses_in (requirements_in block.code))

abbrev pub blocks_of : Protocol → List Block
blocks_of P = P.init ∷ map (λ (a : Action). a.block) P.actions

abbrev pub most_in_a_block : Protocol → ℕ → ℕ
most_in_a_block P sort = greatest (map (block_count sort) (blocks_of P))

abbrev pub invariant_count : ℕ → Invariant → ℕ
invariant_count sort f = count_of sort (bound_sorts f.body)

abbrev pub most_in_an_invariant : Protocol → ℕ → ℕ
most_in_an_invariant P sort = greatest (map (invariant_count sort) P.invariants)

-- what every block and every invariant needs, with so many variables of each type in a clause
abbrev pub size_bound : Protocol → List ℕ → ℕ → ℕ
size_bound P variables sort =
    let i = individual_count P sort in
    max (i + most_in_a_block P sort + slice_index variables sort) (max (i + most_in_an_invariant P sort) 1)

abbrev pub size_bounds : Protocol → List ℕ → List ℕ
size_bounds P variables = map (size_bound P variables) (numbers_below (length P.sorts))

-- what one question needs, with so many variables of each type in its goal: whether the block leads to the
-- goal, and whether the goal is implied
abbrev pub needed_for_block : Protocol → Block → List ℕ → ℕ → ℕ
needed_for_block P block variables sort = max (individual_count P sort + block_count sort block + slice_index variables sort) 1

abbrev pub needed_for_implied : Protocol → List ℕ → ℕ → ℕ
needed_for_implied P variables sort = max (individual_count P sort + slice_index variables sort) 1
