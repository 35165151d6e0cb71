-- The formula of a clause: whichever elements its variables stand for, two of one type don't stand as they should,
-- or some literal is true.
use Rattle.std.specs.Prelude.{ℕ, ◌+◌, ◌*◌, ◌<◌, ◌≤◌, Bool, true, false, List, [], ◌∷◌, ◌++◌, length, map, sum, take, if◌then◌else◌}
use Rattle.std.specs.List.{All, flat_map}
use Rattle.dai_model.specs.Formula.{Term, variable, individual, Formula, relates, same, less_or_same, negation, disjunction, universal, Formulas, no_formulas, with_formula}
use Rattle.dai_model.specs.Protocol.{Protocol, Sort}
use Rattle.dai_model.specs.Clause.{Variable, Atom, tuple, is_individual, Clause, Literal, numbers_below, literals_of}
use Rattle.dai_model.proofs.Below.{IsAtomOf}
use Rattle.dai_logic.specs.declared.protocol.Formula.{Formula as Tree}
use Rattle.dai_logic.specs.Trees.{formula_of}

-- the variable's number in the formula: those of the types before come first
abbrev pub number_of : List ℕ → Variable → ℕ
number_of counts v = sum (take v.sort counts) + v.number

abbrev pub term_at : List ℕ → Variable → Term
term_at counts v = variable (number_of counts v)

abbrev pub atom_formula : List ℕ → Atom → Formula
atom_formula counts (tuple r vs) = relates r (map (term_at counts) vs)
atom_formula counts (is_individual v i) = same (term_at counts v) (individual i)

abbrev pub literal_formula : List ℕ → Literal → Formula
literal_formula counts l = if l.negated then negation (atom_formula counts l.atom) else atom_formula counts l.atom

-- two variables of one type, the first of them earlier, don't stand as they should
abbrev pub clash : Bool → ℕ → ℕ → Formula
clash true v w = less_or_same (variable w) (variable v)
clash false v w = same (variable v) (variable w)

abbrev pub clashes_with : Bool → ℕ → ℕ → List Formula
clashes_with ordered first j = map (λ i. clash ordered (first + i) (first + j)) (numbers_below j)

abbrev pub clashes_of : Bool → ℕ → ℕ → List Formula
clashes_of ordered first count = flat_map (clashes_with ordered first) (numbers_below count)

-- of so many variables of each type
abbrev pub clashes : List Bool → ℕ → List ℕ → List Formula
clashes [] first counts = []
clashes (ordered ∷ orders) first [] = []
clashes (ordered ∷ orders) first (count ∷ counts) = clashes_of ordered first count ++ clashes orders (first + count) counts

abbrev pub formulas_from : List Formula → Formulas
formulas_from [] = no_formulas
formulas_from (f ∷ fs) = with_formula f (formulas_from fs)

-- of all elements of these types
abbrev pub for_all : List ℕ → ℕ → Formula → Formula
for_all [] first f = f
for_all (sort ∷ sorts) first f = universal first sort (for_all sorts (first + 1) f)

-- the types of the variables in order
abbrev pub types_from : ℕ → List ℕ → List ℕ
types_from sort [] = []
types_from sort (count ∷ counts) = map (λ _. sort) (numbers_below count) ++ types_from (sort + 1) counts

abbrev pub orders_of : Protocol → List Bool
orders_of P = map (λ (T : Sort). T.ordered) P.sorts

abbrev pub parts_of : Protocol → Clause → List Formula
parts_of P c = clashes (orders_of P) 0 c.counts ++ map (literal_formula c.counts) (literals_of P c)

abbrev pub formula_of_clause : Protocol → Clause → Formula
formula_of_clause P c = for_all (types_from 0 c.counts) 0 (disjunction (formulas_from (parts_of P c)))

-- a shape of few variables whose atoms and literals are over them
pub record IsWritable (counts : List ℕ) (atoms : List Atom) (literals : List ℕ) : Type 0 where
  pub few_types : length counts ≤ 8
  pub few_variables : sum counts ≤ 32
  pub variables : All (IsAtomOf counts) atoms
  pub of_the_shape : All (λ literal. literal < 2 * length atoms) literals

abbrev pub trees_of : List Tree → List Formula
trees_of fs = map formula_of fs
