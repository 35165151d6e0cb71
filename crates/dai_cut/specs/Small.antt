-- Claims over a class of structures, and which sizes are enough for them.
use Rattle.std.specs.Prelude.{ℕ, ◌≤◌, true, List, map, length, IsTrue}
use Rattle.std.specs.List.{All, AllZip}
use Rattle.dai_model.specs.Formula.{Formula}
use Rattle.dai_model.specs.Protocol.{Protocol, Block}
use Rattle.dai_model.specs.Structure.{Structure, IsStructure}
use Rattle.dai_model.specs.Value.{Satisfies, SatisfiesAxioms}
use Rattle.dai_model.specs.WellSorted.{IsWellSorted, closed_scope}
use Rattle.dai_model.specs.Profile.{is_universal}
use Rattle.dai_model.specs.Reachable.{IsInitial, IsStepOf}
use Rattle.dai_model.specs.Clause.{Clause, Meets, MeetsEach, numbers_below}
use Rattle.dai_model.specs.Sizes.{count_of, bound_sorts}
use Rattle.dai_model.specs.Classes.{Class, Belongs}

-- each initial state of the class meets the goal
abbrev pub HoldsAtFirst : Class → Protocol → Clause → Type 0
HoldsAtFirst C P goal = (s : Structure) → Belongs C s → IsInitial P s → Meets P s goal

-- each step by the block, from a structure of the class that meets the axioms and the premises, leads to one that
-- meets the goal
abbrev pub HoldsAfter : Class → Protocol → List Clause → Block → Clause → Type 0
HoldsAfter C P premises block goal = (s t : Structure) → Belongs C s → IsStructure P s → SatisfiesAxioms P s → MeetsEach P s premises → IsStepOf P block s t → Meets P t goal

-- the formula is true in each structure of the class that meets the axioms and the premises
abbrev pub Follows : Class → Protocol → List Clause → Formula → Type 0
Follows C P premises f = (s : Structure) → Belongs C s → IsStructure P s → SatisfiesAxioms P s → MeetsEach P s premises → Satisfies s f

-- closed, and universal in force
pub record IsUniversalClaim (P : Protocol) (f : Formula) : Type 0 where
  pub closed : IsWellSorted P closed_scope f
  pub universal : IsTrue (is_universal true f)

-- the same three claims where the premises and the goal are formulas: the goal is true in each initial state of the
-- class; each step by the block, from a structure of the class that meets the axioms and the premises, leads to one in
-- which the goal is true; the goal is true in each structure of the class that meets the axioms and the premises
abbrev pub IsTrueAtFirst : Class → Protocol → Formula → Type 0
IsTrueAtFirst C P f = (s : Structure) → Belongs C s → IsInitial P s → Satisfies s f

abbrev pub IsTrueAfter : Class → Protocol → List Formula → Block → Formula → Type 0
IsTrueAfter C P premises block f = (s t : Structure) → Belongs C s → IsStructure P s → SatisfiesAxioms P s → All (Satisfies s) premises → IsStepOf P block s t → Satisfies t f

abbrev pub IsTrueGiven : Class → Protocol → List Formula → Formula → Type 0
IsTrueGiven C P premises f = (s : Structure) → Belongs C s → IsStructure P s → SatisfiesAxioms P s → All (Satisfies s) premises → Satisfies s f

-- each type is given at least the size that it needs
abbrev pub AreEnough : Protocol → (ℕ → ℕ) → List ℕ → Type 0
AreEnough P needed sizes = AllZip (λ need size. need ≤ size) (map needed (numbers_below (length P.sorts))) sizes

-- how many variables of each type the formula binds
abbrev pub bound_counts : Protocol → Formula → List ℕ
bound_counts P f = map (λ sort. count_of sort (bound_sorts f)) (numbers_below (length P.sorts))
