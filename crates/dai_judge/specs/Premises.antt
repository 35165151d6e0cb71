-- The sizes up to which is judged, and what premises are.
use Rattle.std.specs.Prelude.{◌≡◌, ◌↔◌, ℕ, ◌<◌, List, length}
use Rattle.std.specs.List.{All}
use Rattle.dai_model.specs.Protocol.{Protocol}
use Rattle.dai_model.specs.Formula.{Formula}
use Rattle.dai_model.specs.Structure.{Structure, IsStructure}
use Rattle.dai_model.specs.Value.{Satisfies}
use Rattle.dai_model.specs.Clause.{Clause, MeetsEach}
use Rattle.dai_model.specs.WellSorted.{IsWellSorted, closed_scope}

-- one size of at least 1 for each type
pub record AreSizesFor (P : Protocol) (sizes : List ℕ) : Type 0 where
  pub one_each : length sizes ≡ length P.sorts
  pub inhabited : All (λ n. 0 < n) sizes

-- closed formulas that are all true in exactly the structures that meet the clauses
pub record AreFormulasOf (P : Protocol) (clauses : List Clause) (formulas : List Formula) : Type 0 where
  pub closed : All (IsWellSorted P closed_scope) formulas
  pub exact : (s : Structure) → IsStructure P s → All (Satisfies s) formulas ↔ MeetsEach P s clauses
