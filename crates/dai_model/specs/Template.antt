-- The template space: the clauses within a bound on the variables of each type and a bound on the literals.
use Rattle.std.specs.Prelude.{◌≡◌, ℕ, ◌*◌, ◌<◌, ◌≤◌, List, length, slice_index}
use Rattle.std.specs.List.{All}
use Rattle.dai_model.specs.Protocol.{Protocol}
use Rattle.dai_model.specs.Clause.{Clause, atoms_of, atom_number}

-- the bounds of a search
pub record Bounds : Type 0 where
  pub variables : List ℕ
  pub literals : ℕ

pub record IsTemplate (P : Protocol) (B : Bounds) (c : Clause) : Type 0 where
  pub one_count_each : length c.counts ≡ length P.sorts
  pub few_variables : (sort : ℕ) → slice_index c.counts sort ≤ slice_index B.variables sort
  pub few_literals : length c.literals ≤ B.literals
  pub of_the_shape : All (λ l. l < 2 * length (atoms_of P c.counts)) c.literals
  -- in order, and no atom twice
  pub each_atom_once : (i j : ℕ) → i < j → j < length c.literals → atom_number (slice_index c.literals i) < atom_number (slice_index c.literals j)
