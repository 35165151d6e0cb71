-- The parts of a clause: what it is without a literal, or without a variable that is in none of its literals.
use Rattle.std.specs.Prelude.{◌≡◌, ℕ, ◌+◌, ◌*◌, ◌/◌, ◌%◌, ◌<◌, ◌≤◌, ◌^◌, List, [], length, map, sum, slice_index, slice_index_or}
use Rattle.std.specs.List.{All, Contains}
use Rattle.dai_model.specs.Protocol.{Protocol}
use Rattle.dai_model.specs.Placement.{of_sort}
use Rattle.dai_model.specs.Clause as Model
use Rattle.dai_model.specs.Clause.{Atom, atoms_of, no_atom}
use Rattle.dai_model.specs.Template.{Bounds, IsTemplate}
use Rattle.dai_model.specs.Subsumption.{image_of, Subsumes}
use Rattle.dai_model.proofs.Counting.{IsHit}
use Rattle.dai_model.proofs.Ranks.{literal_at}
use Rattle.dai_template.specs.declared.clause.Clause.{Clause}
use Rattle.dai_template.specs.declared.clause.Shape.{Shape}
use Rattle.dai_template.specs.declared.space.Space.{Space}
use Rattle.dai_template.specs.Atoms.{atom_of}
use Rattle.dai_template.specs.Spaces.{IsClauseOf, clause_of}
use Rattle.dai_template.specs.Renamings.{put_all_in_order}
use Rattle.dai_order.specs.Sides.{AreStored, AtomMayGo}
use Rattle.dai_order.specs.Variables.{counts_at}

-- a member that is below the clause and has as many literals
pub record IsBelowEvenly (P : Protocol) (members : List Model.Clause) (c : Model.Clause) : Type 0 where
  pub member : Model.Clause
  pub listed : Contains members member
  pub below : Subsumes P member c
  pub even : length member.literals ≡ length c.literals

-- the clause's literal is the image of one
pub record IsImageOfOne (P : Protocol) (m c : Model.Clause) (sub : Subsumes P m c) (i : ℕ) : Type 0 where
  pub place : ℕ
  pub below : place < length m.literals
  pub is : image_of sub.injection (literal_at P m place) ≡ literal_at P c i

-- a member that is below the clause, with images at the places before one
pub record IsBelowFrom (P : Protocol) (members : List Model.Clause) (c : Model.Clause) (from : ℕ) : Type 0 where
  pub member : Model.Clause
  pub listed : Contains members member
  pub below : Subsumes P member c
  pub images : (i : ℕ) → i < from → i < length c.literals → IsImageOfOne P member c below i

-- and with none at this place
pub record IsBelowBut (P : Protocol) (members : List Model.Clause) (c : Model.Clause) (place : ℕ) : Type 0 where
  pub from : IsBelowFrom P members c place
  pub inside : place < length c.literals
  pub none : IsImageOfOne P from.member c from.below place → ⊥

-- the variable of the clause is no image
pub record IsLeftOut (P : Protocol) (m c : Model.Clause) (sub : Subsumes P m c) (sort number : ℕ) : Type 0 where
  pub inside : number < slice_index c.counts sort
  pub none : IsHit (slice_index m.counts sort) (slice_index (of_sort sub.injection sort)) number → ⊥

-- a member that is below the clause evenly, and leaves the variable out
pub record IsBelowWithout (P : Protocol) (members : List Model.Clause) (c : Model.Clause) (sort number : ℕ) : Type 0 where
  pub evenly : IsBelowEvenly P members c
  pub out : IsLeftOut P evenly.member c evenly.below sort number

-- the clause without the variable: it is below it, and above whatever is below it evenly and leaves the variable out
pub record IsWithoutVariable (P : Protocol) (B : Bounds) (space : Space) (c part : Clause) (sort number : ℕ) : Type 0 where
  pub of_the_space : IsClauseOf P B space part
  pub below : Subsumes P (clause_of space part) (clause_of space c)
  pub one_less : sum (counts_at space part.shape) + 1 ≡ sum (counts_at space c.shape)
  pub as_many : length part.lits.items ≡ length c.lits.items
  pub above : (m : Model.Clause) (sub : Subsumes P m (clause_of space c)) → IsTemplate P B m → length m.literals ≡ length c.lits.items → IsLeftOut P m (clause_of space c) sub sort number → Subsumes P m (clause_of space part)

-- nothing is below the clause evenly and leaves the variable out
abbrev pub LeavesOutNone : Protocol → Bounds → Model.Clause → ℕ → ℕ → Type 0
LeavesOutNone P B c sort number = (m : Model.Clause) (sub : Subsumes P m c) → IsTemplate P B m → length m.literals ≡ length c.literals → IsLeftOut P m c sub sort number → ⊥

-- the literal is the image of another
pub record IsPreimage (types : ℕ) (to : List ℕ) (from into : List Atom) (literal other : ℕ) : Type 0 where
  pub below : other / 2 < length from
  pub image : AtomMayGo types 0 to (slice_index_or from (other / 2) no_atom) (slice_index_or into (literal / 2) no_atom)
  pub sign : other % 2 ≡ literal % 2

pub record ArePreimages (types : ℕ) (to : List ℕ) (from into : List Atom) (literals others : List ℕ) : Type 0 where
  pub numbers : List ℕ
  pub as_many : length numbers ≡ length literals
  pub each : (k : ℕ) → k < length literals → IsPreimage types to from into (slice_index literals k) (slice_index numbers k)
  pub ordered : others ≡ put_all_in_order numbers []

-- one of the literals is the image of none
pub record HasNoPreimage (types : ℕ) (to : List ℕ) (from into : List Atom) (literals : List ℕ) : Type 0 where
  pub place : ℕ
  pub below : place < length literals
  pub none : (k : ℕ) → k < length from → AtomMayGo types 0 to (slice_index_or from k no_atom) (slice_index_or into (slice_index literals place / 2) no_atom) → ⊥

-- literals over the atoms of a shape, and the atoms of another, whose variables have places
pub record AreSought (from into : Shape) (literals to : List ℕ) : Type 0 where
  pub long : length to ≡ 32
  pub stored : All AreStored (map atom_of from.atoms.items)
  pub few_atoms : length from.atoms.items ≤ 64
  pub few : length literals ≤ 8
  pub inside : All (λ l. l < 2 * length (map atom_of into.atoms.items)) literals

-- the shapes are few, each with few variables of each of so many types
pub record AreFewShapes (space : Space) (types : ℕ) : Type 0 where
  pub few_shapes : length space.shapes.items < 2 ^ 32
  pub each : (k : ℕ) → k < length space.shapes.items → length (counts_at space k) ≡ types
  pub few : (k : ℕ) → k < length space.shapes.items → All (λ n. n ≤ 4) (counts_at space k)
