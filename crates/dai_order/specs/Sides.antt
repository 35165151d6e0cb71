-- The search for an injection that takes the literals of one clause to literals of another.
use Rattle.std.specs.Prelude.{◌≡◌, ℕ, ◌+◌, ◌*◌, ◌/◌, ◌%◌, ◌<◌, ◌≤◌, Bool, List, [], ◌∷◌, length, map, slice_index, slice_index_or}
use Rattle.std.specs.List.{All, Contains}
use Rattle.dai_model.specs.Protocol.{Protocol}
use Rattle.dai_model.specs.Placement.{ArePlacements}
use Rattle.dai_model.specs.Clause as Model
use Rattle.dai_model.specs.Clause.{Variable, Atom, tuple, is_individual, Literal, literals_of, no_atom}
use Rattle.dai_model.specs.Template.{Bounds}
use Rattle.dai_model.specs.Subsumption.{image_of}
use Rattle.dai_template.specs.declared.clause.Clause.{Clause}
use Rattle.dai_template.specs.declared.clause.Shape.{Shape}
use Rattle.dai_template.specs.declared.space.Space.{Space}
use Rattle.dai_template.specs.Atoms.{atom_of}
use Rattle.dai_template.specs.Spaces.{IsClauseOf}
use Rattle.dai_template.specs.Meeting.{element_in, Before, Agree, IsBegun}
use Rattle.dai_template.specs.Renamings.{IsShapeOf, AreLiterals}

-- two clauses of one space
pub record ArePair (space : Space) (left right : Clause) : Type 0 where
  pub protocol : Protocol
  pub bounds : Bounds
  pub first : IsClauseOf protocol bounds space left
  pub second : IsClauseOf protocol bounds space right

-- each variable has a place in the array
abbrev pub AreStored : Atom → Type 0
AreStored (tuple r vs) = All (λ (v : Variable). 4 * v.sort + v.number < 32) vs
AreStored (is_individual v i) = 4 * v.sort + v.number < 32

-- a variable that comes before this one goes to the other, and one that comes later may go to it
pub record MayGo (sort number : ℕ) (to : List ℕ) (v w : Variable) : Type 0 where
  pub same_type : v.sort ≡ w.sort
  pub placed : Before v.sort v.number sort number → element_in to v ≡ w.number

abbrev pub EachMayGo : ℕ → ℕ → List ℕ → List Variable → List Variable → Type 0
EachMayGo sort number to [] [] = Unit {0}
EachMayGo sort number to [] (w ∷ ws) = ⊥
EachMayGo sort number to (v ∷ vs) [] = ⊥
EachMayGo sort number to (v ∷ vs) (w ∷ ws) = MayGo sort number to v w × EachMayGo sort number to vs ws

abbrev pub AtomMayGo : ℕ → ℕ → List ℕ → Atom → Atom → Type 0
AtomMayGo sort number to (tuple r vs) (tuple q ws) = (r ≡ q) × EachMayGo sort number to vs ws
AtomMayGo sort number to (tuple r vs) (is_individual w j) = ⊥
AtomMayGo sort number to (is_individual v i) (tuple q ws) = ⊥
AtomMayGo sort number to (is_individual v i) (is_individual w j) = (i ≡ j) × MayGo sort number to v w

-- the literal, over this atom, may go to one of the others
pub record MayGoInto (sort number : ℕ) (to : List ℕ) (atoms : List Atom) (others : List ℕ) (a : Atom) (literal : ℕ) : Type 0 where
  pub place : ℕ
  pub below : place < length others
  pub sign : literal % 2 ≡ slice_index others place % 2
  pub atom : AtomMayGo sort number to a (slice_index_or atoms (slice_index others place / 2) no_atom)

abbrev pub AllMayGo : ℕ → ℕ → List ℕ → Shape → List ℕ → Shape → List ℕ → Type 0
AllMayGo sort number to left literals right others = (k : ℕ) → k < length literals → MayGoInto sort number to (map atom_of right.atoms.items) others (slice_index_or (map atom_of left.atoms.items) (slice_index literals k / 2) no_atom) (slice_index literals k)

-- the clause of the shape with these literals
abbrev pub clause_over : Shape → List ℕ → Model.Clause
clause_over shape literals = record { counts = shape.counts.items; literals = literals }

-- two shapes of the protocol, with literals over each
pub record AreSides (P : Protocol) (orders : List Bool) (left : Shape) (literals : List ℕ) (right : Shape) (others : List ℕ) : Type 0 where
  pub left_shape : IsShapeOf P orders left.counts.items (map atom_of left.atoms.items)
  pub left_literals : AreLiterals P left.counts.items literals
  pub right_shape : IsShapeOf P orders right.counts.items (map atom_of right.atoms.items)
  pub right_literals : AreLiterals P right.counts.items others

-- the injection takes each literal of the one clause to one of the other
abbrev pub AreTaken : Protocol → Model.Clause → Model.Clause → List (List ℕ) → Type 0
AreTaken P below above to = (l : Literal) → Contains (literals_of P below) l → Contains (literals_of P above) (image_of to l)

-- no injection that begins with these numbers takes the literals to others
abbrev pub IsNoneFrom : Protocol → Shape → List ℕ → Shape → List ℕ → ℕ → ℕ → List ℕ → Type 0
IsNoneFrom P left literals right others sort number values = (to : List (List ℕ)) → ArePlacements P left.counts.items right.counts.items to → Agree left.counts.items sort number to values → AreTaken P (clause_over left literals) (clause_over right others) to → ⊥

-- what is asked of a search that has come to this variable
pub record IsSoughtFrom (orders : List Bool) (left : Shape) (literals : List ℕ) (right : Shape) (others : List ℕ) (sort number : ℕ) (to : List ℕ) : Type 0 where
  pub protocol : Protocol
  pub sides : AreSides protocol orders left literals right others
  pub begun : IsBegun protocol right.counts.items left.counts.items sort number to
  pub sort_inside : sort ≤ length left.counts.items
  pub number_inside : number ≤ slice_index left.counts.items sort

-- literals over the atoms of two shapes, the variables of the first with places
pub record AreReadable (left : Shape) (literals : List ℕ) (right : Shape) (others : List ℕ) (to : List ℕ) : Type 0 where
  pub long : length to ≡ 32
  pub stored : All AreStored (map atom_of left.atoms.items)
  pub literals_inside : All (λ l. l < 2 * length (map atom_of left.atoms.items)) literals
  pub others_inside : All (λ l. l < 2 * length (map atom_of right.atoms.items)) others
