-- Lists of the canonical clauses of a space, in print order.
use Rattle.std.specs.Prelude.{◌≡◌, ℕ, ◌+◌, ◌/◌, ◌<◌, ◌≤◌, List, [], ◌∷◌, ◌++◌, length, map, slice_index_or}
use Rattle.std.specs.List.{All, Contains}
use Rattle.std.specs.declared.cmp.Ordering.TheVariants.{Less}
use Rattle.dai_model.specs.Protocol.{Protocol}
use Rattle.dai_model.specs.Clause as Model
use Rattle.dai_model.specs.Clause.{atoms_of}
use Rattle.dai_model.specs.Template.{Bounds, IsTemplate}
use Rattle.dai_model.specs.Subsumption.{IsCanonical, print_order}
use Rattle.dai_model.proofs.Below.{Each}
use Rattle.dai_model.proofs.Order.{Rising}
use Rattle.dai_template.specs.declared.clause.Clause.{Clause}
use Rattle.dai_template.specs.declared.space.Space.{Space}
use Rattle.dai_template.specs.Atoms.{counts_of}
use Rattle.dai_template.specs.Spaces.{IsClauseOf, clause_of}

abbrev pub clauses_of : Space → List Clause → List Model.Clause
clauses_of space clauses = map (clause_of space) clauses

-- exactly the canonical clauses of the space, each once and in print order
pub record IsListOfAll (P : Protocol) (B : Bounds) (space : Space) (clauses : List Clause) : Type 0 where
  pub of_the_space : All (IsClauseOf P B space) clauses
  pub canonical : (c : Model.Clause) → Contains (clauses_of space clauses) c → IsCanonical P B c
  pub complete : (c : Model.Clause) → IsTemplate P B c → IsCanonical P B c → Contains (clauses_of space clauses) c
  pub in_order : (i j : ℕ) (d : Model.Clause) → i < j → j < length clauses → print_order (slice_index_or (clauses_of space clauses) i d) (slice_index_or (clauses_of space clauses) j d) ≡ Less

abbrev pub Comes : Space → Clause → Clause → Type 0
Comes space c d = print_order (clause_of space c) (clause_of space d) ≡ Less

pub record IsListed (P : Protocol) (B : Bounds) (space : Space) (Q : Model.Clause → Type 0) (c : Clause) : Type 0 where
  pub of_the_space : IsClauseOf P B space c
  pub canonical : IsCanonical P B (clause_of space c)
  pub has : Q (clause_of space c)

-- exactly the canonical clauses with a property, each once and in print order
pub record IsPart (P : Protocol) (B : Bounds) (space : Space) (Q : Model.Clause → Type 0) (part : List Clause) : Type 0 where
  pub each : Each (IsListed P B space Q) part
  pub complete : (c : Model.Clause) → IsTemplate P B c → IsCanonical P B c → Q c → Contains (clauses_of space part) c
  pub rising : Rising (Comes space) part

-- such clauses were added
pub record IsAdded (P : Protocol) (B : Bounds) (space : Space) (Q : Model.Clause → Type 0) (old new : List Clause) : Type 0 where
  pub part : List Clause
  pub added : new ≡ old ++ part
  pub is : IsPart P B space Q part

-- literals in order over atoms from one number on and below another
abbrev pub AreRest : ℕ → ℕ → List ℕ → Type 0
AreRest n from [] = Unit {0}
AreRest n from (l ∷ ls) = (from ≤ l / 2) × (l / 2 < n) × AreRest n (l / 2 + 1) ls

-- the clause begins with the literals of the other, and goes on with so many more, over atoms from a number on
pub record GoesOn (P : Protocol) (begun : Model.Clause) (from left : ℕ) (c : Model.Clause) : Type 0 where
  pub rest : List ℕ
  pub same_shape : c.counts ≡ begun.counts
  pub literals : c.literals ≡ begun.literals ++ rest
  pub long : length rest ≡ left
  pub are : AreRest (length (atoms_of P begun.counts)) from rest

-- the same, where the next atom is below a number
pub record GoesOnBelow (P : Protocol) (begun : Model.Clause) (from left atom : ℕ) (c : Model.Clause) : Type 0 where
  pub next : ℕ
  pub rest : List ℕ
  pub same_shape : c.counts ≡ begun.counts
  pub literals : c.literals ≡ begun.literals ++ next ∷ rest
  pub long : length rest + 1 ≡ left
  pub start : from ≤ next / 2
  pub below : next / 2 < atom
  pub inside : next / 2 < length (atoms_of P begun.counts)
  pub are : AreRest (length (atoms_of P begun.counts)) (next / 2 + 1) rest

-- a clause of the space that can go on with so many literals, over atoms from a number on
pub record IsBegunWith (P : Protocol) (B : Bounds) (space : Space) (c : Clause) (from left : ℕ) : Type 0 where
  pub is : IsClauseOf P B space c
  pub room : length c.lits.items + left ≤ B.literals
  pub before : Each (λ l. l / 2 < from) c.lits.items

pub record IsExtensible (space : Space) (c : Clause) (from left : ℕ) : Type 0 where
  pub protocol : Protocol
  pub bounds : Bounds
  pub is : IsBegunWith protocol bounds space c from left

-- a clause over the shape of this number, with so many literals
pub record HasLiterals (space : Space) (shape literals : ℕ) (c : Model.Clause) : Type 0 where
  pub over : c.counts ≡ slice_index_or (map counts_of space.shapes.items) shape []
  pub many : length c.literals ≡ literals

pub record HasFewLiterals (space : Space) (shape literals : ℕ) (c : Model.Clause) : Type 0 where
  pub over : c.counts ≡ slice_index_or (map counts_of space.shapes.items) shape []
  pub few : length c.literals < literals

-- a clause over a shape below this number
pub record IsOverShapesBelow (space : Space) (shape : ℕ) (c : Model.Clause) : Type 0 where
  pub number : ℕ
  pub below : number < shape
  pub over : c.counts ≡ slice_index_or (map counts_of space.shapes.items) number []
