-- Which template space of the model a space stands for, and when there is none.
use Rattle.std.specs.Prelude.{◌≡◌, ℕ, ◌<◌, ◌≤◌, [], map, length, slice_index_or}
use Rattle.std.specs.List.{All}
use Rattle.dai_model.specs.Protocol.{Protocol}
use Rattle.dai_model.specs.Clause as Model
use Rattle.dai_model.specs.Template.{Bounds, IsTemplate}
use Rattle.dai_model.specs.Limits.{atom_count}
use Rattle.dai_model.specs.Shapes.{shapes_within, template_count}
use Rattle.dai_logic.specs.declared.structure.Structure.{Structure}
use Rattle.dai_logic.specs.Tables.{Fits}
use Rattle.dai_template.specs.declared.space.SpaceError.{SpaceError}
use Rattle.dai_template.specs.declared.space.SpaceError.TheVariants.{Atoms, Templates, Spent}
use Rattle.dai_template.specs.declared.clause.Clause.{Clause}
use Rattle.dai_template.specs.declared.space.Space.{Space}
use Rattle.dai_template.specs.Atoms.{counts_of, IsShape}
use Rattle.dai_template.specs.ClauseFormulas.{orders_of}

-- the shapes within the bounds in print order, each with its atoms
pub record IsSpaceOf (P : Protocol) (B : Bounds) (space : Space) : Type 0 where
  pub shapes : map counts_of space.shapes.items ≡ shapes_within B.variables
  pub atoms : All (IsShape P) space.shapes.items
  pub literals : space.lits ≡ B.literals
  -- which types are ordered
  pub orders : space.ordered.items ≡ orders_of P
  pub few_types : length P.sorts ≤ 8
  pub few_variables : All (λ bound. bound ≤ 4) B.variables
  pub each : length B.variables ≡ length P.sorts
  pub few_literals : B.literals ≤ 8
  pub few_atoms : atom_count P B ≤ 64

-- a protocol's space within some bounds
pub record IsSpace (space : Space) : Type 0 where
  pub protocol : Protocol
  pub bounds : Bounds
  pub is : IsSpaceOf protocol bounds space

-- the clause of the model that a clause of the space stands for
abbrev pub clause_of : Space → Clause → Model.Clause
clause_of space c = record { counts = slice_index_or (map counts_of space.shapes.items) c.shape []; literals = c.lits.items }

-- the clause is a template, of a space within these bounds
pub record IsClauseOf (P : Protocol) (B : Bounds) (space : Space) (c : Clause) : Type 0 where
  pub space_of : IsSpaceOf P B space
  pub shape : c.shape < length space.shapes.items
  pub template : IsTemplate P B (clause_of space c)

-- a clause of a space, which is a protocol's within some bounds
pub record IsClauseOfSpace (space : Space) (c : Clause) : Type 0 where
  pub protocol : Protocol
  pub bounds : Bounds
  pub is : IsClauseOf protocol bounds space c

-- the same with a structure of the protocol
pub record IsAskedOf (space : Space) (c : Clause) (s : Structure) : Type 0 where
  pub protocol : Protocol
  pub bounds : Bounds
  pub is : IsClauseOf protocol bounds space c
  pub fits : Fits protocol s

abbrev pub most_atoms : ℕ
most_atoms = 64

abbrev pub most_templates : ℕ
most_templates = 200000

-- within the limits
pub record IsWithinLimits (P : Protocol) (B : Bounds) : Type 0 where
  pub atoms : atom_count P B ≤ most_atoms
  pub templates : template_count P B ≤ most_templates

-- past the first limit that is passed
abbrev pub IsSpaceError : Protocol → Bounds → SpaceError → Type 0
IsSpaceError P B (Atoms count) = (count ≡ atom_count P B) × (most_atoms < count)
IsSpaceError P B (Templates count) = (atom_count P B ≤ most_atoms) × (count ≡ template_count P B) × (most_templates < count)
IsSpaceError P B Spent = Unit {0}
