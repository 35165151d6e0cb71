-- Which variables, atoms and clauses of the model the program's ones stand for.
use Rattle.std.specs.Prelude.{◌≡◌, ℕ, List, map, Vec}
use Rattle.std.specs.declared.alloc.Global.{Global}
use Rattle.dai_model.specs.Protocol.{Protocol}
use Rattle.dai_model.specs.Clause as Model
use Rattle.dai_template.specs.declared.clause.Atom.{Atom}
use Rattle.dai_template.specs.declared.clause.Atom.TheVariants.{Tuple, IsInd}
use Rattle.dai_template.specs.declared.clause.Shape.{Shape}

abbrev pub variable_of : ℕ × ℕ → Model.Variable
variable_of v = record { sort = v.0; number = v.1 }

abbrev pub atom_of : Atom → Model.Atom
atom_of (Tuple rel vars) = Model.tuple rel (map variable_of vars.items)
atom_of (IsInd var ind) = Model.is_individual (variable_of var) ind

abbrev pub lists_of : List (Vec ℕ Global) → List (List ℕ)
lists_of vs = map (λ (v : Vec ℕ Global). v.items) vs

abbrev pub counts_of : Shape → List ℕ
counts_of s = s.counts.items

-- the atoms of the shape are those of its counts
pub record IsShape (P : Protocol) (s : Shape) : Type 0 where
  pub atoms : map atom_of s.atoms.items ≡ Model.atoms_of P s.counts.items
