-- What an environment of tables stands for.
use Rattle.std.specs.Prelude.{ℕ, List, slice_index, slice_set}
use Rattle.dai_model.specs.Value as Model

-- the values of the variables, the parameters and the locals, by number
pub record EnvironmentTables : Type 0 where
  pub variables : List ℕ
  pub arguments : List ℕ
  pub choices : List ℕ

abbrev pub environment_of : EnvironmentTables → Model.Environment
environment_of env = record { variables = λ v. slice_index env.variables v; parameters = env.arguments; choices = env.choices }

-- the same with another value of the variable
abbrev pub bound : EnvironmentTables → ℕ → ℕ → EnvironmentTables
bound env v e = record env { variables = slice_set env.variables v e }
