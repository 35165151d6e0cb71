-- Which structure of the model a structure of tables stands for. A table lists the truth values of a
-- relation's tuples in lexicographic order.
use Rattle.std.specs.Prelude.{◌≡◌, ℕ, ◌+◌, ◌*◌, ◌^◌, ◌<◌, ◌≤◌, ◌&&◌, IsTrue, if◌then◌else◌, Bool, false, List, [], length, Option, Some, None, slice_get, slice_index, slice_index_or, map, Vec}
use Rattle.std.specs.declared.alloc.Global.{Global}
use Rattle.std.specs.List.{All}
use Rattle.dai_model.specs.Protocol.{Protocol, Relation, Individual}
use Rattle.dai_model.specs.Structure as Model
use Rattle.dai_model.specs.Structure.{is_tuple, is_tuple_of}
use Rattle.dai_model.specs.Value.{Environment, value_of}
use Rattle.dai_model.specs.Execution.{matches, bind_target}
use Rattle.dai_model.specs.Formula.{Term, variable, individual, parameter, choice, Formula, Formulas, Statement, Statements}
use Rattle.dai_model.specs.WellSorted.{Scope, EnvironmentFits, HaveSorts, IsWellSorted, AreWellSorted, target_scope, IsWellSortedStatement, IsWellSortedCode}
use Rattle.dai_logic.specs.declared.structure.Structure.{Structure}
pub use Rattle.dai_logic.specs.Counts.{tuple_count, tuple_place, tuple_at}

abbrev pub bit_in : List ℕ → List Bool → Option Relation → List ℕ → Bool
bit_in sizes table None es = false
bit_in sizes table (Some r) es = slice_index_or table (tuple_place sizes r.arguments es) false

-- the bits of each table
abbrev pub bits_of : Vec (Vec Bool Global) Global → List (List Bool)
bits_of tables = map (λ (t : Vec Bool Global). t.items) tables.items

abbrev pub tables_of : Structure → List (List Bool)
tables_of s = bits_of s.tables

-- the structure of these sizes, tables and values
abbrev pub structure_with : Protocol → List ℕ → List (List Bool) → List ℕ → Model.Structure
structure_with P sizes tables values = record {
  sizes = sizes;
  holds = λ r es. is_tuple_of P sizes r es && bit_in sizes (slice_index_or tables r []) (slice_get P.relations r) es;
  element = λ i. slice_index values i;
}

abbrev pub structure_of : Protocol → Structure → Model.Structure
structure_of P s = structure_with P s.sizes.items (tables_of s) s.values.items

-- one size of at least 1 for each type, one table of the right length for each relation, and one value in
-- range for each individual
pub record AreFitting (P : Protocol) (sizes : List ℕ) (tables : List (List Bool)) (values : List ℕ) : Type 0 where
  pub one_size_each : length sizes ≡ length P.sorts
  pub inhabited : All (λ size. 0 < size) sizes
  pub one_table_each : length tables ≡ length P.relations
  pub whole_tables : (r : ℕ) (R : Relation) → slice_get P.relations r ≡ Some R → length (slice_index_or tables r []) ≡ tuple_count sizes R.arguments
  pub one_value_each : length values ≡ length P.individuals
  pub values_inside : (i : ℕ) (I : Individual) → slice_get P.individuals i ≡ Some I → slice_index values i < slice_index sizes I.sort

abbrev pub Fits : Protocol → Structure → Type 0
Fits P s = AreFitting P s.sizes.items (tables_of s) s.values.items

-- the term is a variable, or the structure or the environment has a value for it
abbrev pub HasPlace : Structure → Environment → Term → Type 0
HasPlace s env (variable v) = Unit {0}
HasPlace s env (individual i) = i < length s.values.items
HasPlace s env (parameter p) = p < length env.parameters
HasPlace s env (choice c) = c < length env.choices

-- each name in scope has a value, which is an element of its type
pub record Gives (scope : Scope) (sizes : List ℕ) (env : Environment) : Type 0 where
  pub fits : EnvironmentFits scope sizes env
  pub parameters : length scope.parameters ≤ length env.parameters
  pub choices : length scope.choices ≤ length env.choices

-- the formula is well-sorted, and the environment gives each name in it an element of its type
pub record IsEvaluable (P : Protocol) (sizes : List ℕ) (env : Environment) (f : Formula) : Type 0 where
  pub scope : Scope
  pub sorted : IsWellSorted P scope f
  pub gives : Gives scope sizes env

-- the same of each formula
pub record AreEvaluable (P : Protocol) (sizes : List ℕ) (env : Environment) (fs : Formulas) : Type 0 where
  pub scope : Scope
  pub sorted : AreWellSorted P scope fs
  pub gives : Gives scope sizes env

-- the same of each formula of the statements
pub record IsRunnable (P : Protocol) (sizes : List ℕ) (env : Environment) (cs : Statements) : Type 0 where
  pub scope : Scope
  pub sorted : IsWellSortedCode P scope cs
  pub gives : Gives scope sizes env

pub record IsRunnableStatement (P : Protocol) (sizes : List ℕ) (env : Environment) (c : Statement) : Type 0 where
  pub scope : Scope
  pub sorted : IsWellSortedStatement P scope c
  pub gives : Gives scope sizes env

-- the rest of a target, with the types of its places, and the formula of the update
pub record IsWritable (P : Protocol) (sizes : List ℕ) (env : Environment) (target : List Term) (sorts : List ℕ) (f : Formula) : Type 0 where
  pub scope : Scope
  pub known : All (λ sort. sort < length sizes) sorts
  pub terms : HaveSorts P (target_scope scope target sorts) target sorts
  pub sorted : IsWellSorted P (target_scope scope target sorts) f
  pub gives : Gives scope sizes env

-- What the update writes at the places of the tuples that begin with the elements of this number: the value of
-- the formula where the target reaches the tuple. All else is as before.
pub record IsWritten (s : Model.Structure) (env : Environment) (target : List Term) (sorts : List ℕ) (f : Formula) (first : ℕ) (old new : List Bool) : Type 0 where
  pub inside : (es : List ℕ) → IsTrue (is_tuple s.sizes sorts es) → slice_index_or new (first * tuple_count s.sizes sorts + tuple_place s.sizes sorts es) false ≡ (if matches s env target es then value_of s (bind_target env target es) f else slice_index_or old (first * tuple_count s.sizes sorts + tuple_place s.sizes sorts es) false)
  pub below : (place : ℕ) → place < first * tuple_count s.sizes sorts → slice_index_or new place false ≡ slice_index_or old place false
  pub above : (place : ℕ) → first * tuple_count s.sizes sorts + tuple_count s.sizes sorts ≤ place → slice_index_or new place false ≡ slice_index_or old place false

-- one table for each relation, as long as the structure's
abbrev pub AreAsLong : List (List Bool) → List (List Bool) → Type 0
AreAsLong tables others = map (λ (t : List Bool). length t) tables ≡ map (λ (t : List Bool). length t) others

-- the same sizes, tables and values
pub record IsCopy (s t : Structure) : Type 0 where
  pub sizes : t.sizes.items ≡ s.sizes.items
  pub tables : tables_of t ≡ tables_of s
  pub values : t.values.items ≡ s.values.items

-- as many sizes, tables and values, and tables as long
pub record IsAlike (s t : Structure) : Type 0 where
  pub sizes : length t.sizes.items ≡ length s.sizes.items
  pub tables : AreAsLong (tables_of t) (tables_of s)
  pub values : length t.values.items ≡ length s.values.items

-- sizes, tables and values of the program's types that stand for the structure
pub record IsStoodFor (P : Protocol) (s : Model.Structure) : Type 0 where
  pub sizes : List ℕ
  pub tables : List (List Bool)
  pub values : List ℕ
  pub fit : AreFitting P sizes tables values
  pub small_sizes : All (λ size. size < 2 ^ 16) sizes
  pub small_values : All (λ value. value < 2 ^ 16) values
  pub stand : structure_with P sizes tables values ≡ s
