-- What statements leave, from what each leaves.
use Rattle.std.proofs.Common.{◌≡◌, ℕ, Bool, List, Option, Some, None, ap, sym, ◌∙◌, subst}
use Rattle.std.specs.Prelude.{if◌then◌else◌}
use Rattle.std.specs.Option.{option_and_then}
use Rattle.dai_model.specs.Formula.{Term, Formula, Statement, requirement, conditional, update_relation, update_individual, Statements, no_statements, with_statement}
use Rattle.dai_model.specs.Protocol.{Protocol}
use Rattle.dai_model.specs.Structure as Model
use Rattle.dai_model.specs.Structure.{is_tuple_of}
use Rattle.dai_model.specs.Value.{Environment, value_of}
use Rattle.dai_model.specs.Execution.{after_relation, after_individual, after_statement, after_statements}
use Rattle.dai_logic.specs.Tables.{IsRunnable, IsRunnableStatement}
use Rattle.dai_logic.specs.Environments.{EnvironmentTables, environment_of}
use Rattle.dai_logic.proofs.Evaluable.{first_runnable}

pub run_next : (P : Protocol) (env : Environment) (cs : Statements) (c : Statement) (ds : Statements) (S T : Model.Structure) (v : Option Model.Structure) → cs ≡ with_statement c ds → after_statement P env c S ≡ Some T → after_statements P env cs S ≡ v → after_statements P env ds T ≡ v
run_next P env cs c ds S T v e h k = sym (ap (option_and_then (after_statements P env ds)) h) ∙ (sym (ap (λ xs. after_statements P env xs S) e) ∙ k)

pub run_barred : (P : Protocol) (env : Environment) (cs : Statements) (c : Statement) (ds : Statements) (S : Model.Structure) (v : Option Model.Structure) → cs ≡ with_statement c ds → after_statement P env c S ≡ None → after_statements P env cs S ≡ v → v ≡ None
run_barred P env cs c ds S v e h k = sym k ∙ (ap (λ xs. after_statements P env xs S) e ∙ ap (option_and_then (after_statements P env ds)) h)

pub run_done : (P : Protocol) (env : Environment) (cs : Statements) (S : Model.Structure) (v : Option Model.Structure) → cs ≡ no_statements → after_statements P env cs S ≡ v → v ≡ Some S
run_done P env cs S v e k = sym k ∙ ap (λ xs. after_statements P env xs S) e

pub requirement_after : (P : Protocol) (env : Environment) (c : Statement) (f : Formula) (S : Model.Structure) (b a : Bool) → c ≡ requirement f → b ≡ value_of S env f → b ≡ a → after_statement P env c S ≡ (if a then Some S else None)
requirement_after P env c f S b a e h t = ap (λ d. after_statement P env d S) e ∙ ap (λ v. if v then Some S else None) (sym h ∙ t)

pub conditional_after : (P : Protocol) (env : Environment) (c : Statement) (f : Formula) (first second : Statements) (S : Model.Structure) (b a : Bool) → c ≡ conditional f first second → b ≡ value_of S env f → b ≡ a → after_statement P env c S ≡ (if a then after_statements P env first S else after_statements P env second S)
conditional_after P env c f first second S b a e h t = ap (λ d. after_statement P env d S) e ∙ ap (λ v. if v then after_statements P env first S else after_statements P env second S) (sym h ∙ t)

-- the statement that comes next can be run where the sizes and the environment are the old ones
pub first_runnable_now : (P : Protocol) (sizes old_sizes : List ℕ) (now old : EnvironmentTables) (cs : Statements) (d : Statement) (ds : Statements) → sizes ≡ old_sizes → now ≡ old → cs ≡ with_statement d ds → IsRunnable P old_sizes (environment_of old) cs → IsRunnableStatement P sizes (environment_of now) d
first_runnable_now P sizes old_sizes now old cs d ds z same e h =
    subst (λ xs. IsRunnableStatement P xs (environment_of now) d) (sym z) (subst (λ env. IsRunnableStatement P old_sizes (environment_of env) d) (sym same) (first_runnable P old_sizes (environment_of old) cs d ds e h))

pub after_then : (P : Protocol) (now old : EnvironmentTables) (c : Statement) (S : Model.Structure) (v : Option Model.Structure) → now ≡ old → after_statement P (environment_of now) c S ≡ v → after_statement P (environment_of old) c S ≡ v
after_then P now old c S v same h = sym (ap (λ env. after_statement P (environment_of env) c S) same) ∙ h

pub statements_then : (P : Protocol) (now old : EnvironmentTables) (cs : Statements) (S : Model.Structure) (v : Option Model.Structure) → now ≡ old → after_statements P (environment_of now) cs S ≡ v → after_statements P (environment_of old) cs S ≡ v
statements_then P now old cs S v same h = sym (ap (λ env. after_statements P (environment_of env) cs S) same) ∙ h

pub runnable_now : (P : Protocol) (sizes : List ℕ) (now old : EnvironmentTables) (cs : Statements) → now ≡ old → IsRunnable P sizes (environment_of old) cs → IsRunnable P sizes (environment_of now) cs
runnable_now P sizes now old cs same h = subst (λ env. IsRunnable P sizes (environment_of env) cs) (sym same) h

pub relation_after : (P : Protocol) (env : Environment) (c : Statement) (r : ℕ) (ts : List Term) (f : Formula) (S T : Model.Structure) → c ≡ update_relation r ts f → T ≡ after_relation P S env r ts f → after_statement P env c S ≡ Some T
relation_after P env c r ts f S T e h = ap (λ d. after_statement P env d S) e ∙ ap Some (sym h)

pub individual_after : (P : Protocol) (env : Environment) (c : Statement) (i : ℕ) (t : Term) (S T : Model.Structure) → c ≡ update_individual i t → T ≡ after_individual S env i t → after_statement P env c S ≡ Some T
individual_after P env c i t S T e h = ap (λ d. after_statement P env d S) e ∙ ap Some (sym h)

-- the same statement
pub runnable_as : (P : Protocol) (sizes : List ℕ) (env : Environment) (c d : Statement) → c ≡ d → IsRunnableStatement P sizes env c → IsRunnableStatement P sizes env d
runnable_as P sizes env c d e h = subst (IsRunnableStatement P sizes env) e h
