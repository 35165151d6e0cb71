-- What a block leaves. A new relation is the set of the tuples that meet a condition on the old structure;
-- nothing is changed in place. There is no structure after exactly where a requirement that is executed is
-- false (after Ivy; that a false requirement bars the step is this project's own).
use Rattle.std.specs.Prelude.{ℕ, ◌&&◌, Bool, true, List, [], ◌∷◌, Option, Some, None, nat_eq, if◌then◌else◌}
use Rattle.std.specs.Option.{option_and_then}
use Rattle.dai_model.specs.Formula.{Term, variable, individual, parameter, choice, Formula, Statement, requirement, update_relation, update_individual, conditional, Statements, no_statements, with_statement}
use Rattle.dai_model.specs.Protocol.{Protocol, Block}
use Rattle.dai_model.specs.Structure.{Structure, is_tuple_of}
use Rattle.dai_model.specs.Value.{Environment, environment_of, bind, value_of, value_of_term}

-- each term of the target that is no variable has its value at its place of the tuple
abbrev pub matches : Structure → Environment → List Term → List ℕ → Bool
matches s env [] es = true
matches s env (t ∷ ts) [] = true
matches s env (variable v ∷ ts) (e ∷ es) = matches s env ts es
matches s env (individual i ∷ ts) (e ∷ es) = nat_eq e (value_of_term s env (individual i)) && matches s env ts es
matches s env (parameter p ∷ ts) (e ∷ es) = nat_eq e (value_of_term s env (parameter p)) && matches s env ts es
matches s env (choice c ∷ ts) (e ∷ es) = nat_eq e (value_of_term s env (choice c)) && matches s env ts es

-- each variable of the target stands for the element at its place of the tuple
abbrev pub bind_target : Environment → List Term → List ℕ → Environment
bind_target env [] es = env
bind_target env (t ∷ ts) [] = env
bind_target env (variable v ∷ ts) (e ∷ es) = bind_target (bind env v e) ts es
bind_target env (individual i ∷ ts) (e ∷ es) = bind_target env ts es
bind_target env (parameter p ∷ ts) (e ∷ es) = bind_target env ts es
bind_target env (choice c ∷ ts) (e ∷ es) = bind_target env ts es

-- whether the update of the relation r at this target reaches the tuple
abbrev pub is_reached : Protocol → Structure → Environment → ℕ → List Term → ℕ → List ℕ → Bool
is_reached P s env r target q es = nat_eq q r && (is_tuple_of P s.sizes q es && matches s env target es)

abbrev pub after_relation : Protocol → Structure → Environment → ℕ → List Term → Formula → Structure
after_relation P s env r target f =
    record s { holds = λ q es. if is_reached P s env r target q es then value_of s (bind_target env target es) f else s.holds q es }

abbrev pub after_individual : Structure → Environment → ℕ → Term → Structure
after_individual s env i t = record s { element = λ j. if nat_eq j i then value_of_term s env t else s.element j }

abbrev mutual
  pub after_statement : Protocol → Environment → Statement → Structure → Option Structure
  after_statement P env (requirement f) s = if value_of s env f then Some s else None
  after_statement P env (update_relation r target f) s = Some (after_relation P s env r target f)
  after_statement P env (update_individual i t) s = Some (after_individual s env i t)
  after_statement P env (conditional f first second) s = if value_of s env f then after_statements P env first s else after_statements P env second s

  pub after_statements : Protocol → Environment → Statements → Structure → Option Structure
  after_statements P env no_statements s = Some s
  after_statements P env (with_statement c cs) s = option_and_then (after_statements P env cs) (after_statement P env c s)

-- the structure that the block leaves with these arguments and choices, if every executed requirement is true
abbrev pub executes : Protocol → Block → Structure → List ℕ → List ℕ → Option Structure
executes P block s arguments choices = after_statements P (environment_of arguments choices) block.code s
