-- What one more declaration adds to the parts of a protocol.
use Rattle.std.specs.Prelude.{◌≡◌, ℕ, ◌+◌, List, [], ◌++◌, map, length}
use Rattle.std.specs.List.{AllZip, filter, cons_option, enumerate_from}
use Rattle.dai_model.specs.Formula as Model
use Rattle.dai_model.specs.Protocol.{Protocol, Action, Invariant}
use Rattle.dai_syntax.specs.Tree.{Declaration}
use Rattle.dai_sorts.specs.Scopes.{binder_type}
use Rattle.dai_sorts.specs.Statements.{joined}
use Rattle.dai_sorts.specs.Protocols.{declared_type, declared_relation, declared_individual, axiom_in, init_in, action_in, invariant_in, is_exported, init_locals, IsAxiom, IsAction, IsInvariant, Initiate}

-- the declaration `d` at this place of the file `all`
pub record Gains (all : List Declaration) (here : ℕ) (d : Declaration) (old new : Protocol) : Type 0 where
  pub sorts : new.sorts ≡ old.sorts ++ cons_option (declared_type d) []
  pub relations : new.relations ≡ old.relations ++ cons_option (declared_relation all d) []
  pub individuals : new.individuals ≡ old.individuals ++ cons_option (declared_individual all d) []
  pub axioms : (gs : List Model.Formula) × (new.axioms ≡ old.axioms ++ gs) × AllZip (IsAxiom all) (cons_option (axiom_in (here, d)) []) gs
  pub no_parameters : new.init.parameters ≡ old.init.parameters
  pub locals : new.init.choices ≡ old.init.choices ++ map (binder_type all) (init_locals (cons_option (init_in (here, d)) []))
  pub code : (cs : Model.Statements) × (new.init.code ≡ joined old.init.code cs) × Initiate all (length old.init.choices) (cons_option (init_in (here, d)) []) cs
  pub actions : (more : List Action) × (new.actions ≡ old.actions ++ more) × AllZip (IsAction all) (filter (is_exported all) (cons_option (action_in (here, d)) [])) more
  pub invariants : (fs : List Invariant) × (new.invariants ≡ old.invariants ++ fs) × AllZip (IsInvariant all) (enumerate_from (1 + length old.invariants) (cons_option (invariant_in (here, d)) [])) fs
