-- A worked example for the tests, with one ordered type, a binary and a unary relation and an individual: a lock
-- is taken, a relation is turned round, an individual moves, and a question is asked.
use Rattle.std.specs.Prelude.{◌≡◌, true, false, [], ◌∷◌, codes}
use Rattle.dai_model.specs.Formula.{variable, individual, parameter, choice, truth, relates, less, universal, existential, requirement, update_relation, update_individual, conditional, no_statements, with_statement}
use Rattle.dai_model.specs.Protocol.{Protocol, Block}
use Rattle.dai_logic.specs.declared.structure.Structure.{Structure}
use Rattle.dai_logic.specs.Tables.{Fits}

-- all are free, and nothing is related
abbrev pub begin : Block
begin = record {
  parameters = [];
  choices = [];
  code = with_statement (update_relation 1 (variable 0 ∷ []) (truth true)) (with_statement (update_relation 0 (variable 0 ∷ variable 1 ∷ []) (truth false)) no_statements);
}

-- asks that the second is free, relates the first to it, and takes it
abbrev pub connect : Block
connect = record {
  parameters = 0 ∷ 0 ∷ [];
  choices = [];
  code = with_statement (requirement (relates 1 (parameter 1 ∷ []))) (with_statement (update_relation 0 (parameter 0 ∷ parameter 1 ∷ []) (truth true)) (with_statement (update_relation 1 (parameter 1 ∷ []) (truth false)) no_statements));
}

abbrev pub turn : Block
turn = record {
  parameters = [];
  choices = [];
  code = with_statement (update_relation 0 (variable 0 ∷ variable 1 ∷ []) (relates 0 (variable 1 ∷ variable 0 ∷ []))) no_statements;
}

-- goes up to the parameter where that is higher, else to the local
abbrev pub go : Block
go = record {
  parameters = 0 ∷ [];
  choices = 0 ∷ [];
  code = with_statement (conditional (less (individual 0) (parameter 0)) (with_statement (update_individual 0 (parameter 0)) no_statements) (with_statement (update_individual 0 (choice 0)) no_statements)) no_statements;
}

-- asks that one is related to all
abbrev pub ask : Block
ask = record {
  parameters = [];
  choices = [];
  code = with_statement (requirement (existential 0 0 (universal 1 0 (relates 0 (variable 0 ∷ variable 1 ∷ []))))) no_statements;
}

abbrev pub sample : Protocol
sample = record {
  sorts = record { name = codes "t"; ordered = true } ∷ [];
  relations = record { name = codes "r"; arguments = 0 ∷ 0 ∷ [] } ∷ record { name = codes "u"; arguments = 0 ∷ [] } ∷ [];
  individuals = record { name = codes "c"; sort = 0 } ∷ [];
  axioms = [];
  init = begin;
  actions = record { name = codes "connect"; block = connect } ∷ record { name = codes "turn"; block = turn } ∷ record { name = codes "go"; block = go } ∷ record { name = codes "ask"; block = ask } ∷ [];
  invariants = [];
}

-- a structure of two elements
pub record IsSampleState (s : Structure) : Type 0 where
  pub two : s.sizes.items ≡ 2 ∷ []
  pub fit : Fits sample s
