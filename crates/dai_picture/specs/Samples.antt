-- A protocol for tests: two types, a relation between them and an individual of the second. Nothing happens in it.
use Rattle.std.specs.Prelude.{false, [], ◌∷◌, codes}
use Rattle.dai_model.specs.Formula.{no_statements}
use Rattle.dai_model.specs.Protocol.{Protocol}

abbrev pub pairs : Protocol
pairs = record {
  sorts = record { name = codes "a"; ordered = false } ∷ record { name = codes "b"; ordered = false } ∷ [];
  relations = record { name = codes "r"; arguments = 0 ∷ 1 ∷ [] } ∷ [];
  individuals = record { name = codes "c"; sort = 1 } ∷ [];
  axioms = [];
  init = record { parameters = []; choices = []; code = no_statements };
  actions = [];
  invariants = [];
}
