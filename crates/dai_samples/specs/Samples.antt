-- Worked examples for tests: protocols of types and relations alone, in which nothing happens.
use Rattle.std.specs.Prelude.{true, false, List, [], ◌∷◌, codes}
use Rattle.dai_model.specs.Formula.{no_statements}
use Rattle.dai_model.specs.Protocol.{Protocol, Sort, Relation}

abbrev pub plain : List Sort → List Relation → Protocol
plain sorts relations = record {
  sorts = sorts;
  relations = relations;
  individuals = [];
  axioms = [];
  init = record { parameters = []; choices = []; code = no_statements };
  actions = [];
  invariants = [];
}

abbrev pub locks : Protocol
locks = plain
    (record { name = codes "client"; ordered = false } ∷ record { name = codes "server"; ordered = false } ∷ [])
    (record { name = codes "link"; arguments = 0 ∷ 1 ∷ [] } ∷ record { name = codes "semaphore"; arguments = 1 ∷ [] } ∷ [])

abbrev pub steps : Protocol
steps = plain (record { name = codes "n"; ordered = true } ∷ []) (record { name = codes "p"; arguments = 0 ∷ [] } ∷ [])
