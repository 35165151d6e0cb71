-- Worked examples for the tests, and the list of all clauses of a space.
use Rattle.std.specs.Prelude.{true, false, List, [], ◌∷◌, codes}
use Rattle.dai_model.specs.Formula.{no_statements}
use Rattle.dai_model.specs.Protocol.{Protocol, Sort, Relation}
use Rattle.dai_model.specs.Template.{Bounds}
use Rattle.dai_template.specs.declared.clause.Clause.{Clause}
use Rattle.dai_template.specs.declared.space.Space.{Space}
use Rattle.dai_template.specs.Spaces.{IsSpaceOf}
use Rattle.dai_template.specs.Lists.{IsListOfAll}

abbrev pub plain : List Sort → List Relation → Protocol
plain sorts relations = record {
  sorts = sorts;
  relations = relations;
  individuals = [];
  axioms = [];
  init = record { parameters = []; choices = []; code = no_statements };
  actions = [];
  invariants = [];
}

abbrev pub two_flags : Protocol
two_flags = plain [] (record { name = codes "a"; arguments = [] } ∷ record { name = codes "b"; arguments = [] } ∷ [])

abbrev pub locks : Protocol
locks = plain
    (record { name = codes "client"; ordered = false } ∷ record { name = codes "server"; ordered = false } ∷ [])
    (record { name = codes "link"; arguments = 0 ∷ 1 ∷ [] } ∷ record { name = codes "semaphore"; arguments = 1 ∷ [] } ∷ [])

abbrev pub steps : Protocol
steps = plain (record { name = codes "n"; ordered = true } ∷ []) (record { name = codes "p"; arguments = 0 ∷ [] } ∷ [])

pub record AreAll (space : Space) (clauses : List Clause) : Type 0 where
  pub protocol : Protocol
  pub bounds : Bounds
  pub is : IsSpaceOf protocol bounds space
  pub all : IsListOfAll protocol bounds space clauses
