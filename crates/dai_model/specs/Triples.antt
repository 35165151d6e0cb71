-- A worked example: one type and one relation of triples over it. With four variables and one literal it is just
-- within the limit on atoms.
use Rattle.std.specs.Prelude.{false, [], ◌∷◌, codes}
use Rattle.dai_model.specs.Formula.{no_statements}
use Rattle.dai_model.specs.Protocol.{Protocol}
use Rattle.dai_model.specs.Template.{Bounds}

abbrev pub triples : Protocol
triples = record {
  sorts = record { name = codes "t"; ordered = false } ∷ [];
  relations = record { name = codes "r"; arguments = 0 ∷ 0 ∷ 0 ∷ [] } ∷ [];
  individuals = [];
  axioms = [];
  init = record { parameters = []; choices = []; code = no_statements };
  actions = [];
  invariants = [];
}

abbrev pub four_variables : Bounds
four_variables = record { variables = 4 ∷ []; literals = 1 }
