-- The protocol of the model that the parts of the program's one stand for. It names no `Protocol`, so that the
-- type can cite it.
use Rattle.std.specs.Prelude.{List, map}
use Rattle.dai_model.specs.Protocol as Model
use Rattle.dai_model.specs.Profile.{IsAccepted}
use Rattle.dai_logic.specs.declared.protocol.Block.{Block}
use Rattle.dai_logic.specs.declared.protocol.SortInfo.{SortInfo}
use Rattle.dai_logic.specs.declared.protocol.RelInfo.{RelInfo}
use Rattle.dai_logic.specs.declared.protocol.IndInfo.{IndInfo}
use Rattle.dai_logic.specs.declared.protocol.Action.{Action}
use Rattle.dai_logic.specs.declared.protocol.Invariant.{Invariant}
use Rattle.dai_logic.specs.declared.protocol.Formula.{Formula}
use Rattle.dai_logic.specs.Trees.{formula_of, statements_of}

abbrev pub block_of : Block → Model.Block
block_of b = record { parameters = b.params.items; choices = b.locals.items; code = statements_of b.code.items }

abbrev pub sort_of : SortInfo → Model.Sort
sort_of s = record { name = s.name; ordered = s.ordered }

abbrev pub relation_of : RelInfo → Model.Relation
relation_of r = record { name = r.name; arguments = r.args.items }

abbrev pub individual_of : IndInfo → Model.Individual
individual_of i = record { name = i.name; sort = i.sort }

abbrev pub action_of : Action → Model.Action
action_of a = record { name = a.name; block = block_of a.block }

abbrev pub invariant_of : Invariant → Model.Invariant
invariant_of f = record { label = f.label; body = formula_of f.body }

abbrev pub protocol_of_parts : List SortInfo → List RelInfo → List IndInfo → List Formula → Block → List Action → List Invariant → Model.Protocol
protocol_of_parts sorts relations individuals axioms init actions invariants = record {
  sorts = map sort_of sorts;
  relations = map relation_of relations;
  individuals = map individual_of individuals;
  axioms = map formula_of axioms;
  init = block_of init;
  actions = map action_of actions;
  invariants = map invariant_of invariants;
}

-- the parts make a protocol that is well-sorted and in the profile
abbrev pub AreAccepted : List SortInfo → List RelInfo → List IndInfo → List Formula → Block → List Action → List Invariant → Type 0
AreAccepted sorts relations individuals axioms init actions invariants = IsAccepted (protocol_of_parts sorts relations individuals axioms init actions invariants)
