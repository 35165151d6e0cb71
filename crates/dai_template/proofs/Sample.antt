-- A protocol of the program that stands for the one of triples is accepted.
use Rattle.std.proofs.Common.{◌≡◌, List, [], map, sym, ap, subst}
use Rattle.dai_model.specs.Profile.{IsAccepted}
use Rattle.dai_model.specs.Triples.{triples}
use Rattle.dai_model.proofs.Triples.{triples_accepted}
use Rattle.dai_logic.specs.Parts.{block_of, sort_of, relation_of, individual_of, action_of, invariant_of, protocol_of_parts, AreAccepted}
use Rattle.dai_logic.specs.Trees.{formula_of}
use Rattle.dai_logic.specs.declared.protocol.Formula.{Formula}
use Rattle.dai_logic.specs.declared.protocol.Block.{Block}
use Rattle.dai_logic.specs.declared.protocol.SortInfo.{SortInfo}
use Rattle.dai_logic.specs.declared.protocol.RelInfo.{RelInfo}
use Rattle.dai_logic.specs.declared.protocol.IndInfo.{IndInfo}
use Rattle.dai_logic.specs.declared.protocol.Action.{Action}
use Rattle.dai_logic.specs.declared.protocol.Invariant.{Invariant}

pub sample_accepted : (sorts : List SortInfo) (relations : List RelInfo) (individuals : List IndInfo) (axioms : List Formula) (init : Block) (actions : List Action) (invariants : List Invariant) → map sort_of sorts ≡ triples.sorts → map relation_of relations ≡ triples.relations → individuals ≡ [] → axioms ≡ [] → block_of init ≡ triples.init → actions ≡ [] → invariants ≡ [] → AreAccepted sorts relations individuals axioms init actions invariants
sample_accepted sorts relations individuals axioms init actions invariants hs hr hi ha hb hc hf =
    let same : triples ≡ protocol_of_parts sorts relations individuals axioms init actions invariants =
    λ i. record {
      sorts = sym hs i;
      relations = sym hr i;
      individuals = ap (map individual_of) (sym hi) i;
      axioms = ap (map formula_of) (sym ha) i;
      init = sym hb i;
      actions = ap (map action_of) (sym hc) i;
      invariants = ap (map invariant_of) (sym hf) i;
    } in
    subst IsAccepted same triples_accepted
