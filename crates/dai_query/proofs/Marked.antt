-- The worked example of marks is a protocol in the profile, and its goals are claims.
use Rattle.std.proofs.Common.{◌≡◌, ◌<◌, ◌≤◌, ℕ, List, [], ◌∷◌, Some, length, map, refl, sym, ap, subst, arith}
use Rattle.std.specs.Prelude.{slice_get}
use Rattle.std.specs.List.{All, IsDistinct}
use Rattle.std.proofs.lemmas.List.{length-map}
use Rattle.std.proofs.lemmas.List.Elements.{All-nil, All-cons}
use Rattle.dai_model.specs.Formula.{Formula}
use Rattle.dai_model.specs.Protocol.{Protocol, Relation, Action}
use Rattle.dai_model.specs.WellSorted.{IsProtocol, IsWellSortedBlock, SparesAxioms}
use Rattle.dai_model.specs.Profile.{IsAccepted, BindsOnce, IsBlockInProfile}
use Rattle.dai_model.specs.Sizes.{needed_for_block}
use Rattle.dai_cut.specs.Small.{AreEnough, IsUniversalClaim, bound_counts}
use Rattle.dai_logic.specs.declared.protocol.Formula.{Formula as Tree}
use Rattle.dai_logic.specs.declared.protocol.Block.{Block}
use Rattle.dai_logic.specs.declared.protocol.SortInfo.{SortInfo}
use Rattle.dai_logic.specs.declared.protocol.RelInfo.{RelInfo}
use Rattle.dai_logic.specs.declared.protocol.IndInfo.{IndInfo}
use Rattle.dai_logic.specs.declared.protocol.Action.{Action as Exported}
use Rattle.dai_logic.specs.declared.protocol.Invariant.{Invariant}
use Rattle.dai_logic.specs.Parts.{block_of, sort_of, relation_of, individual_of, action_of, invariant_of, protocol_of_parts, AreAccepted}
use Rattle.dai_logic.specs.declared.protocol.Protocol.{Protocol as Built}
use Rattle.dai_logic.specs.Protocols.{protocol_of}
use Rattle.dai_logic.specs.Trees.{formula_of}
use Rattle.dai_query.specs.Marks.{first_mark, second_mark, look, marks, all_but_one, one_of_two}

bound_none : BindsOnce []
unfolding IsDistinct
bound_none = record { once = tt; few = omega arith }

marks_is_protocol : IsProtocol marks
marks_is_protocol = record {
  relations = All-cons (λ (R : Relation). All (λ sort. sort < 2) R.arguments) first_mark (second_mark ∷ [])
      (All-cons (λ sort. sort < 2) 0 [] (omega arith) (All-nil (λ sort. sort < 2)))
      (All-cons (λ (R : Relation). All (λ sort. sort < 2) R.arguments) second_mark [] (All-cons (λ sort. sort < 2) 1 [] (omega arith) (All-nil (λ sort. sort < 2))) (All-nil (λ (R : Relation). All (λ sort. sort < 2) R.arguments)));
  individuals = All-nil _;
  axioms = All-nil _;
  init = record { parameters = All-nil _; choices = All-nil _; code = tt };
  no_arguments = refl;
  actions = All-cons (λ (a : Action). IsWellSortedBlock marks a.block) look []
      (record {
        parameters = All-cons (λ sort. sort < 2) 0 (1 ∷ []) (omega arith) (All-cons (λ sort. sort < 2) 1 [] (omega arith) (All-nil (λ sort. sort < 2)));
        choices = All-nil _;
        code = ((first_mark, refl, refl), ((second_mark, refl, refl), tt));
      })
      (All-nil (λ (a : Action). IsWellSortedBlock marks a.block));
  invariants = All-nil _;
  init_spares = λ x. All-nil _;
  actions_spare = All-cons (λ (a : Action). SparesAxioms marks a.block) look [] (λ x. All-nil _) (All-nil (λ (a : Action). SparesAxioms marks a.block));
}

pub marks_accepted : IsAccepted marks
unfolding IsDistinct
marks_accepted = record {
  sorted = marks_is_protocol;
  profile = record {
    named_apart = ((refl, (refl, (refl, (refl, tt)))), ((refl, (refl, (refl, tt))), ((refl, (refl, tt)), ((refl, tt), (tt, tt)))));
    few_sorts = omega arith;
    few_relations = omega arith;
    few_arguments = All-cons (λ (R : Relation). length R.arguments ≤ 5) first_mark (second_mark ∷ []) (omega arith) (All-cons (λ (R : Relation). length R.arguments ≤ 5) second_mark [] (omega arith) (All-nil (λ (R : Relation). length R.arguments ≤ 5)));
    few_individuals = omega arith;
    few_axioms = omega arith;
    axioms = All-nil _;
    init = record { direct = tt; few_parameters = omega arith; few_choices = omega arith; few_witnesses = omega arith };
    few_actions = omega arith;
    actions = All-cons (λ (a : Action). IsBlockInProfile a.block) look []
        (record { direct = (record { force = refl; binds = bound_none }, (record { force = refl; binds = bound_none }, tt)); few_parameters = omega arith; few_choices = omega arith; few_witnesses = omega arith })
        (All-nil (λ (a : Action). IsBlockInProfile a.block));
    few_invariants = omega arith;
    invariants = All-nil _;
  };
}

pub all_but_one_claim : IsUniversalClaim marks all_but_one
all_but_one_claim = record { closed = (omega arith, (omega arith, ((0, refl, refl), ((first_mark, refl, refl), ((first_mark, refl, refl), tt))))); universal = refl }

pub one_of_two_claim : IsUniversalClaim marks one_of_two
one_of_two_claim = record { closed = (omega arith, (omega arith, ((first_mark, refl, refl), ((second_mark, refl, refl), tt)))); universal = refl }

pub enough_for_one : AreEnough marks (needed_for_block marks look.block (bound_counts marks all_but_one)) (3 ∷ 1 ∷ [])
enough_for_one = (omega arith, (omega arith, tt))

pub enough_for_two : AreEnough marks (needed_for_block marks look.block (bound_counts marks one_of_two)) (2 ∷ 2 ∷ [])
enough_for_two = (omega arith, (omega arith, tt))

-- what the program builds
pub marks_stand : (sorts : List SortInfo) (relations : List RelInfo) (individuals : List IndInfo) (axioms : List Tree) (init : Block) (actions : List Exported) (invariants : List Invariant) → map sort_of sorts ≡ marks.sorts → map relation_of relations ≡ marks.relations → individuals ≡ [] → axioms ≡ [] → block_of init ≡ marks.init → map action_of actions ≡ marks.actions → invariants ≡ [] → AreAccepted sorts relations individuals axioms init actions invariants
marks_stand sorts relations individuals axioms init actions invariants hs hr hi ha hb hc hf =
    let same : marks ≡ protocol_of_parts sorts relations individuals axioms init actions invariants =
    λ i. record {
      sorts = sym hs i;
      relations = sym hr i;
      individuals = ap (map individual_of) (sym hi) i;
      axioms = ap (map formula_of) (sym ha) i;
      init = sym hb i;
      actions = sym hc i;
      invariants = ap (map invariant_of) (sym hf) i;
    } in
    subst IsAccepted same marks_accepted

same_action : (a b : Action) → Some a ≡ Some b → a ≡ b
same_action a b h = cc

pub enough_to_look : (P : Protocol) (f : Formula) (sizes : List ℕ) → P ≡ marks → AreEnough marks (needed_for_block marks look.block (bound_counts marks f)) sizes → (exported : Action) → slice_get P.actions 0 ≡ Some exported → AreEnough P (needed_for_block P exported.block (bound_counts P f)) sizes
enough_to_look P f sizes e enough =
    subst (λ (Q : Protocol). (exported : Action) → slice_get Q.actions 0 ≡ Some exported → AreEnough Q (needed_for_block Q exported.block (bound_counts Q f)) sizes) (sym e)
    (λ exported is. subst (λ (a : Action). AreEnough marks (needed_for_block marks a.block (bound_counts marks f)) sizes) (same_action look exported is) enough)

pub two_types : (p : Built) → protocol_of p ≡ marks → length p.sorts.items ≡ 2
two_types p e =
    let all = length-map p.sorts.items sort_of in
    let two = ap (λ (P : Protocol). length P.sorts) e in
    omega (arith, all, two)
