-- What a protocol's invariant says of its parts.
use Rattle.std.proofs.Common.{◌≡◌, ◌≤◌, ◌<◌, ℕ, length, get_or, ap, arith}
use Rattle.std.specs.Prelude.{true, false}
use Rattle.std.specs.List.{All}
use Rattle.std.proofs.lemmas.List.{length-map}
use Rattle.std.proofs.Math.Logic.{∥∥₁_elim, ∥∥₁_map}
use native.Mathlib.Nat.{ℕ_set}
use Rattle.dai_model.specs.Protocol as Model
use Rattle.dai_model.specs.Formula.{Formula}
use Rattle.dai_model.specs.Profile.{IsBlockInProfile, IsUniversalSentence, IsAccepted, witnesses, witnesses_in, requirements_in}
use Rattle.dai_model.specs.Sizes.{count_of, bound_sorts}
use Rattle.dai_logic.specs.Parts.{block_of, sort_of, relation_of, individual_of, action_of, invariant_of}
use Rattle.dai_logic.specs.Protocols.{protocol_of}
use Rattle.dai_logic.specs.Trees.{statements_of}
use Rattle.dai_logic.specs.declared.protocol.Protocol.{Protocol}
use Rattle.dai_logic.specs.declared.protocol.RelInfo.{RelInfo}
use Rattle.dai_logic.specs.declared.protocol.IndInfo.{IndInfo}
use Rattle.dai_logic.specs.declared.protocol.Action.{Action}
use Rattle.dai_logic.specs.declared.protocol.Invariant.{Invariant}
use Rattle.dai_model.proofs.Folds.{le_from, mapped_at}
use Rattle.dai_query.proofs.Universal.{all_universal, bound_sorts-length}

pub few_individuals : (p : Protocol) → length p.individuals.items ≤ 16
few_individuals p = le_from _ 16 p.accepted (λ a. let k = length-map p.individuals.items individual_of in let few = a.profile.few_individuals in omega (arith, k, few))

pub few_relations : (p : Protocol) → length p.relations.items ≤ 64
few_relations p = le_from _ 64 p.accepted (λ a. let k = length-map p.relations.items relation_of in let few = a.profile.few_relations in omega (arith, k, few))

pub few_actions : (p : Protocol) → length p.actions.items ≤ 64
few_actions p = le_from _ 64 p.accepted (λ a. let k = length-map p.actions.items action_of in let few = a.profile.few_actions in omega (arith, k, few))

pub init_parameters : (p : Protocol) → length p.init.params.items ≤ 6
init_parameters p = le_from _ 6 p.accepted (λ a. a.profile.init.few_parameters)

pub init_choices : (p : Protocol) → length p.init.locals.items ≤ 6
init_choices p = le_from _ 6 p.accepted (λ a. a.profile.init.few_choices)

pub init_witnesses : (p : Protocol) → length (witnesses_in (requirements_in (statements_of p.init.code.items))) ≤ 16
init_witnesses p = le_from _ 16 p.accepted (λ a. a.profile.init.few_witnesses)

pub action_in_profile : (p : Protocol) (i : ℕ) (a : Action) → i < length p.actions.items → a ≡ get_or p.actions.items i a → IsAccepted (protocol_of p) → IsBlockInProfile (block_of a.block)
action_in_profile p i a below is h = mapped_at (λ (b : Model.Action). IsBlockInProfile b.block) action_of p.actions.items i a h.profile.actions below is

pub action_parameters : (p : Protocol) (i : ℕ) (a : Action) → i < length p.actions.items → a ≡ get_or p.actions.items i a → length a.block.params.items ≤ 6
action_parameters p i a below is = le_from _ 6 p.accepted (λ h. (action_in_profile p i a below is h).few_parameters)

pub action_choices : (p : Protocol) (i : ℕ) (a : Action) → i < length p.actions.items → a ≡ get_or p.actions.items i a → length a.block.locals.items ≤ 6
action_choices p i a below is = le_from _ 6 p.accepted (λ h. (action_in_profile p i a below is h).few_choices)

pub action_witnesses : (p : Protocol) (i : ℕ) (a : Action) → i < length p.actions.items → a ≡ get_or p.actions.items i a → length (witnesses_in (requirements_in (statements_of a.block.code.items))) ≤ 16
action_witnesses p i a below is = le_from _ 16 p.accepted (λ h. (action_in_profile p i a below is h).few_witnesses)

pub invariant_universal : (p : Protocol) (i : ℕ) (f : Invariant) → i < length p.invariants.items → f ≡ get_or p.invariants.items i f → ∥ IsUniversalSentence (invariant_of f).body ∥₁
invariant_universal p i f below is = ∥∥₁_map p.accepted (λ h. mapped_at (λ (g : Model.Invariant). IsUniversalSentence g.body) invariant_of p.invariants.items i f h.profile.invariants below is)

pub universal_few : (f : Formula) → ∥ IsUniversalSentence f ∥₁ → length (witnesses false f) ≤ 12
universal_few f h = le_from _ 12 h (λ u. let e = ap length (all_universal true f u.force) in let k = bound_sorts-length f in let few = u.binds.few in omega (arith, e, k, few))

pub universal_count : (sort : ℕ) (f : Formula) → ∥ IsUniversalSentence f ∥₁ → count_of sort (witnesses false f) ≡ count_of sort (bound_sorts f)
universal_count sort f h = ∥∥₁_elim h (ℕ_set _ _) (λ u. ap (count_of sort) (all_universal true f u.force))

-- the type of a relation's argument, and of an individual, is declared
pub arguments_inside : (p : Protocol) (i : ℕ) (r : RelInfo) (k d : ℕ) → i < length p.relations.items → r ≡ get_or p.relations.items i r → k < length r.args.items → get_or r.args.items k d < length p.sorts.items
arguments_inside p i r k d below is inside =
    le_from _ _ p.accepted
    (λ h.
    let at = mapped_at (λ (R : Model.Relation). All (λ sort. sort < length (protocol_of p).sorts) R.arguments) relation_of p.relations.items i r h.sorted.relations below is in
    let here = at k d inside in
    let same = length-map p.sorts.items sort_of in
    omega (arith, here, same))

pub few_arguments : (p : Protocol) (i : ℕ) (r : RelInfo) → i < length p.relations.items → r ≡ get_or p.relations.items i r → length r.args.items ≤ 5
few_arguments p i r below is = le_from _ 5 p.accepted (λ h. mapped_at (λ (R : Model.Relation). length R.arguments ≤ 5) relation_of p.relations.items i r h.profile.few_arguments below is)

pub individual_inside : (p : Protocol) (i : ℕ) (x : IndInfo) → i < length p.individuals.items → x ≡ get_or p.individuals.items i x → x.sort < length p.sorts.items
individual_inside p i x below is =
    le_from _ _ p.accepted
    (λ h.
    let here = mapped_at (λ (I : Model.Individual). I.sort < length (protocol_of p).sorts) individual_of p.individuals.items i x h.sorted.individuals below is in
    let same = length-map p.sorts.items sort_of in
    omega (arith, here, same))
