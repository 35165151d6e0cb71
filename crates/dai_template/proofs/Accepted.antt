-- What a protocol's invariant says of its types, relations and individuals.
use Rattle.std.proofs.Common.{◌≡◌, ◌≤◌, ◌<◌, ℕ, length, get_or, arith}
use Rattle.std.specs.List.{All}
use Rattle.std.proofs.lemmas.List.{length-map}
use Rattle.dai_model.specs.Protocol as Model
use Rattle.dai_model.proofs.Folds.{le_from, mapped_at}
use Rattle.dai_logic.specs.Parts.{sort_of, relation_of, individual_of}
use Rattle.dai_logic.specs.Protocols.{protocol_of}
use Rattle.dai_logic.specs.declared.protocol.Protocol.{Protocol}
use Rattle.dai_logic.specs.declared.protocol.RelInfo.{RelInfo}
use Rattle.dai_logic.specs.declared.protocol.IndInfo.{IndInfo}

pub few_sorts : (p : Protocol) → length p.sorts.items ≤ 8
few_sorts p = le_from _ 8 p.accepted (λ a. let k = length-map p.sorts.items sort_of in let few = a.profile.few_sorts in omega (arith, k, few))

pub few_individuals : (p : Protocol) → length p.individuals.items ≤ 16
few_individuals p = le_from _ 16 p.accepted (λ a. let k = length-map p.individuals.items individual_of in let few = a.profile.few_individuals in omega (arith, k, few))

pub few_relations : (p : Protocol) → length p.relations.items ≤ 64
few_relations p = le_from _ 64 p.accepted (λ a. let k = length-map p.relations.items relation_of in let few = a.profile.few_relations in omega (arith, k, few))

pub arguments_inside : (p : Protocol) (i : ℕ) (r : RelInfo) (k d : ℕ) → i < length p.relations.items → r ≡ get_or p.relations.items i r → k < length r.args.items → get_or r.args.items k d < length p.sorts.items
arguments_inside p i r k d below is inside =
    le_from _ _ p.accepted
    (λ h.
    let at = mapped_at (λ (R : Model.Relation). All (λ sort. sort < length (protocol_of p).sorts) R.arguments) relation_of p.relations.items i r h.sorted.relations below is in
    let here = at k d inside in
    let same = length-map p.sorts.items sort_of in
    omega (arith, here, same))

pub few_arguments : (p : Protocol) (i : ℕ) (r : RelInfo) → i < length p.relations.items → r ≡ get_or p.relations.items i r → length r.args.items ≤ 5
few_arguments p i r below is = le_from _ 5 p.accepted (λ h. mapped_at (λ (R : Model.Relation). length R.arguments ≤ 5) relation_of p.relations.items i r h.profile.few_arguments below is)

pub individual_inside : (p : Protocol) (i : ℕ) (x : IndInfo) → i < length p.individuals.items → x ≡ get_or p.individuals.items i x → x.sort < length p.sorts.items
individual_inside p i x below is =
    le_from _ _ p.accepted
    (λ h.
    let here = mapped_at (λ (I : Model.Individual). I.sort < length (protocol_of p).sorts) individual_of p.individuals.items i x h.sorted.individuals below is in
    let same = length-map p.sorts.items sort_of in
    omega (arith, here, same))
