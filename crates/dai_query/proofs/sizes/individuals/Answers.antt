use Rattle.std.proofs.Common.{◌≤◌, ◌∙◌, ap, sym, subst, arith, length, List}
use Rattle.std.specs.Prelude.{nat_eq, count_by}
use Rattle.dai_model.specs.Protocol as Model
use Rattle.dai_logic.specs.Parts.{individual_of}
use Rattle.dai_logic.specs.declared.protocol.IndInfo.{IndInfo}
use Rattle.dai_query.proofs.Profile.{few_individuals}
use Rattle.dai_query.proofs.Most.{count_by-map}
use Rattle.dai_query.proofs.sizes.individuals.Goals as goal

pub returns-clause-count : goal.returns-clause-count
returns-clause-count c =
    c.individuals_of.ensures.count ∙ (ap (count_by (λ (i : IndInfo). nat_eq i.sort c.args.sort)) c.deref.ensures.value ∙ sym (count_by-map (λ (I : Model.Individual). nat_eq I.sort c.args.sort) individual_of c.args.protocol.now.individuals.items))

pub returns-clause-few : goal.returns-clause-few
returns-clause-few c =
    let few = few_individuals c.args.protocol.now in
    let most = subst (λ (xs : List IndInfo). c.individuals_of.result ≤ length xs) c.deref.ensures.value c.individuals_of.ensures.few in
    omega (arith, few, most)
