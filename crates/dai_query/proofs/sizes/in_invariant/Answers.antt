use Rattle.std.proofs.Common.{◌∙◌, arith, false}
use Rattle.dai_model.specs.Profile.{witnesses}
use Rattle.dai_logic.specs.Trees.{formula_of}
use Rattle.dai_query.proofs.Counting.{count_of-le}
use Rattle.dai_query.proofs.Profile.{universal_few, universal_count}
use Rattle.dai_query.proofs.sizes.in_invariant.Goals as goal

pub in_formula-requires : goal.in_formula-requires
in_formula-requires c = let few = universal_few (formula_of c.args.invariant.now.body) c.requires in omega (arith, few)

pub returns-clause-count : goal.returns-clause-count
returns-clause-count c = c.in_formula.ensures ∙ universal_count c.args.sort (formula_of c.args.invariant.now.body) c.requires

pub returns-clause-few : goal.returns-clause-few
returns-clause-few c =
    let few = universal_few (formula_of c.args.invariant.now.body) c.requires in
    let most = count_of-le c.args.sort (witnesses false (formula_of c.args.invariant.now.body)) in
    let is = c.in_formula.ensures in
    omega (arith, few, most, is)
