use Rattle.std.proofs.Common.{◌^◌, ap, arith}
use Rattle.dai_model.proofs.Folds.{size_power}
use Rattle.dai_query.proofs.limits.ways.Goals as goal

pub pow-requires : goal.pow-requires
pow-requires c = let below = size_power c.args.size c.args.count 12 (omega arith) c.requires in let same = ap (λ n. n ^ c.args.count) c.from.ensures in omega (arith, below, same)

pub returns-clause-fits : goal.returns-clause-fits
returns-clause-fits c = let below = size_power c.args.size c.args.count 12 (omega arith) c.requires in let is = c.pow.ensures in let same = ap (λ n. n ^ c.args.count) c.from.ensures in omega (arith, below, is, same)
