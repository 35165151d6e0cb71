use Rattle.std.proofs.Common.{arith}
use Rattle.dai_base.specs.FaultPlan.{listed_of}
use Rattle.dai_base.proofs.Counts.{count_bound}
use Rattle.dai_base.proofs.fault_plan.FaultPlan.next.Goals as goal

pub returns-in_default-clause-bounded : goal.returns-in_default-clause-bounded
returns-in_default-clause-bounded c =
    let below = count_bound (listed_of c.args.self.now) c.saturating_add-self.result in
    let last = c.saturating_add-self.ensures in
    omega (arith, below, last)

pub returns-clause-bounded : goal.returns-clause-bounded
returns-clause-bounded c =
    let below = count_bound (listed_of c.args.self.now) c.saturating_add-self.result in
    let last = c.saturating_add-self.ensures in
    omega (arith, below, last)
