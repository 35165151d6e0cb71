use Rattle.dai_base.proofs.Counts.{count_listing}
use Rattle.dai_base.specs.FaultPlan.{listed_of}
use Rattle.std.proofs.Common.{arith}
use Rattle.std.proofs.lemmas.Grind.{common_steps}
use Rattle.dai_base.proofs.fault_plan.FaultPlan.list.Goals as goal

-- only a number that is still to come was listed
pub returns-in_ok-insert-clause-faults : goal.returns-in_ok-insert-clause-faults
returns-in_ok-insert-clause-faults c =
    count_listing c.args.self.now.calls (listed_of c.args.self.now) (listed_of (record { listed = c.insert.new.self; calls = c.args.self.now.calls })) c.args.call c.args.taken
    (record {
      listed = grind (arith, common_steps);
      made = grind (arith, common_steps);
      others = λ other apart. grind (arith, common_steps);
    })
