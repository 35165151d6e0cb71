use Rattle.dai_sat.proofs.Readies.{ready_add}
use Rattle.dai_sat.proofs.solver.Solver.add.Goals as goal

pub invariant_of-self : goal.invariant_of-self
invariant_of-self c = ready_add c.self.inside.cnf c.add.new.self c.self.inside.learned c.self.inside.trail c.self.inside.desk.marks c.self.inside.refuted c.args.lits.now c.add.result c.add.ensures.ok c.add.ensures.err c.self.invariant
