use Rattle.std.proofs.Common.{sym, subst}
use Rattle.dai_trail.specs.Formula.{Formula}
use Rattle.dai_sat.specs.Under.{IsReady}
use Rattle.dai_sat.proofs.Readies.{ready_grow}
use Rattle.dai_sat.proofs.solver.Solver.grow.Goals as goal

pub invariant_of-self : goal.invariant_of-self
invariant_of-self c =
    let P : Formula → Type 0 = λ f. IsReady f c.self.inside.learned c.self.inside.trail c.self.inside.desk.marks c.self.inside.refuted in
    subst P (sym c.grow.ensures.grown) (ready_grow c.self.inside.cnf c.self.inside.learned c.self.inside.trail c.self.inside.desk.marks c.self.inside.refuted c.self.invariant)
