use Rattle.std.proofs.Common.{arith, length, ap}
use Rattle.dai_trail.proofs.Gathers.{names_refute}
use Rattle.dai_trail.proofs.analysis.resolve.Goals as goal

pub returns-in-None-clause-left : goal.returns-in-None-clause-left
returns-in-None-clause-left c =
    let i = c.loop-place.invariant in
    λ bits model. names_refute c.args.cnf.now c.args.trail.now c.loop-place.marks i.marks.refute c.in-None.ensures bits model (λ k kl. absurd (omega (arith, ap length i.unnamed)))
