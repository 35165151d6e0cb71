use Rattle.std.proofs.Common.{ℕ, List, below_more, refl}
use Rattle.std.specs.List.{Any}
use Rattle.dai_trail.specs.Codes.{AreCodesOf}
use Rattle.dai_trail.specs.Trail.{IsTrueIn}
use Rattle.dai_sat.proofs.model.first_unmet.Goals as goal

pub loop-number-preserved : goal.loop-number-preserved
loop-number-preserved c =
    let Q : ℕ → Type 0 = λ k. (codes : List ℕ) × AreCodesOf c.args.cnf.now k codes × Any (IsTrueIn c.args.trail.now) codes in
    below_more Q c.loop-number.number c.loop-number.invariant (c.clause.result.now, c.clause.ensures, c.if-not-is_met.ensures.0 refl)
