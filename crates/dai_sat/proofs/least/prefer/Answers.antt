use Rattle.std.proofs.Common.{arith, ◌<◌}
use Rattle.dai_trail.specs.declared.trail.TheConstants.{DECISION}
use Rattle.dai_trail.proofs.Forces.{enters_points}
use Rattle.dai_sat.proofs.Decisions.{code_var, code_free, decide_guided, ordered_points}
use Rattle.dai_sat.proofs.least.prefer.Goals as goal

pub returns-clause-guided : goal.returns-clause-guided
returns-clause-guided g c =
    decide_guided _ c.args.trail.now c.decide.new.trail c.code_of-code.result DECISION c.args.var c.prefers.result c.requires.guided c.requires.sound.trail.mirror
    (code_free c.args.trail.now c.code_of-code.result c.args.var c.prefers.result c.code_of-code.ensures c.requires.within c.requires.free)
    c.in_ok-decide.ensures.enters c.code_of-code.ensures c.prefers.ensures

pub returns-clause-ordered : goal.returns-clause-ordered
returns-clause-ordered g c =
    ordered_points c.args.trail.now c.decide.new.trail c.code_of-code.result DECISION c.requires.sound.trail.mirror
    (enters_points c.args.trail.now c.decide.new.trail c.code_of-code.result DECISION c.requires.sound.trail.mirror
    (code_free c.args.trail.now c.code_of-code.result c.args.var c.prefers.result c.code_of-code.ensures c.requires.within c.requires.free) c.in_ok-decide.ensures.enters)
    c.requires.ordered
    (λ u l. let v = code_var c.code_of-code.result c.args.var c.prefers.result c.code_of-code.ensures in let l' : u < c.args.var = omega arith in c.requires.first u l')
