use Rattle.std.proofs.Common.{arith, ◌<◌, ◌≤◌, ◌-◌, ◌^◌, ℕ, length, ap, sym, ◌∙◌, subst}
use Rattle.dai_sat.specs.Under.{effort}
use Rattle.dai_trail.proofs.Forces.{sound_cut, keeps_none}
use Rattle.dai_sat.proofs.Unders.{restart_falls}
use Rattle.dai_sat.proofs.pace.rest.Goals as goal

pub let_go-requires : goal.let_go-requires
let_go-requires c = sound_cut c.args.cnf.now c.args.learned.now c.args.trail.now c.restart.new.self c.restart.new.self.len c.requires.sound c.restart.ensures.trail c.restart.ensures.cuts c.restart.ensures.within

pub returns-clause-kept : goal.returns-clause-kept
returns-clause-kept c =
    let f = c.in_ok-let_go.ensures.forgets in
    keeps_none c.args.trail.now c.let_go.new.trail
    (λ i l is. let l' : i < c.restart.new.self.len = omega (arith, f.len) in c.restart.ensures.none i l' (f.decisions i l' is))
    (ap length f.values ∙ c.restart.ensures.cuts.room)

pub returns-clause-effort : goal.returns-clause-effort
returns-clause-effort c =
    let P : ℕ → Type 0 = λ r. effort r c.let_go.new.trail ≤ effort c.args.pace.now.restarts c.args.trail.now in
    let l : c.args.pace.now.restarts < 2 ^ 64 - 1 = omega arith in
    subst P (sym c.next_span.ensures) (restart_falls c.args.pace.now.restarts c.args.trail.now c.let_go.new.trail l c.in_ok-let_go.ensures.sound.trail (ap length c.in_ok-let_go.ensures.forgets.values ∙ c.restart.ensures.cuts.room))
