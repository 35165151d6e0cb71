use Rattle.std.proofs.Common.{◌≡◌, ◌+◌, ◌*◌, false, get_or, arith, sym, ◌∙◌, ap}
use Rattle.dai_template.proofs.Unbound.{place_of, one_more, all_seen}
use Rattle.dai_template.proofs.meeting.first_unbound.Goals as goal

pub overflow_add-from : goal.overflow_add-from
overflow_add-from c = let here = place_of c.args.vars.now 32 c.loop-var.var-index c.requires.stored c.loop-var-test.true in let a = c.from.ensures in let b = c.from-in-loop-var.ensures in omega (arith, here, a, b)

pub bounds-bound-from : goal.bounds-bound-from
bounds-bound-from c = let here = place_of c.args.vars.now 32 c.loop-var.var-index c.requires.stored c.loop-var-test.true in let a = c.from.ensures in let b = c.from-in-loop-var.ensures in let long = c.requires.long in omega (arith, here, a, b, long)

pub loop-var-preserved : goal.loop-var-preserved
loop-var-preserved c =
    let at : 4 * c.from.result + c.from-in-loop-var.result ≡ 4 * (get_or c.args.vars.now c.loop-var.var-index (0, 0)).0 + (get_or c.args.vars.now c.loop-var.var-index (0, 0)).1 = let a = c.from.ensures in let b = c.from-in-loop-var.ensures in omega (arith, a, b) in
    one_more c.args.vars.now c.args.bound.now c.loop-var.var-index c.loop-var-test.true c.loop-var.invariant (sym (ap (λ k. get_or c.args.bound.now k false) at) ∙ c.if-not-bound-from.false)

pub returns-clause-none : goal.returns-clause-none
returns-clause-none c = λ e. all_seen c.args.vars.now c.args.bound.now c.loop-var.var-index c.loop-var-test.false c.loop-var.invariant
