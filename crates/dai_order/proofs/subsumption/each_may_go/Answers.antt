use Rattle.std.proofs.Common.{sym, ◌∙◌, arith}
use Rattle.dai_order.proofs.Sides.{each_placed, as_many_placed, placed_at, variable_stored}
use Rattle.dai_order.proofs.subsumption.each_may_go.Goals as goal

pub returns-then-vars-images-clause-exact : goal.returns-then-vars-images-clause-exact
returns-then-vars-images-clause-exact c = λ h. absurd (let e = as_many_placed c.args.sort c.args.number c.args.to.now c.args.vars.now c.args.images.now h in let differ = c.if-vars-images.true in let none : ⊥ = omega (arith, e, differ) in none)

pub may_go-requires-clause-stored : goal.may_go-requires-clause-stored
may_go-requires-clause-stored c = variable_stored c.args.vars.now c.loop-place.place c.requires.stored c.loop-place-test.true

pub returns-then-not-may_go-clause-exact : goal.returns-then-not-may_go-clause-exact
returns-then-not-may_go-clause-exact c = λ h. sym c.if-not-may_go.true ∙ c.may_go.ensures.exact (placed_at c.args.sort c.args.number c.args.to.now c.args.vars.now c.args.images.now c.loop-place.place c.loop-place-test.true h)

pub returns-clause-only : goal.returns-clause-only
returns-clause-only c = λ _.
    each_placed c.args.sort c.args.number c.args.to.now c.args.vars.now c.args.images.now (let e = c.if-vars-images.false in omega (arith, e))
    (λ k below. c.loop-place.invariant k (let past = c.loop-place-test.false in omega (arith, below, past)))
