use Rattle.dai_order.proofs.Unrelated.{each_place, one_more_form}
use Rattle.dai_template.specs.Spaces.{IsClauseOf}
use Rattle.dai_order.proofs.antichain.canonical_forms.Goals as goal

pub loop-clause-preserved : goal.loop-clause-preserved
loop-clause-preserved c = λ P B are.
    let so_far = c.loop-clause.invariant P B are in
    one_more_form P B c.args.space.now c.args.clauses.now c.loop-clause.forms.items c.add_form.new.list.items c.loop-clause.clause-index c.clause-item.result c.loop-clause-test.true c.clause-item.is are.each so_far
    (c.in_ok-add_form.ensures P B (each_place (IsClauseOf P B c.args.space.now) c.args.clauses.now c.loop-clause.clause-index c.clause-item.result are.each c.loop-clause-test.true c.clause-item.is) so_far.are)
