use Rattle.dai_order.proofs.Unrelated.{each_place, one_more_entered, all_entered}
use Rattle.dai_template.specs.Spaces.{IsClauseOf}
use Rattle.dai_order.proofs.antichain.enter_each.Goals as goal

pub enter-requires : goal.enter-requires
enter-requires c = record {
  protocol = c.requires.protocol;
  bounds = c.requires.bounds;
  is = each_place (IsClauseOf c.requires.protocol c.requires.bounds c.args.space.now) c.args.clauses.now c.loop-clause.clause-index c.clause-item.result c.requires.each c.loop-clause-test.true c.clause-item.is;
  forms = (c.loop-clause.invariant c.requires.protocol c.requires.bounds c.requires.each c.requires.forms).forms;
}

pub loop-clause-preserved : goal.loop-clause-preserved
loop-clause-preserved c = λ P B each forms.
    let so_far = c.loop-clause.invariant P B each forms in
    one_more_entered P B c.args.space.now c.args.clauses.now c.args.list.now.items c.loop-clause.list.items c.enter.new.list.items c.loop-clause.clause-index c.clause-item.result c.loop-clause-test.true c.clause-item.is each forms so_far
    (c.in_ok-enter.ensures P B (each_place (IsClauseOf P B c.args.space.now) c.args.clauses.now c.loop-clause.clause-index c.clause-item.result each c.loop-clause-test.true c.clause-item.is) so_far.forms)

pub returns : goal.returns
returns c = λ P B each forms. all_entered P B c.args.space.now c.args.clauses.now c.args.list.now.items c.loop-clause.list.items c.loop-clause.clause-index c.loop-clause-test.false (c.loop-clause.invariant P B each forms)
