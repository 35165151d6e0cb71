use Rattle.std.proofs.Common.{[], length, ap, arith}
use Rattle.dai_model.specs.Weakening.{IsImmediateWeakening}
use Rattle.dai_template.specs.Spaces.{clause_of}
use Rattle.dai_order.proofs.AllWeakenings.{type_next, all_types, whole_list, many_types}
use Rattle.dai_order.proofs.weakening.weakenings.Goals as goal

pub loop-sort-preserved : goal.loop-sort-preserved
loop-sort-preserved c = λ P B h.
    let so_far = c.loop-sort.invariant P B h in
    type_next P B c.args.space.now (clause_of c.args.space.now c.args.clause.now) c.loop-sort.sort [] c.loop-sort.weaker.items c.add_with_variable.new.list.items so_far (c.in_ok-add_with_variable.ensures P B h so_far.forms)

pub returns-clause-each : goal.returns-clause-each
returns-clause-each c = λ P B h d w.
    let many = many_types P B c.args.space.now c.args.clause.now h in
    let read = ap length c.orders.ensures in
    let past = c.loop-sort-test.false in
    let top = c.loop-sort.auto.sort-end in
    (all_types P B c.args.space.now (clause_of c.args.space.now c.args.clause.now) c.loop-sort.sort [] c.loop-sort.weaker.items h.template (omega (arith, many, read, past, top)) (c.loop-sort.invariant P B h)).gains d w.template w

pub returns-clause-exactly : goal.returns-clause-exactly
returns-clause-exactly c = λ P B h.
    let many = many_types P B c.args.space.now c.args.clause.now h in
    let read = ap length c.orders.ensures in
    let past = c.loop-sort-test.false in
    let top = c.loop-sort.auto.sort-end in
    whole_list P B c.args.space.now (IsImmediateWeakening P B (clause_of c.args.space.now c.args.clause.now)) c.loop-sort.weaker.items
    (all_types P B c.args.space.now (clause_of c.args.space.now c.args.clause.now) c.loop-sort.sort [] c.loop-sort.weaker.items h.template (omega (arith, many, read, past, top)) (c.loop-sort.invariant P B h))
