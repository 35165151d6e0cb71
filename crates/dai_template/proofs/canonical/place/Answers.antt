use Rattle.std.proofs.Common.{◌+◌, ◌*◌, get_or, map, ap, ◌∙◌, refl, arith}
use Rattle.dai_logic.specs.Tables.{tuple_place}
use Rattle.dai_template.specs.Atoms.{variable_of}
use Rattle.dai_template.specs.Meeting.{element_in, sorts_of}
use Rattle.dai_template.proofs.Places.{step, arrived, read_on}
use Rattle.dai_template.proofs.canonical.place.Goals as goal

pub bounds-counts-from : goal.bounds-counts-from
bounds-counts-from c = let here = (step c.args.counts.now c.args.to.now c.args.vars.now c.loop-var.var-index c.loop-var.place c.requires c.loop-var-test.true c.loop-var.invariant).known in let same = c.from.ensures in omega (arith, here, same)

pub overflow_add-number : goal.overflow_add-number
overflow_add-number c = let here = (step c.args.counts.now c.args.to.now c.args.vars.now c.loop-var.var-index c.loop-var.place c.requires c.loop-var-test.true c.loop-var.invariant).stored in let a = c.from-in-loop-var.ensures in let b = c.from-in-loop-var-2.ensures in omega (arith, here, a, b)

pub offset_bounds-to-from : goal.offset_bounds-to-from
offset_bounds-to-from c = let here = (step c.args.counts.now c.args.to.now c.args.vars.now c.loop-var.var-index c.loop-var.place c.requires c.loop-var-test.true c.loop-var.invariant).stored in let a = c.from-in-loop-var.ensures in let b = c.from-in-loop-var-2.ensures in omega (arith, here, a, b)

pub bounds-to-from : goal.bounds-to-from
bounds-to-from c = let here = (step c.args.counts.now c.args.to.now c.args.vars.now c.loop-var.var-index c.loop-var.place c.requires c.loop-var-test.true c.loop-var.invariant).stored in let a = c.from-in-loop-var.ensures in let b = c.from-in-loop-var-2.ensures in let long = c.requires.long in omega (arith, here, a, b, long)

pub overflow_mul-place : goal.overflow_mul-place
overflow_mul-place c = let here = (read_on c.args.counts.now c.args.to.now c.args.vars.now c.loop-var.var-index (tuple_place c.args.counts.now (sorts_of (map variable_of c.args.vars.now)) (map (element_in c.args.to.now) (map variable_of c.args.vars.now))) c.loop-var.place c.from.result c.from-in-loop-var-3.result (4 * (get_or c.args.vars.now c.loop-var.var-index (0, 0)).0 + (get_or c.args.vars.now c.loop-var.var-index (0, 0)).1) _ (step c.args.counts.now c.args.to.now c.args.vars.now c.loop-var.var-index c.loop-var.place c.requires c.loop-var-test.true c.loop-var.invariant) c.from.ensures c.from-in-loop-var-3.ensures refl refl).small in omega (arith, here)

pub overflow_add-place : goal.overflow_add-place
overflow_add-place c = let here = (read_on c.args.counts.now c.args.to.now c.args.vars.now c.loop-var.var-index (tuple_place c.args.counts.now (sorts_of (map variable_of c.args.vars.now)) (map (element_in c.args.to.now) (map variable_of c.args.vars.now))) c.loop-var.place c.from.result c.from-in-loop-var-3.result (4 * c.from-in-loop-var.result + c.from-in-loop-var-2.result) c.from-in-loop-var-4.result (step c.args.counts.now c.args.to.now c.args.vars.now c.loop-var.var-index c.loop-var.place c.requires c.loop-var-test.true c.loop-var.invariant) c.from.ensures c.from-in-loop-var-3.ensures (ap (λ n. 4 * n + c.from-in-loop-var-2.result) c.from-in-loop-var.ensures ∙ ap (λ n. 4 * (get_or c.args.vars.now c.loop-var.var-index (0, 0)).0 + n) c.from-in-loop-var-2.ensures) c.from-in-loop-var-4.ensures).small in omega (arith, here)

pub loop-var-preserved : goal.loop-var-preserved
loop-var-preserved c = (read_on c.args.counts.now c.args.to.now c.args.vars.now c.loop-var.var-index (tuple_place c.args.counts.now (sorts_of (map variable_of c.args.vars.now)) (map (element_in c.args.to.now) (map variable_of c.args.vars.now))) c.loop-var.place c.from.result c.from-in-loop-var-3.result (4 * c.from-in-loop-var.result + c.from-in-loop-var-2.result) c.from-in-loop-var-4.result (step c.args.counts.now c.args.to.now c.args.vars.now c.loop-var.var-index c.loop-var.place c.requires c.loop-var-test.true c.loop-var.invariant) c.from.ensures c.from-in-loop-var-3.ensures (ap (λ n. 4 * n + c.from-in-loop-var-2.result) c.from-in-loop-var.ensures ∙ ap (λ n. 4 * (get_or c.args.vars.now c.loop-var.var-index (0, 0)).0 + n) c.from-in-loop-var-2.ensures) c.from-in-loop-var-4.ensures).next

pub returns : goal.returns
returns c = arrived c.args.counts.now c.args.to.now c.args.vars.now c.loop-var.var-index (tuple_place c.args.counts.now (sorts_of (map variable_of c.args.vars.now)) (map (element_in c.args.to.now) (map variable_of c.args.vars.now))) c.loop-var.place c.loop-var-test.false c.loop-var.invariant
