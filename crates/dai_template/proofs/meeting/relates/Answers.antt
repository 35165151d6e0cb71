use Rattle.std.proofs.Common.{◌+◌, ◌*◌, Bool, false, List, [], length, get_or, map, ap, ◌∙◌, refl, arith}
use Rattle.std.proofs.lemmas.List.{get_or_default}
use Rattle.dai_logic.specs.Tables.{tables_of, tuple_place}
use Rattle.dai_template.specs.Atoms.{variable_of}
use Rattle.dai_template.specs.Meeting.{element_in, sorts_of}
use Rattle.dai_template.proofs.Read.{step, arrived, total_bound, read_on, table_is}
use Rattle.dai_template.proofs.meeting.relates.Goals as goal

pub index-size-requires : goal.index-size-requires
index-size-requires c = let here = (step c.args.s.now c.args.values.now c.args.rel c.args.vars.now c.loop-var.var-index c.loop-var.place c.requires c.loop-var-test.true c.loop-var.invariant).known in let same = c.from.ensures in omega (arith, here, same)

pub overflow_add-element : goal.overflow_add-element
overflow_add-element c = let here = (step c.args.s.now c.args.values.now c.args.rel c.args.vars.now c.loop-var.var-index c.loop-var.place c.requires c.loop-var-test.true c.loop-var.invariant).stored in let a = c.from-in-loop-var.ensures in let b = c.from-in-loop-var-2.ensures in omega (arith, here, a, b)

pub offset_bounds-values-from : goal.offset_bounds-values-from
offset_bounds-values-from c = let here = (step c.args.s.now c.args.values.now c.args.rel c.args.vars.now c.loop-var.var-index c.loop-var.place c.requires c.loop-var-test.true c.loop-var.invariant).stored in let a = c.from-in-loop-var.ensures in let b = c.from-in-loop-var-2.ensures in omega (arith, here, a, b)

pub bounds-values-from : goal.bounds-values-from
bounds-values-from c = let here = (step c.args.s.now c.args.values.now c.args.rel c.args.vars.now c.loop-var.var-index c.loop-var.place c.requires c.loop-var-test.true c.loop-var.invariant).stored in let a = c.from-in-loop-var.ensures in let b = c.from-in-loop-var-2.ensures in let long = c.requires.long in omega (arith, here, a, b, long)

pub overflow_mul-place : goal.overflow_mul-place
overflow_mul-place c = let here = (read_on c.args.s.now c.args.values.now c.args.vars.now c.loop-var.var-index (tuple_place c.args.s.now.sizes.items (sorts_of (map variable_of c.args.vars.now)) (map (element_in c.args.values.now) (map variable_of c.args.vars.now))) c.loop-var.place c.from.result c.index-size.result.now c.from-in-loop-var-3.result (4 * (get_or c.args.vars.now c.loop-var.var-index (0, 0)).0 + (get_or c.args.vars.now c.loop-var.var-index (0, 0)).1) _ (step c.args.s.now c.args.values.now c.args.rel c.args.vars.now c.loop-var.var-index c.loop-var.place c.requires c.loop-var-test.true c.loop-var.invariant) c.from.ensures c.index-size.ensures c.from-in-loop-var-3.ensures refl refl).small in omega (arith, here)

pub overflow_add-place : goal.overflow_add-place
overflow_add-place c = let here = (read_on c.args.s.now c.args.values.now c.args.vars.now c.loop-var.var-index (tuple_place c.args.s.now.sizes.items (sorts_of (map variable_of c.args.vars.now)) (map (element_in c.args.values.now) (map variable_of c.args.vars.now))) c.loop-var.place c.from.result c.index-size.result.now c.from-in-loop-var-3.result (4 * c.from-in-loop-var.result + c.from-in-loop-var-2.result) c.from-in-loop-var-4.result (step c.args.s.now c.args.values.now c.args.rel c.args.vars.now c.loop-var.var-index c.loop-var.place c.requires c.loop-var-test.true c.loop-var.invariant) c.from.ensures c.index-size.ensures c.from-in-loop-var-3.ensures (ap (λ n. 4 * n + c.from-in-loop-var-2.result) c.from-in-loop-var.ensures ∙ ap (λ n. 4 * (get_or c.args.vars.now c.loop-var.var-index (0, 0)).0 + n) c.from-in-loop-var-2.ensures) c.from-in-loop-var-4.ensures).small in omega (arith, here)

pub loop-var-preserved : goal.loop-var-preserved
loop-var-preserved c = (read_on c.args.s.now c.args.values.now c.args.vars.now c.loop-var.var-index (tuple_place c.args.s.now.sizes.items (sorts_of (map variable_of c.args.vars.now)) (map (element_in c.args.values.now) (map variable_of c.args.vars.now))) c.loop-var.place c.from.result c.index-size.result.now c.from-in-loop-var-3.result (4 * c.from-in-loop-var.result + c.from-in-loop-var-2.result) c.from-in-loop-var-4.result (step c.args.s.now c.args.values.now c.args.rel c.args.vars.now c.loop-var.var-index c.loop-var.place c.requires c.loop-var-test.true c.loop-var.invariant) c.from.ensures c.index-size.ensures c.from-in-loop-var-3.ensures (ap (λ n. 4 * n + c.from-in-loop-var-2.result) c.from-in-loop-var.ensures ∙ ap (λ n. 4 * (get_or c.args.vars.now c.loop-var.var-index (0, 0)).0 + n) c.from-in-loop-var-2.ensures) c.from-in-loop-var-4.ensures).next

pub index-requires-2 : goal.index-requires-2
index-requires-2 c =
    let there = arrived c.args.s.now c.args.values.now c.args.vars.now c.loop-var.var-index (tuple_place c.args.s.now.sizes.items (sorts_of (map variable_of c.args.vars.now)) (map (element_in c.args.values.now) (map variable_of c.args.vars.now))) c.loop-var.place c.loop-var-test.false c.loop-var.invariant in
    let table = ap (λ (xs : List Bool). length xs) (table_is c.args.s.now c.args.rel c.from-2.result c.index.result.now c.requires.known c.from-2.ensures c.index.ensures) in
    let inside = total_bound c.args.s.now c.args.values.now c.args.rel c.args.vars.now c.requires in
    omega (arith, there, table, inside)

pub returns : goal.returns
returns c =
    let there = arrived c.args.s.now c.args.values.now c.args.vars.now c.loop-var.var-index (tuple_place c.args.s.now.sizes.items (sorts_of (map variable_of c.args.vars.now)) (map (element_in c.args.values.now) (map variable_of c.args.vars.now))) c.loop-var.place c.loop-var-test.false c.loop-var.invariant in
    let table = table_is c.args.s.now c.args.rel c.from-2.result c.index.result.now c.requires.known c.from-2.ensures c.index.ensures in
    let inside = total_bound c.args.s.now c.args.values.now c.args.rel c.args.vars.now c.requires in
    c.index-2.ensures
    ∙ (ap (λ (xs : List Bool). get_or xs c.loop-var.place c.index-2.result.now) table
    ∙ (ap (λ k. get_or (get_or (tables_of c.args.s.now) c.args.rel []) k c.index-2.result.now) there
    ∙ get_or_default (get_or (tables_of c.args.s.now) c.args.rel []) (tuple_place c.args.s.now.sizes.items (sorts_of (map variable_of c.args.vars.now)) (map (element_in c.args.values.now) (map variable_of c.args.vars.now))) c.index-2.result.now false inside))
