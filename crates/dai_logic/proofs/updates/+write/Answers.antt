use Rattle.std.proofs.Common.{rules, ◌≡◌, ◌+◌, ◌*◌, ◌^◌, ◌<◌, ◌≤◌, length, map, get_or, drop, sym, ap, ◌∙◌, subst, arith}
use Rattle.std.proofs.lemmas.List.{get_or-map}
use Rattle.dai_model.specs.Formula.{variable}
use Rattle.dai_model.specs.Value.{value_of_term}
use Rattle.dai_logic.specs.declared.protocol.Term.TheVariants.{Var}
use Rattle.dai_logic.specs.Trees.{term_of, formula_of}
use Rattle.dai_logic.specs.Protocols.{protocol_of}
use Rattle.dai_logic.specs.Environments.{environment_of, bound}
use Rattle.dai_logic.specs.Tables.{structure_of, tuple_count, IsWritten}
use Rattle.dai_logic.proofs.Elements.{size_read, below_size}
use Rattle.dai_logic.proofs.Environments.{bound-own, bound-then, bind_first}
use Rattle.dai_logic.proofs.Writing.{IsWrittenTo, written_drop, mapped_below, dropped_all, written_end_at, written_none, written_more, written_all, written_fixed, next_inside, next_place, room_more, next_variable, next_fixed, not_variable, end_sorts, end_evaluable}
use Rattle.dai_logic.proofs.updates.+write.Goals as goal

pub eval-requires-clause-fits : goal.eval-requires-clause-fits
eval-requires-clause-fits t c =
    c.requires.fits

pub eval-requires-clause-formula : goal.eval-requires-clause-formula
eval-requires-clause-formula t c =
    end_evaluable (protocol_of c.args.update.now.protocol.now) c.args.s.now.sizes.items (environment_of c.args.env.now) (drop c.args.number (map term_of c.args.update.now.target.now)) (drop c.args.number c.args.update.now.sorts.now) (formula_of c.args.update.now.body.now) (dropped_all term_of c.args.update.now.target.now c.args.number c.if-number-update.true) c.requires.target

pub bounds-table-first : goal.bounds-table-first
bounds-table-first t c =
    let one : tuple_count c.args.s.now.sizes.items (drop c.args.number c.args.update.now.sorts.now) ≡ 1 = ap (tuple_count c.args.s.now.sizes.items) (end_sorts (protocol_of c.args.update.now.protocol.now) c.args.s.now.sizes.items (environment_of c.args.env.now) (drop c.args.number (map term_of c.args.update.now.target.now)) (drop c.args.number c.args.update.now.sorts.now) (formula_of c.args.update.now.body.now) (dropped_all term_of c.args.update.now.target.now c.args.number c.if-number-update.true) c.requires.target) in let room = subst (λ m. c.args.first * m + m ≤ (length c.args.table.now)) one c.requires.room in omega arith

pub returns-then-number-update-clause-written : goal.returns-then-number-update-clause-written
returns-then-number-update-clause-written t c =
    written_end_at (structure_of (protocol_of c.args.update.now.protocol.now) c.args.s.now) (environment_of c.args.env.now) (drop c.args.number (map term_of c.args.update.now.target.now)) (drop c.args.number c.args.update.now.sorts.now) (formula_of c.args.update.now.body.now) c.args.first c.args.table.now c.eval.result (dropped_all term_of c.args.update.now.target.now c.args.number c.if-number-update.true) (end_sorts (protocol_of c.args.update.now.protocol.now) c.args.s.now.sizes.items (environment_of c.args.env.now) (drop c.args.number (map term_of c.args.update.now.target.now)) (drop c.args.number c.args.update.now.sorts.now) (formula_of c.args.update.now.body.now) (dropped_all term_of c.args.update.now.target.now c.args.number c.if-number-update.true) c.requires.target) (let one : tuple_count c.args.s.now.sizes.items (drop c.args.number c.args.update.now.sorts.now) ≡ 1 = ap (tuple_count c.args.s.now.sizes.items) (end_sorts (protocol_of c.args.update.now.protocol.now) c.args.s.now.sizes.items (environment_of c.args.env.now) (drop c.args.number (map term_of c.args.update.now.target.now)) (drop c.args.number c.args.update.now.sorts.now) (formula_of c.args.update.now.body.now) (dropped_all term_of c.args.update.now.target.now c.args.number c.if-number-update.true) c.requires.target) in let room = subst (λ m. c.args.first * m + m ≤ (length c.args.table.now)) one c.requires.room in let below : c.args.first < (length c.args.table.now) = omega arith in below) c.eval.ensures.value

pub returns-then-number-update-clause-unchanged : goal.returns-then-number-update-clause-unchanged
returns-then-number-update-clause-unchanged t c =
    c.eval.ensures.unchanged

pub bounds-update-number : goal.bounds-update-number
bounds-update-number t c =
    next_inside (protocol_of c.args.update.now.protocol.now) c.args.s.now.sizes.items (environment_of c.args.env.now) (map term_of c.args.update.now.target.now) c.args.update.now.sorts.now c.args.number (formula_of c.args.update.now.body.now) (mapped_below term_of c.args.update.now.target.now c.args.number (let here = c.requires.number in let other = c.if-number-update.false in let below : c.args.number < length c.args.update.now.target.now = omega arith in below)) c.requires.target

pub index-size-requires : goal.index-size-requires
index-size-requires t c =
    let known = (next_place (protocol_of c.args.update.now.protocol.now) c.args.s.now (environment_of c.args.env.now) (map term_of c.args.update.now.target.now) c.args.update.now.sorts.now c.args.number (term_of (get_or c.args.update.now.target.now c.args.number (Var 0))) (term_of (Var 0)) (formula_of c.args.update.now.body.now) c.args.first (length c.args.table.now) c.requires.fits (mapped_below term_of c.args.update.now.target.now c.args.number (let here = c.requires.number in let other = c.if-number-update.false in let below : c.args.number < length c.args.update.now.target.now = omega arith in below)) (get_or-map term_of c.args.update.now.target.now c.args.number (Var 0) (term_of (Var 0)) (let here = c.requires.number in let other = c.if-number-update.false in let below : c.args.number < length c.args.update.now.target.now = omega arith in below)) c.requires.target c.requires.room).known in let long = c.args.s.now.sizes.ok.0 in omega arith

pub overflow_mul-base : goal.overflow_mul-base
overflow_mul-base t c =
    record { fits = let bound = (room_more (get_or c.args.s.now.sizes.items (get_or c.args.update.now.sorts.now c.args.number 0) 0) (tuple_count c.args.s.now.sizes.items (drop (c.args.number + 1) c.args.update.now.sorts.now)) c.args.first 0 (length c.args.table.now) (next_place (protocol_of c.args.update.now.protocol.now) c.args.s.now (environment_of c.args.env.now) (map term_of c.args.update.now.target.now) c.args.update.now.sorts.now c.args.number (term_of (get_or c.args.update.now.target.now c.args.number (Var 0))) (term_of (Var 0)) (formula_of c.args.update.now.body.now) c.args.first (length c.args.table.now) c.requires.fits (mapped_below term_of c.args.update.now.target.now c.args.number (let here = c.requires.number in let other = c.if-number-update.false in let below : c.args.number < length c.args.update.now.target.now = omega arith in below)) (get_or-map term_of c.args.update.now.target.now c.args.number (Var 0) (term_of (Var 0)) (let here = c.requires.number in let other = c.if-number-update.false in let below : c.args.number < length c.args.update.now.target.now = omega arith in below)) c.requires.target c.requires.room).some (c.requires.fits.inhabited (get_or c.args.update.now.sorts.now c.args.number 0) 0 (next_place (protocol_of c.args.update.now.protocol.now) c.args.s.now (environment_of c.args.env.now) (map term_of c.args.update.now.target.now) c.args.update.now.sorts.now c.args.number (term_of (get_or c.args.update.now.target.now c.args.number (Var 0))) (term_of (Var 0)) (formula_of c.args.update.now.body.now) c.args.first (length c.args.table.now) c.requires.fits (mapped_below term_of c.args.update.now.target.now c.args.number (let here = c.requires.number in let other = c.if-number-update.false in let below : c.args.number < length c.args.update.now.target.now = omega arith in below)) (get_or-map term_of c.args.update.now.target.now c.args.number (Var 0) (term_of (Var 0)) (let here = c.requires.number in let other = c.if-number-update.false in let below : c.args.number < length c.args.update.now.target.now = omega arith in below)) c.requires.target c.requires.room).known) (next_place (protocol_of c.args.update.now.protocol.now) c.args.s.now (environment_of c.args.env.now) (map term_of c.args.update.now.target.now) c.args.update.now.sorts.now c.args.number (term_of (get_or c.args.update.now.target.now c.args.number (Var 0))) (term_of (Var 0)) (formula_of c.args.update.now.body.now) c.args.first (length c.args.table.now) c.requires.fits (mapped_below term_of c.args.update.now.target.now c.args.number (let here = c.requires.number in let other = c.if-number-update.false in let below : c.args.number < length c.args.update.now.target.now = omega arith in below)) (get_or-map term_of c.args.update.now.target.now c.args.number (Var 0) (term_of (Var 0)) (let here = c.requires.number in let other = c.if-number-update.false in let below : c.args.number < length c.args.update.now.target.now = omega arith in below)) c.requires.target c.requires.room).enough).product in let short = c.requires.short in let same_size = (size_read c.args.s.now.sizes.items (get_or c.args.update.now.sorts.now c.args.number 0) c.index-size.result.now (next_place (protocol_of c.args.update.now.protocol.now) c.args.s.now (environment_of c.args.env.now) (map term_of c.args.update.now.target.now) c.args.update.now.sorts.now c.args.number (term_of (get_or c.args.update.now.target.now c.args.number (Var 0))) (term_of (Var 0)) (formula_of c.args.update.now.body.now) c.args.first (length c.args.table.now) c.requires.fits (mapped_below term_of c.args.update.now.target.now c.args.number (let here = c.requires.number in let other = c.if-number-update.false in let below : c.args.number < length c.args.update.now.target.now = omega arith in below)) (get_or-map term_of c.args.update.now.target.now c.args.number (Var 0) (term_of (Var 0)) (let here = c.requires.number in let other = c.if-number-update.false in let below : c.args.number < length c.args.update.now.target.now = omega arith in below)) c.requires.target c.requires.room).known c.index-size.ensures) in subst (λ m. c.args.first * m < 2 ^ 64) (sym same_size) (omega arith) }

pub offset_bounds-update-number : goal.offset_bounds-update-number
offset_bounds-update-number t c =
    search rules

pub bounds-update-number-2 : goal.bounds-update-number-2
bounds-update-number-2 t c =
    (let here = c.requires.number in let other = c.if-number-update.false in let below : c.args.number < length c.args.update.now.target.now = omega arith in below)

pub loop-element-init : goal.loop-element-init
loop-element-init t c =
    record { back = ap (λ b. bound c.args.env.now c.in-Var.var b) c.variable-before.ensures ∙ bound-own c.args.env.now c.in-Var.var; written = written_none (structure_of (protocol_of c.args.update.now.protocol.now) c.args.s.now) (environment_of c.args.env.now) c.in-Var.var (drop (c.args.number + 1) (map term_of c.args.update.now.target.now)) c.index-size.result.now (drop (c.args.number + 1) c.args.update.now.sorts.now) (formula_of c.args.update.now.body.now) c.args.first c.args.table.now }

pub overflow_add-number : goal.overflow_add-number
overflow_add-number t c =
    search rules

pub overflow_cast-element : goal.overflow_cast-element
overflow_cast-element t c =
    search rules

pub overflow_add-base : goal.overflow_add-base
overflow_add-base t c =
    record { fits = let bound = (room_more (get_or c.args.s.now.sizes.items (get_or c.args.update.now.sorts.now c.args.number 0) 0) (tuple_count c.args.s.now.sizes.items (drop (c.args.number + 1) c.args.update.now.sorts.now)) c.args.first c.loop-element.element (length c.args.table.now) (next_place (protocol_of c.args.update.now.protocol.now) c.args.s.now (environment_of c.args.env.now) (map term_of c.args.update.now.target.now) c.args.update.now.sorts.now c.args.number (term_of (get_or c.args.update.now.target.now c.args.number (Var 0))) (term_of (Var 0)) (formula_of c.args.update.now.body.now) c.args.first (length c.args.table.now) c.requires.fits (mapped_below term_of c.args.update.now.target.now c.args.number (let here = c.requires.number in let other = c.if-number-update.false in let below : c.args.number < length c.args.update.now.target.now = omega arith in below)) (get_or-map term_of c.args.update.now.target.now c.args.number (Var 0) (term_of (Var 0)) (let here = c.requires.number in let other = c.if-number-update.false in let below : c.args.number < length c.args.update.now.target.now = omega arith in below)) c.requires.target c.requires.room).some (below_size c.args.s.now.sizes.items (get_or c.args.update.now.sorts.now c.args.number 0) c.index-size.result.now c.loop-element.element (next_place (protocol_of c.args.update.now.protocol.now) c.args.s.now (environment_of c.args.env.now) (map term_of c.args.update.now.target.now) c.args.update.now.sorts.now c.args.number (term_of (get_or c.args.update.now.target.now c.args.number (Var 0))) (term_of (Var 0)) (formula_of c.args.update.now.body.now) c.args.first (length c.args.table.now) c.requires.fits (mapped_below term_of c.args.update.now.target.now c.args.number (let here = c.requires.number in let other = c.if-number-update.false in let below : c.args.number < length c.args.update.now.target.now = omega arith in below)) (get_or-map term_of c.args.update.now.target.now c.args.number (Var 0) (term_of (Var 0)) (let here = c.requires.number in let other = c.if-number-update.false in let below : c.args.number < length c.args.update.now.target.now = omega arith in below)) c.requires.target c.requires.room).known c.index-size.ensures c.loop-element-test.true) (next_place (protocol_of c.args.update.now.protocol.now) c.args.s.now (environment_of c.args.env.now) (map term_of c.args.update.now.target.now) c.args.update.now.sorts.now c.args.number (term_of (get_or c.args.update.now.target.now c.args.number (Var 0))) (term_of (Var 0)) (formula_of c.args.update.now.body.now) c.args.first (length c.args.table.now) c.requires.fits (mapped_below term_of c.args.update.now.target.now c.args.number (let here = c.requires.number in let other = c.if-number-update.false in let below : c.args.number < length c.args.update.now.target.now = omega arith in below)) (get_or-map term_of c.args.update.now.target.now c.args.number (Var 0) (term_of (Var 0)) (let here = c.requires.number in let other = c.if-number-update.false in let below : c.args.number < length c.args.update.now.target.now = omega arith in below)) c.requires.target c.requires.room).enough).sum in let short = c.requires.short in let same_size = (size_read c.args.s.now.sizes.items (get_or c.args.update.now.sorts.now c.args.number 0) c.index-size.result.now (next_place (protocol_of c.args.update.now.protocol.now) c.args.s.now (environment_of c.args.env.now) (map term_of c.args.update.now.target.now) c.args.update.now.sorts.now c.args.number (term_of (get_or c.args.update.now.target.now c.args.number (Var 0))) (term_of (Var 0)) (formula_of c.args.update.now.body.now) c.args.first (length c.args.table.now) c.requires.fits (mapped_below term_of c.args.update.now.target.now c.args.number (let here = c.requires.number in let other = c.if-number-update.false in let below : c.args.number < length c.args.update.now.target.now = omega arith in below)) (get_or-map term_of c.args.update.now.target.now c.args.number (Var 0) (term_of (Var 0)) (let here = c.requires.number in let other = c.if-number-update.false in let below : c.args.number < length c.args.update.now.target.now = omega arith in below)) c.requires.target c.requires.room).known c.index-size.ensures) in subst (λ m. c.args.first * m + c.loop-element.element < 2 ^ 64) (sym same_size) (omega arith) }

pub write-requires : goal.write-requires
write-requires t c =
    ((let below : c.args.number < length c.args.update.now.target.now = (let here = c.requires.number in let other = c.if-number-update.false in let below : c.args.number < length c.args.update.now.target.now = omega arith in below) in search rules), (c.requires.fits, (next_variable (protocol_of c.args.update.now.protocol.now) c.args.s.now (environment_of c.args.env.now) (environment_of c.bind.new.self) (term_of (get_or c.args.update.now.target.now c.args.number (Var 0))) (drop (c.args.number + 1) (map term_of c.args.update.now.target.now)) (get_or c.args.update.now.sorts.now c.args.number 0) (drop (c.args.number + 1) c.args.update.now.sorts.now) (formula_of c.args.update.now.body.now) c.args.first (length c.args.table.now) c.in-Var.var c.loop-element.element (next_place (protocol_of c.args.update.now.protocol.now) c.args.s.now (environment_of c.args.env.now) (map term_of c.args.update.now.target.now) c.args.update.now.sorts.now c.args.number (term_of (get_or c.args.update.now.target.now c.args.number (Var 0))) (term_of (Var 0)) (formula_of c.args.update.now.body.now) c.args.first (length c.args.table.now) c.requires.fits (mapped_below term_of c.args.update.now.target.now c.args.number (let here = c.requires.number in let other = c.if-number-update.false in let below : c.args.number < length c.args.update.now.target.now = omega arith in below)) (get_or-map term_of c.args.update.now.target.now c.args.number (Var 0) (term_of (Var 0)) (let here = c.requires.number in let other = c.if-number-update.false in let below : c.args.number < length c.args.update.now.target.now = omega arith in below)) c.requires.target c.requires.room) (ap term_of c.in-Var.is) (below_size c.args.s.now.sizes.items (get_or c.args.update.now.sorts.now c.args.number 0) c.index-size.result.now c.loop-element.element (next_place (protocol_of c.args.update.now.protocol.now) c.args.s.now (environment_of c.args.env.now) (map term_of c.args.update.now.target.now) c.args.update.now.sorts.now c.args.number (term_of (get_or c.args.update.now.target.now c.args.number (Var 0))) (term_of (Var 0)) (formula_of c.args.update.now.body.now) c.args.first (length c.args.table.now) c.requires.fits (mapped_below term_of c.args.update.now.target.now c.args.number (let here = c.requires.number in let other = c.if-number-update.false in let below : c.args.number < length c.args.update.now.target.now = omega arith in below)) (get_or-map term_of c.args.update.now.target.now c.args.number (Var 0) (term_of (Var 0)) (let here = c.requires.number in let other = c.if-number-update.false in let below : c.args.number < length c.args.update.now.target.now = omega arith in below)) c.requires.target c.requires.room).known c.index-size.ensures c.loop-element-test.true) (c.bind.ensures.bound ∙ bind_first c.loop-element.env c.args.env.now c.in-Var.var c.loop-element.element c.variable-before.result c.loop-element.invariant.back), ((let below = (let here = c.requires.number in let other = c.if-number-update.false in let below : c.args.number < length c.args.update.now.target.now = omega arith in below) in omega arith), ((let short = c.requires.short in let as_long = c.loop-element.auto.table in omega arith), subst (λ m. (c.args.first * m + c.loop-element.element) * (tuple_count c.args.s.now.sizes.items (drop (c.args.number + 1) c.args.update.now.sorts.now)) + (tuple_count c.args.s.now.sizes.items (drop (c.args.number + 1) c.args.update.now.sorts.now)) ≤ length c.loop-element.table) (sym (size_read c.args.s.now.sizes.items (get_or c.args.update.now.sorts.now c.args.number 0) c.index-size.result.now (next_place (protocol_of c.args.update.now.protocol.now) c.args.s.now (environment_of c.args.env.now) (map term_of c.args.update.now.target.now) c.args.update.now.sorts.now c.args.number (term_of (get_or c.args.update.now.target.now c.args.number (Var 0))) (term_of (Var 0)) (formula_of c.args.update.now.body.now) c.args.first (length c.args.table.now) c.requires.fits (mapped_below term_of c.args.update.now.target.now c.args.number (let here = c.requires.number in let other = c.if-number-update.false in let below : c.args.number < length c.args.update.now.target.now = omega arith in below)) (get_or-map term_of c.args.update.now.target.now c.args.number (Var 0) (term_of (Var 0)) (let here = c.requires.number in let other = c.if-number-update.false in let below : c.args.number < length c.args.update.now.target.now = omega arith in below)) c.requires.target c.requires.room).known c.index-size.ensures)) (let bound = (room_more (get_or c.args.s.now.sizes.items (get_or c.args.update.now.sorts.now c.args.number 0) 0) (tuple_count c.args.s.now.sizes.items (drop (c.args.number + 1) c.args.update.now.sorts.now)) c.args.first c.loop-element.element (length c.args.table.now) (next_place (protocol_of c.args.update.now.protocol.now) c.args.s.now (environment_of c.args.env.now) (map term_of c.args.update.now.target.now) c.args.update.now.sorts.now c.args.number (term_of (get_or c.args.update.now.target.now c.args.number (Var 0))) (term_of (Var 0)) (formula_of c.args.update.now.body.now) c.args.first (length c.args.table.now) c.requires.fits (mapped_below term_of c.args.update.now.target.now c.args.number (let here = c.requires.number in let other = c.if-number-update.false in let below : c.args.number < length c.args.update.now.target.now = omega arith in below)) (get_or-map term_of c.args.update.now.target.now c.args.number (Var 0) (term_of (Var 0)) (let here = c.requires.number in let other = c.if-number-update.false in let below : c.args.number < length c.args.update.now.target.now = omega arith in below)) c.requires.target c.requires.room).some (below_size c.args.s.now.sizes.items (get_or c.args.update.now.sorts.now c.args.number 0) c.index-size.result.now c.loop-element.element (next_place (protocol_of c.args.update.now.protocol.now) c.args.s.now (environment_of c.args.env.now) (map term_of c.args.update.now.target.now) c.args.update.now.sorts.now c.args.number (term_of (get_or c.args.update.now.target.now c.args.number (Var 0))) (term_of (Var 0)) (formula_of c.args.update.now.body.now) c.args.first (length c.args.table.now) c.requires.fits (mapped_below term_of c.args.update.now.target.now c.args.number (let here = c.requires.number in let other = c.if-number-update.false in let below : c.args.number < length c.args.update.now.target.now = omega arith in below)) (get_or-map term_of c.args.update.now.target.now c.args.number (Var 0) (term_of (Var 0)) (let here = c.requires.number in let other = c.if-number-update.false in let below : c.args.number < length c.args.update.now.target.now = omega arith in below)) c.requires.target c.requires.room).known c.index-size.ensures c.loop-element-test.true) (next_place (protocol_of c.args.update.now.protocol.now) c.args.s.now (environment_of c.args.env.now) (map term_of c.args.update.now.target.now) c.args.update.now.sorts.now c.args.number (term_of (get_or c.args.update.now.target.now c.args.number (Var 0))) (term_of (Var 0)) (formula_of c.args.update.now.body.now) c.args.first (length c.args.table.now) c.requires.fits (mapped_below term_of c.args.update.now.target.now c.args.number (let here = c.requires.number in let other = c.if-number-update.false in let below : c.args.number < length c.args.update.now.target.now = omega arith in below)) (get_or-map term_of c.args.update.now.target.now c.args.number (Var 0) (term_of (Var 0)) (let here = c.requires.number in let other = c.if-number-update.false in let below : c.args.number < length c.args.update.now.target.now = omega arith in below)) c.requires.target c.requires.room).enough).enough in let as_long = c.loop-element.auto.table in omega arith))))))

pub loop-element-smaller : goal.loop-element-smaller
loop-element-smaller t c =
    search rules

pub loop-element-preserved : goal.loop-element-preserved
loop-element-preserved t c =
    record { back = (bound-then c.loop-element.env c.write.new.env c.args.env.now c.in-Var.var c.loop-element.element c.variable-before.result c.loop-element.invariant.back (c.write.ensures.unchanged ∙ c.bind.ensures.tables)); written = written_more (structure_of (protocol_of c.args.update.now.protocol.now) c.args.s.now) (environment_of c.args.env.now) (environment_of c.bind.new.self) c.in-Var.var (drop (c.args.number + 1) (map term_of c.args.update.now.target.now)) c.index-size.result.now (drop (c.args.number + 1) c.args.update.now.sorts.now) (formula_of c.args.update.now.body.now) c.args.first c.loop-element.element c.args.table.now c.loop-element.table c.write.new.table c.loop-element-test.true (c.bind.ensures.bound ∙ bind_first c.loop-element.env c.args.env.now c.in-Var.var c.loop-element.element c.variable-before.result c.loop-element.invariant.back) c.loop-element.invariant.written c.write.ensures.written }

pub returns-in-Var-clause-written : goal.returns-in-Var-clause-written
returns-in-Var-clause-written t c =
    written_drop (structure_of (protocol_of c.args.update.now.protocol.now) c.args.s.now) (environment_of c.args.env.now) (map term_of c.args.update.now.target.now) c.args.update.now.sorts.now c.args.number (variable c.in-Var.var) (term_of (Var 0)) (formula_of c.args.update.now.body.now) c.args.first c.args.table.now c.loop-element.table (mapped_below term_of c.args.update.now.target.now c.args.number (let here = c.requires.number in let other = c.if-number-update.false in let below : c.args.number < length c.args.update.now.target.now = omega arith in below)) (next_inside (protocol_of c.args.update.now.protocol.now) c.args.s.now.sizes.items (environment_of c.args.env.now) (map term_of c.args.update.now.target.now) c.args.update.now.sorts.now c.args.number (formula_of c.args.update.now.body.now) (mapped_below term_of c.args.update.now.target.now c.args.number (let here = c.requires.number in let other = c.if-number-update.false in let below : c.args.number < length c.args.update.now.target.now = omega arith in below)) c.requires.target) ((get_or-map term_of c.args.update.now.target.now c.args.number (Var 0) (term_of (Var 0)) (let here = c.requires.number in let other = c.if-number-update.false in let below : c.args.number < length c.args.update.now.target.now = omega arith in below)) ∙ (ap term_of c.in-Var.is)) (written_all (structure_of (protocol_of c.args.update.now.protocol.now) c.args.s.now) (environment_of c.args.env.now) c.in-Var.var (drop (c.args.number + 1) (map term_of c.args.update.now.target.now)) (get_or c.args.update.now.sorts.now c.args.number 0) (drop (c.args.number + 1) c.args.update.now.sorts.now) (formula_of c.args.update.now.body.now) c.args.first c.loop-element.element c.args.table.now c.loop-element.table ((let past = c.loop-element-test.false in let within = c.loop-element.auto.element-end in let same_end : c.loop-element.element ≡ c.index-size.result.now = omega arith in same_end) ∙ (size_read c.args.s.now.sizes.items (get_or c.args.update.now.sorts.now c.args.number 0) c.index-size.result.now (next_place (protocol_of c.args.update.now.protocol.now) c.args.s.now (environment_of c.args.env.now) (map term_of c.args.update.now.target.now) c.args.update.now.sorts.now c.args.number (term_of (get_or c.args.update.now.target.now c.args.number (Var 0))) (term_of (Var 0)) (formula_of c.args.update.now.body.now) c.args.first (length c.args.table.now) c.requires.fits (mapped_below term_of c.args.update.now.target.now c.args.number (let here = c.requires.number in let other = c.if-number-update.false in let below : c.args.number < length c.args.update.now.target.now = omega arith in below)) (get_or-map term_of c.args.update.now.target.now c.args.number (Var 0) (term_of (Var 0)) (let here = c.requires.number in let other = c.if-number-update.false in let below : c.args.number < length c.args.update.now.target.now = omega arith in below)) c.requires.target c.requires.room).known c.index-size.ensures)) (subst (λ m. IsWrittenTo (structure_of (protocol_of c.args.update.now.protocol.now) c.args.s.now) (environment_of c.args.env.now) c.in-Var.var (drop (c.args.number + 1) (map term_of c.args.update.now.target.now)) m (drop (c.args.number + 1) c.args.update.now.sorts.now) (formula_of c.args.update.now.body.now) c.args.first c.loop-element.element c.args.table.now c.loop-element.table) (size_read c.args.s.now.sizes.items (get_or c.args.update.now.sorts.now c.args.number 0) c.index-size.result.now (next_place (protocol_of c.args.update.now.protocol.now) c.args.s.now (environment_of c.args.env.now) (map term_of c.args.update.now.target.now) c.args.update.now.sorts.now c.args.number (term_of (get_or c.args.update.now.target.now c.args.number (Var 0))) (term_of (Var 0)) (formula_of c.args.update.now.body.now) c.args.first (length c.args.table.now) c.requires.fits (mapped_below term_of c.args.update.now.target.now c.args.number (let here = c.requires.number in let other = c.if-number-update.false in let below : c.args.number < length c.args.update.now.target.now = omega arith in below)) (get_or-map term_of c.args.update.now.target.now c.args.number (Var 0) (term_of (Var 0)) (let here = c.requires.number in let other = c.if-number-update.false in let below : c.args.number < length c.args.update.now.target.now = omega arith in below)) c.requires.target c.requires.room).known c.index-size.ensures) c.loop-element.invariant.written))

pub returns-in-Var-clause-unchanged : goal.returns-in-Var-clause-unchanged
returns-in-Var-clause-unchanged t c =
    c.bind-in-Var.ensures.tables ∙ c.loop-element.invariant.back

pub element_of-element-requires : goal.element_of-element-requires
element_of-element-requires t c =
    (next_fixed (protocol_of c.args.update.now.protocol.now) c.args.s.now (environment_of c.args.env.now) (term_of (get_or c.args.update.now.target.now c.args.number (Var 0))) (drop (c.args.number + 1) (map term_of c.args.update.now.target.now)) (get_or c.args.update.now.sorts.now c.args.number 0) (drop (c.args.number + 1) c.args.update.now.sorts.now) (formula_of c.args.update.now.body.now) c.args.first (length c.args.table.now) c.requires.fits (next_place (protocol_of c.args.update.now.protocol.now) c.args.s.now (environment_of c.args.env.now) (map term_of c.args.update.now.target.now) c.args.update.now.sorts.now c.args.number (term_of (get_or c.args.update.now.target.now c.args.number (Var 0))) (term_of (Var 0)) (formula_of c.args.update.now.body.now) c.args.first (length c.args.table.now) c.requires.fits (mapped_below term_of c.args.update.now.target.now c.args.number (let here = c.requires.number in let other = c.if-number-update.false in let below : c.args.number < length c.args.update.now.target.now = omega arith in below)) (get_or-map term_of c.args.update.now.target.now c.args.number (Var 0) (term_of (Var 0)) (let here = c.requires.number in let other = c.if-number-update.false in let below : c.args.number < length c.args.update.now.target.now = omega arith in below)) c.requires.target c.requires.room) (not_variable (get_or c.args.update.now.target.now c.args.number (Var 0)) c.in_default.not-Var)).place

pub overflow_add-number-2 : goal.overflow_add-number-2
overflow_add-number-2 t c =
    search rules

pub overflow_cast-element-2 : goal.overflow_cast-element-2
overflow_cast-element-2 t c =
    search rules

pub overflow_add-base-2 : goal.overflow_add-base-2
overflow_add-base-2 t c =
    record { fits = let bound = (room_more (get_or c.args.s.now.sizes.items (get_or c.args.update.now.sorts.now c.args.number 0) 0) (tuple_count c.args.s.now.sizes.items (drop (c.args.number + 1) c.args.update.now.sorts.now)) c.args.first c.element_of-element.result (length c.args.table.now) (next_place (protocol_of c.args.update.now.protocol.now) c.args.s.now (environment_of c.args.env.now) (map term_of c.args.update.now.target.now) c.args.update.now.sorts.now c.args.number (term_of (get_or c.args.update.now.target.now c.args.number (Var 0))) (term_of (Var 0)) (formula_of c.args.update.now.body.now) c.args.first (length c.args.table.now) c.requires.fits (mapped_below term_of c.args.update.now.target.now c.args.number (let here = c.requires.number in let other = c.if-number-update.false in let below : c.args.number < length c.args.update.now.target.now = omega arith in below)) (get_or-map term_of c.args.update.now.target.now c.args.number (Var 0) (term_of (Var 0)) (let here = c.requires.number in let other = c.if-number-update.false in let below : c.args.number < length c.args.update.now.target.now = omega arith in below)) c.requires.target c.requires.room).some (subst (λ x. x < (get_or c.args.s.now.sizes.items (get_or c.args.update.now.sorts.now c.args.number 0) 0)) (sym (c.element_of-element.ensures (protocol_of c.args.update.now.protocol.now))) (next_fixed (protocol_of c.args.update.now.protocol.now) c.args.s.now (environment_of c.args.env.now) (term_of (get_or c.args.update.now.target.now c.args.number (Var 0))) (drop (c.args.number + 1) (map term_of c.args.update.now.target.now)) (get_or c.args.update.now.sorts.now c.args.number 0) (drop (c.args.number + 1) c.args.update.now.sorts.now) (formula_of c.args.update.now.body.now) c.args.first (length c.args.table.now) c.requires.fits (next_place (protocol_of c.args.update.now.protocol.now) c.args.s.now (environment_of c.args.env.now) (map term_of c.args.update.now.target.now) c.args.update.now.sorts.now c.args.number (term_of (get_or c.args.update.now.target.now c.args.number (Var 0))) (term_of (Var 0)) (formula_of c.args.update.now.body.now) c.args.first (length c.args.table.now) c.requires.fits (mapped_below term_of c.args.update.now.target.now c.args.number (let here = c.requires.number in let other = c.if-number-update.false in let below : c.args.number < length c.args.update.now.target.now = omega arith in below)) (get_or-map term_of c.args.update.now.target.now c.args.number (Var 0) (term_of (Var 0)) (let here = c.requires.number in let other = c.if-number-update.false in let below : c.args.number < length c.args.update.now.target.now = omega arith in below)) c.requires.target c.requires.room) (not_variable (get_or c.args.update.now.target.now c.args.number (Var 0)) c.in_default.not-Var)).element) (next_place (protocol_of c.args.update.now.protocol.now) c.args.s.now (environment_of c.args.env.now) (map term_of c.args.update.now.target.now) c.args.update.now.sorts.now c.args.number (term_of (get_or c.args.update.now.target.now c.args.number (Var 0))) (term_of (Var 0)) (formula_of c.args.update.now.body.now) c.args.first (length c.args.table.now) c.requires.fits (mapped_below term_of c.args.update.now.target.now c.args.number (let here = c.requires.number in let other = c.if-number-update.false in let below : c.args.number < length c.args.update.now.target.now = omega arith in below)) (get_or-map term_of c.args.update.now.target.now c.args.number (Var 0) (term_of (Var 0)) (let here = c.requires.number in let other = c.if-number-update.false in let below : c.args.number < length c.args.update.now.target.now = omega arith in below)) c.requires.target c.requires.room).enough).sum in let short = c.requires.short in let same_size = (size_read c.args.s.now.sizes.items (get_or c.args.update.now.sorts.now c.args.number 0) c.index-size.result.now (next_place (protocol_of c.args.update.now.protocol.now) c.args.s.now (environment_of c.args.env.now) (map term_of c.args.update.now.target.now) c.args.update.now.sorts.now c.args.number (term_of (get_or c.args.update.now.target.now c.args.number (Var 0))) (term_of (Var 0)) (formula_of c.args.update.now.body.now) c.args.first (length c.args.table.now) c.requires.fits (mapped_below term_of c.args.update.now.target.now c.args.number (let here = c.requires.number in let other = c.if-number-update.false in let below : c.args.number < length c.args.update.now.target.now = omega arith in below)) (get_or-map term_of c.args.update.now.target.now c.args.number (Var 0) (term_of (Var 0)) (let here = c.requires.number in let other = c.if-number-update.false in let below : c.args.number < length c.args.update.now.target.now = omega arith in below)) c.requires.target c.requires.room).known c.index-size.ensures) in subst (λ m. c.args.first * m + c.element_of-element.result < 2 ^ 64) (sym same_size) (omega arith) }

pub write-requires-2 : goal.write-requires-2
write-requires-2 t c =
    ((let below : c.args.number < length c.args.update.now.target.now = (let here = c.requires.number in let other = c.if-number-update.false in let below : c.args.number < length c.args.update.now.target.now = omega arith in below) in search rules), (c.requires.fits, ((next_fixed (protocol_of c.args.update.now.protocol.now) c.args.s.now (environment_of c.args.env.now) (term_of (get_or c.args.update.now.target.now c.args.number (Var 0))) (drop (c.args.number + 1) (map term_of c.args.update.now.target.now)) (get_or c.args.update.now.sorts.now c.args.number 0) (drop (c.args.number + 1) c.args.update.now.sorts.now) (formula_of c.args.update.now.body.now) c.args.first (length c.args.table.now) c.requires.fits (next_place (protocol_of c.args.update.now.protocol.now) c.args.s.now (environment_of c.args.env.now) (map term_of c.args.update.now.target.now) c.args.update.now.sorts.now c.args.number (term_of (get_or c.args.update.now.target.now c.args.number (Var 0))) (term_of (Var 0)) (formula_of c.args.update.now.body.now) c.args.first (length c.args.table.now) c.requires.fits (mapped_below term_of c.args.update.now.target.now c.args.number (let here = c.requires.number in let other = c.if-number-update.false in let below : c.args.number < length c.args.update.now.target.now = omega arith in below)) (get_or-map term_of c.args.update.now.target.now c.args.number (Var 0) (term_of (Var 0)) (let here = c.requires.number in let other = c.if-number-update.false in let below : c.args.number < length c.args.update.now.target.now = omega arith in below)) c.requires.target c.requires.room) (not_variable (get_or c.args.update.now.target.now c.args.number (Var 0)) c.in_default.not-Var)).writable, ((let below = (let here = c.requires.number in let other = c.if-number-update.false in let below : c.args.number < length c.args.update.now.target.now = omega arith in below) in omega arith), (c.requires.short, subst (λ m. (c.args.first * m + c.element_of-element.result) * (tuple_count c.args.s.now.sizes.items (drop (c.args.number + 1) c.args.update.now.sorts.now)) + (tuple_count c.args.s.now.sizes.items (drop (c.args.number + 1) c.args.update.now.sorts.now)) ≤ length c.args.table.now) (sym (size_read c.args.s.now.sizes.items (get_or c.args.update.now.sorts.now c.args.number 0) c.index-size.result.now (next_place (protocol_of c.args.update.now.protocol.now) c.args.s.now (environment_of c.args.env.now) (map term_of c.args.update.now.target.now) c.args.update.now.sorts.now c.args.number (term_of (get_or c.args.update.now.target.now c.args.number (Var 0))) (term_of (Var 0)) (formula_of c.args.update.now.body.now) c.args.first (length c.args.table.now) c.requires.fits (mapped_below term_of c.args.update.now.target.now c.args.number (let here = c.requires.number in let other = c.if-number-update.false in let below : c.args.number < length c.args.update.now.target.now = omega arith in below)) (get_or-map term_of c.args.update.now.target.now c.args.number (Var 0) (term_of (Var 0)) (let here = c.requires.number in let other = c.if-number-update.false in let below : c.args.number < length c.args.update.now.target.now = omega arith in below)) c.requires.target c.requires.room).known c.index-size.ensures)) (let bound = (room_more (get_or c.args.s.now.sizes.items (get_or c.args.update.now.sorts.now c.args.number 0) 0) (tuple_count c.args.s.now.sizes.items (drop (c.args.number + 1) c.args.update.now.sorts.now)) c.args.first c.element_of-element.result (length c.args.table.now) (next_place (protocol_of c.args.update.now.protocol.now) c.args.s.now (environment_of c.args.env.now) (map term_of c.args.update.now.target.now) c.args.update.now.sorts.now c.args.number (term_of (get_or c.args.update.now.target.now c.args.number (Var 0))) (term_of (Var 0)) (formula_of c.args.update.now.body.now) c.args.first (length c.args.table.now) c.requires.fits (mapped_below term_of c.args.update.now.target.now c.args.number (let here = c.requires.number in let other = c.if-number-update.false in let below : c.args.number < length c.args.update.now.target.now = omega arith in below)) (get_or-map term_of c.args.update.now.target.now c.args.number (Var 0) (term_of (Var 0)) (let here = c.requires.number in let other = c.if-number-update.false in let below : c.args.number < length c.args.update.now.target.now = omega arith in below)) c.requires.target c.requires.room).some (subst (λ x. x < (get_or c.args.s.now.sizes.items (get_or c.args.update.now.sorts.now c.args.number 0) 0)) (sym (c.element_of-element.ensures (protocol_of c.args.update.now.protocol.now))) (next_fixed (protocol_of c.args.update.now.protocol.now) c.args.s.now (environment_of c.args.env.now) (term_of (get_or c.args.update.now.target.now c.args.number (Var 0))) (drop (c.args.number + 1) (map term_of c.args.update.now.target.now)) (get_or c.args.update.now.sorts.now c.args.number 0) (drop (c.args.number + 1) c.args.update.now.sorts.now) (formula_of c.args.update.now.body.now) c.args.first (length c.args.table.now) c.requires.fits (next_place (protocol_of c.args.update.now.protocol.now) c.args.s.now (environment_of c.args.env.now) (map term_of c.args.update.now.target.now) c.args.update.now.sorts.now c.args.number (term_of (get_or c.args.update.now.target.now c.args.number (Var 0))) (term_of (Var 0)) (formula_of c.args.update.now.body.now) c.args.first (length c.args.table.now) c.requires.fits (mapped_below term_of c.args.update.now.target.now c.args.number (let here = c.requires.number in let other = c.if-number-update.false in let below : c.args.number < length c.args.update.now.target.now = omega arith in below)) (get_or-map term_of c.args.update.now.target.now c.args.number (Var 0) (term_of (Var 0)) (let here = c.requires.number in let other = c.if-number-update.false in let below : c.args.number < length c.args.update.now.target.now = omega arith in below)) c.requires.target c.requires.room) (not_variable (get_or c.args.update.now.target.now c.args.number (Var 0)) c.in_default.not-Var)).element) (next_place (protocol_of c.args.update.now.protocol.now) c.args.s.now (environment_of c.args.env.now) (map term_of c.args.update.now.target.now) c.args.update.now.sorts.now c.args.number (term_of (get_or c.args.update.now.target.now c.args.number (Var 0))) (term_of (Var 0)) (formula_of c.args.update.now.body.now) c.args.first (length c.args.table.now) c.requires.fits (mapped_below term_of c.args.update.now.target.now c.args.number (let here = c.requires.number in let other = c.if-number-update.false in let below : c.args.number < length c.args.update.now.target.now = omega arith in below)) (get_or-map term_of c.args.update.now.target.now c.args.number (Var 0) (term_of (Var 0)) (let here = c.requires.number in let other = c.if-number-update.false in let below : c.args.number < length c.args.update.now.target.now = omega arith in below)) c.requires.target c.requires.room).enough).enough in omega arith))))))

pub returns : goal.returns
returns t c =
    record { written = written_drop (structure_of (protocol_of c.args.update.now.protocol.now) c.args.s.now) (environment_of c.args.env.now) (map term_of c.args.update.now.target.now) c.args.update.now.sorts.now c.args.number (term_of (get_or c.args.update.now.target.now c.args.number (Var 0))) (term_of (Var 0)) (formula_of c.args.update.now.body.now) c.args.first c.args.table.now c.write-2.new.table (mapped_below term_of c.args.update.now.target.now c.args.number (let here = c.requires.number in let other = c.if-number-update.false in let below : c.args.number < length c.args.update.now.target.now = omega arith in below)) (next_inside (protocol_of c.args.update.now.protocol.now) c.args.s.now.sizes.items (environment_of c.args.env.now) (map term_of c.args.update.now.target.now) c.args.update.now.sorts.now c.args.number (formula_of c.args.update.now.body.now) (mapped_below term_of c.args.update.now.target.now c.args.number (let here = c.requires.number in let other = c.if-number-update.false in let below : c.args.number < length c.args.update.now.target.now = omega arith in below)) c.requires.target) (get_or-map term_of c.args.update.now.target.now c.args.number (Var 0) (term_of (Var 0)) (let here = c.requires.number in let other = c.if-number-update.false in let below : c.args.number < length c.args.update.now.target.now = omega arith in below)) (written_fixed (structure_of (protocol_of c.args.update.now.protocol.now) c.args.s.now) (environment_of c.args.env.now) (term_of (get_or c.args.update.now.target.now c.args.number (Var 0))) (drop (c.args.number + 1) (map term_of c.args.update.now.target.now)) (get_or c.args.update.now.sorts.now c.args.number 0) (drop (c.args.number + 1) c.args.update.now.sorts.now) (formula_of c.args.update.now.body.now) c.args.first (value_of_term (structure_of (protocol_of c.args.update.now.protocol.now) c.args.s.now) (environment_of c.args.env.now) (term_of (get_or c.args.update.now.target.now c.args.number (Var 0)))) c.args.table.now c.write-2.new.table (next_fixed (protocol_of c.args.update.now.protocol.now) c.args.s.now (environment_of c.args.env.now) (term_of (get_or c.args.update.now.target.now c.args.number (Var 0))) (drop (c.args.number + 1) (map term_of c.args.update.now.target.now)) (get_or c.args.update.now.sorts.now c.args.number 0) (drop (c.args.number + 1) c.args.update.now.sorts.now) (formula_of c.args.update.now.body.now) c.args.first (length c.args.table.now) c.requires.fits (next_place (protocol_of c.args.update.now.protocol.now) c.args.s.now (environment_of c.args.env.now) (map term_of c.args.update.now.target.now) c.args.update.now.sorts.now c.args.number (term_of (get_or c.args.update.now.target.now c.args.number (Var 0))) (term_of (Var 0)) (formula_of c.args.update.now.body.now) c.args.first (length c.args.table.now) c.requires.fits (mapped_below term_of c.args.update.now.target.now c.args.number (let here = c.requires.number in let other = c.if-number-update.false in let below : c.args.number < length c.args.update.now.target.now = omega arith in below)) (get_or-map term_of c.args.update.now.target.now c.args.number (Var 0) (term_of (Var 0)) (let here = c.requires.number in let other = c.if-number-update.false in let below : c.args.number < length c.args.update.now.target.now = omega arith in below)) c.requires.target c.requires.room) (not_variable (get_or c.args.update.now.target.now c.args.number (Var 0)) c.in_default.not-Var)).fixed (next_fixed (protocol_of c.args.update.now.protocol.now) c.args.s.now (environment_of c.args.env.now) (term_of (get_or c.args.update.now.target.now c.args.number (Var 0))) (drop (c.args.number + 1) (map term_of c.args.update.now.target.now)) (get_or c.args.update.now.sorts.now c.args.number 0) (drop (c.args.number + 1) c.args.update.now.sorts.now) (formula_of c.args.update.now.body.now) c.args.first (length c.args.table.now) c.requires.fits (next_place (protocol_of c.args.update.now.protocol.now) c.args.s.now (environment_of c.args.env.now) (map term_of c.args.update.now.target.now) c.args.update.now.sorts.now c.args.number (term_of (get_or c.args.update.now.target.now c.args.number (Var 0))) (term_of (Var 0)) (formula_of c.args.update.now.body.now) c.args.first (length c.args.table.now) c.requires.fits (mapped_below term_of c.args.update.now.target.now c.args.number (let here = c.requires.number in let other = c.if-number-update.false in let below : c.args.number < length c.args.update.now.target.now = omega arith in below)) (get_or-map term_of c.args.update.now.target.now c.args.number (Var 0) (term_of (Var 0)) (let here = c.requires.number in let other = c.if-number-update.false in let below : c.args.number < length c.args.update.now.target.now = omega arith in below)) c.requires.target c.requires.room) (not_variable (get_or c.args.update.now.target.now c.args.number (Var 0)) c.in_default.not-Var)).element (subst (λ m. IsWritten (structure_of (protocol_of c.args.update.now.protocol.now) c.args.s.now) (environment_of c.args.env.now) (drop (c.args.number + 1) (map term_of c.args.update.now.target.now)) (drop (c.args.number + 1) c.args.update.now.sorts.now) (formula_of c.args.update.now.body.now) (c.args.first * m + (value_of_term (structure_of (protocol_of c.args.update.now.protocol.now) c.args.s.now) (environment_of c.args.env.now) (term_of (get_or c.args.update.now.target.now c.args.number (Var 0))))) c.args.table.now c.write-2.new.table) (size_read c.args.s.now.sizes.items (get_or c.args.update.now.sorts.now c.args.number 0) c.index-size.result.now (next_place (protocol_of c.args.update.now.protocol.now) c.args.s.now (environment_of c.args.env.now) (map term_of c.args.update.now.target.now) c.args.update.now.sorts.now c.args.number (term_of (get_or c.args.update.now.target.now c.args.number (Var 0))) (term_of (Var 0)) (formula_of c.args.update.now.body.now) c.args.first (length c.args.table.now) c.requires.fits (mapped_below term_of c.args.update.now.target.now c.args.number (let here = c.requires.number in let other = c.if-number-update.false in let below : c.args.number < length c.args.update.now.target.now = omega arith in below)) (get_or-map term_of c.args.update.now.target.now c.args.number (Var 0) (term_of (Var 0)) (let here = c.requires.number in let other = c.if-number-update.false in let below : c.args.number < length c.args.update.now.target.now = omega arith in below)) c.requires.target c.requires.room).known c.index-size.ensures) (subst (λ x. IsWritten (structure_of (protocol_of c.args.update.now.protocol.now) c.args.s.now) (environment_of c.args.env.now) (drop (c.args.number + 1) (map term_of c.args.update.now.target.now)) (drop (c.args.number + 1) c.args.update.now.sorts.now) (formula_of c.args.update.now.body.now) (c.args.first * c.index-size.result.now + x) c.args.table.now c.write-2.new.table) (c.element_of-element.ensures (protocol_of c.args.update.now.protocol.now)) c.write-2.ensures.written))); unchanged = c.write-2.ensures.unchanged }
