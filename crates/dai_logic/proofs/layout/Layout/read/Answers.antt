use Rattle.std.proofs.Common.{rules, ◌+◌, ◌/◌, ◌%◌, ◌<◌, [], ◌++◌, length, get_or, set, take, drop, sym, ap, ◌∙◌, subst, arith}
use Rattle.dai_logic.specs.Counts.{tuple_at}
use Rattle.dai_logic.specs.Strides.{rows_of}
use Rattle.dai_logic.proofs.Elements.{size_read}
use Rattle.dai_logic.proofs.Strides.{rows_read, read_off, count_at, numbered_at}
use Rattle.dai_logic.proofs.layout.Layout.read.Goals as goal

pub offset_bounds-counts-argument : goal.offset_bounds-counts-argument
offset_bounds-counts-argument c =
    let here = (let known = (count_at c.args.self.now.sizes.items (get_or (rows_of c.args.self.now.sorts) c.args.rel []) c.loop-argument.argument (let room = c.requires.room in let same = c.loop-argument.auto.tuple in let here = c.loop-argument-test.true in let below : c.loop-argument.argument < length (get_or (rows_of c.args.self.now.sorts) c.args.rel []) = omega arith in below)).1 in let same = ap length c.row-counts.ensures in let here : c.loop-argument.argument + 1 < length c.row-counts.result.now = omega arith in here) in search rules

pub bounds-counts-argument : goal.bounds-counts-argument
bounds-counts-argument c =
    (let known = (count_at c.args.self.now.sizes.items (get_or (rows_of c.args.self.now.sorts) c.args.rel []) c.loop-argument.argument (let room = c.requires.room in let same = c.loop-argument.auto.tuple in let here = c.loop-argument-test.true in let below : c.loop-argument.argument < length (get_or (rows_of c.args.self.now.sorts) c.args.rel []) = omega arith in below)).1 in let same = ap length c.row-counts.ensures in let here : c.loop-argument.argument + 1 < length c.row-counts.result.now = omega arith in here)

pub quotient-requires-clause-some : goal.quotient-requires-clause-some
quotient-requires-clause-some c =
    (read_off c.args.self.now.sizes.items (get_or (rows_of c.args.self.now.sorts) c.args.rel []) c.loop-argument.tuple (tuple_at c.args.self.now.sizes.items (get_or (rows_of c.args.self.now.sorts) c.args.rel []) c.args.place) c.loop-argument.argument c.loop-argument.rest (get_or c.row-counts.result.now (c.loop-argument.argument + 1) 0) (c.args.self.now.strides.numbered c.args.rel [] c.requires.known) (let room = c.requires.room in let same = c.loop-argument.auto.tuple in let here = c.loop-argument-test.true in let below : c.loop-argument.argument < length (get_or (rows_of c.args.self.now.sorts) c.args.rel []) = omega arith in below) (let same = c.loop-argument.auto.tuple in let here = c.loop-argument-test.true in let below : c.loop-argument.argument < length c.loop-argument.tuple = omega arith in below) (ap (λ xs. get_or xs (c.loop-argument.argument + 1) 0) c.row-counts.ensures ∙ (count_at c.args.self.now.sizes.items (get_or (rows_of c.args.self.now.sorts) c.args.rel []) c.loop-argument.argument (let room = c.requires.room in let same = c.loop-argument.auto.tuple in let here = c.loop-argument-test.true in let below : c.loop-argument.argument < length (get_or (rows_of c.args.self.now.sorts) c.args.rel []) = omega arith in below)).0) c.loop-argument.invariant.inside c.loop-argument.invariant.written).some

pub quotient-requires-clause-element : goal.quotient-requires-clause-element
quotient-requires-clause-element c =
    subst (λ n. c.loop-argument.rest / (get_or c.row-counts.result.now (c.loop-argument.argument + 1) 0) < n) (sym (size_read c.args.self.now.sizes.items (get_or c.as_slice-sorts.result.now c.loop-argument.argument 0) c.index-size.result.now (subst (λ x. x < length c.args.self.now.sizes.items) (sym (ap (λ xs. get_or xs c.loop-argument.argument 0) (c.as_slice-sorts.ensures.value ∙ rows_read c.args.self.now.sorts c.args.rel c.index.result.now c.requires.known c.index.ensures))) (numbered_at c.args.self.now.sizes.items (get_or (rows_of c.args.self.now.sorts) c.args.rel []) c.loop-argument.argument (c.args.self.now.strides.numbered c.args.rel [] c.requires.known) (let room = c.requires.room in let same = c.loop-argument.auto.tuple in let here = c.loop-argument-test.true in let below : c.loop-argument.argument < length (get_or (rows_of c.args.self.now.sorts) c.args.rel []) = omega arith in below)).known) c.index-size.ensures ∙ ap (λ x. get_or c.args.self.now.sizes.items x 0) (ap (λ xs. get_or xs c.loop-argument.argument 0) (c.as_slice-sorts.ensures.value ∙ rows_read c.args.self.now.sorts c.args.rel c.index.result.now c.requires.known c.index.ensures)))) (read_off c.args.self.now.sizes.items (get_or (rows_of c.args.self.now.sorts) c.args.rel []) c.loop-argument.tuple (tuple_at c.args.self.now.sizes.items (get_or (rows_of c.args.self.now.sorts) c.args.rel []) c.args.place) c.loop-argument.argument c.loop-argument.rest (get_or c.row-counts.result.now (c.loop-argument.argument + 1) 0) (c.args.self.now.strides.numbered c.args.rel [] c.requires.known) (let room = c.requires.room in let same = c.loop-argument.auto.tuple in let here = c.loop-argument-test.true in let below : c.loop-argument.argument < length (get_or (rows_of c.args.self.now.sorts) c.args.rel []) = omega arith in below) (let same = c.loop-argument.auto.tuple in let here = c.loop-argument-test.true in let below : c.loop-argument.argument < length c.loop-argument.tuple = omega arith in below) (ap (λ xs. get_or xs (c.loop-argument.argument + 1) 0) c.row-counts.ensures ∙ (count_at c.args.self.now.sizes.items (get_or (rows_of c.args.self.now.sorts) c.args.rel []) c.loop-argument.argument (let room = c.requires.room in let same = c.loop-argument.auto.tuple in let here = c.loop-argument-test.true in let below : c.loop-argument.argument < length (get_or (rows_of c.args.self.now.sorts) c.args.rel []) = omega arith in below)).0) c.loop-argument.invariant.inside c.loop-argument.invariant.written).element

pub nonzero_rem-rest : goal.nonzero_rem-rest
nonzero_rem-rest c =
    (read_off c.args.self.now.sizes.items (get_or (rows_of c.args.self.now.sorts) c.args.rel []) c.loop-argument.tuple (tuple_at c.args.self.now.sizes.items (get_or (rows_of c.args.self.now.sorts) c.args.rel []) c.args.place) c.loop-argument.argument c.loop-argument.rest (get_or c.row-counts.result.now (c.loop-argument.argument + 1) 0) (c.args.self.now.strides.numbered c.args.rel [] c.requires.known) (let room = c.requires.room in let same = c.loop-argument.auto.tuple in let here = c.loop-argument-test.true in let below : c.loop-argument.argument < length (get_or (rows_of c.args.self.now.sorts) c.args.rel []) = omega arith in below) (let same = c.loop-argument.auto.tuple in let here = c.loop-argument-test.true in let below : c.loop-argument.argument < length c.loop-argument.tuple = omega arith in below) (ap (λ xs. get_or xs (c.loop-argument.argument + 1) 0) c.row-counts.ensures ∙ (count_at c.args.self.now.sizes.items (get_or (rows_of c.args.self.now.sorts) c.args.rel []) c.loop-argument.argument (let room = c.requires.room in let same = c.loop-argument.auto.tuple in let here = c.loop-argument-test.true in let below : c.loop-argument.argument < length (get_or (rows_of c.args.self.now.sorts) c.args.rel []) = omega arith in below)).0) c.loop-argument.invariant.inside c.loop-argument.invariant.written).some

pub loop-argument-preserved : goal.loop-argument-preserved
loop-argument-preserved c =
    record { inside = (read_off c.args.self.now.sizes.items (get_or (rows_of c.args.self.now.sorts) c.args.rel []) c.loop-argument.tuple (tuple_at c.args.self.now.sizes.items (get_or (rows_of c.args.self.now.sorts) c.args.rel []) c.args.place) c.loop-argument.argument c.loop-argument.rest (get_or c.row-counts.result.now (c.loop-argument.argument + 1) 0) (c.args.self.now.strides.numbered c.args.rel [] c.requires.known) (let room = c.requires.room in let same = c.loop-argument.auto.tuple in let here = c.loop-argument-test.true in let below : c.loop-argument.argument < length (get_or (rows_of c.args.self.now.sorts) c.args.rel []) = omega arith in below) (let same = c.loop-argument.auto.tuple in let here = c.loop-argument-test.true in let below : c.loop-argument.argument < length c.loop-argument.tuple = omega arith in below) (ap (λ xs. get_or xs (c.loop-argument.argument + 1) 0) c.row-counts.ensures ∙ (count_at c.args.self.now.sizes.items (get_or (rows_of c.args.self.now.sorts) c.args.rel []) c.loop-argument.argument (let room = c.requires.room in let same = c.loop-argument.auto.tuple in let here = c.loop-argument-test.true in let below : c.loop-argument.argument < length (get_or (rows_of c.args.self.now.sorts) c.args.rel []) = omega arith in below)).0) c.loop-argument.invariant.inside c.loop-argument.invariant.written).inside; written = ap (λ e. take (c.loop-argument.argument + 1) (set c.loop-argument.tuple c.loop-argument.argument e) ++ tuple_at c.args.self.now.sizes.items (drop (c.loop-argument.argument + 1) (get_or (rows_of c.args.self.now.sorts) c.args.rel [])) (c.loop-argument.rest % (get_or c.row-counts.result.now (c.loop-argument.argument + 1) 0))) c.quotient.ensures ∙ (read_off c.args.self.now.sizes.items (get_or (rows_of c.args.self.now.sorts) c.args.rel []) c.loop-argument.tuple (tuple_at c.args.self.now.sizes.items (get_or (rows_of c.args.self.now.sorts) c.args.rel []) c.args.place) c.loop-argument.argument c.loop-argument.rest (get_or c.row-counts.result.now (c.loop-argument.argument + 1) 0) (c.args.self.now.strides.numbered c.args.rel [] c.requires.known) (let room = c.requires.room in let same = c.loop-argument.auto.tuple in let here = c.loop-argument-test.true in let below : c.loop-argument.argument < length (get_or (rows_of c.args.self.now.sorts) c.args.rel []) = omega arith in below) (let same = c.loop-argument.auto.tuple in let here = c.loop-argument-test.true in let below : c.loop-argument.argument < length c.loop-argument.tuple = omega arith in below) (ap (λ xs. get_or xs (c.loop-argument.argument + 1) 0) c.row-counts.ensures ∙ (count_at c.args.self.now.sizes.items (get_or (rows_of c.args.self.now.sorts) c.args.rel []) c.loop-argument.argument (let room = c.requires.room in let same = c.loop-argument.auto.tuple in let here = c.loop-argument-test.true in let below : c.loop-argument.argument < length (get_or (rows_of c.args.self.now.sorts) c.args.rel []) = omega arith in below)).0) c.loop-argument.invariant.inside c.loop-argument.invariant.written).next }
