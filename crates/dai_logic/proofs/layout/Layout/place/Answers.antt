use Rattle.std.proofs.Common.{rules, ◌≡◌, ◌+◌, ◌*◌, ◌<◌, ◌^◌, [], length, get_or, drop, sym, ap, subst, arith}
use Rattle.dai_logic.specs.Counts.{tuple_place}
use Rattle.dai_logic.specs.Strides.{rows_of}
use Rattle.dai_logic.proofs.Tuples.{tuple_length, place_inside}
use Rattle.dai_logic.proofs.Strides.{added, added_all}
use Rattle.dai_logic.proofs.layout.Layout.place.Goals as goal

pub offset_bounds-counts-argument : goal.offset_bounds-counts-argument
offset_bounds-counts-argument c =
    let here = (let known = (added c.args.self.now.sizes.items (get_or (rows_of c.args.self.now.sorts) c.args.rel []) c.args.tuple.now c.loop-argument.argument c.loop-argument.place (tuple_place c.args.self.now.sizes.items (get_or (rows_of c.args.self.now.sorts) c.args.rel []) c.args.tuple.now) (let as_many = tuple_length c.args.self.now.sizes.items (get_or (rows_of c.args.self.now.sorts) c.args.rel []) c.args.tuple.now c.requires.tuple in let here = c.loop-argument-test.true in let below : c.loop-argument.argument < length (get_or (rows_of c.args.self.now.sorts) c.args.rel []) = omega arith in below) c.loop-argument-test.true c.loop-argument.invariant.tuple c.loop-argument.invariant.number).known in let same = ap length c.row-counts.ensures in let here : c.loop-argument.argument + 1 < length c.row-counts.result.now = omega arith in here) in search rules

pub bounds-counts-argument : goal.bounds-counts-argument
bounds-counts-argument c =
    (let known = (added c.args.self.now.sizes.items (get_or (rows_of c.args.self.now.sorts) c.args.rel []) c.args.tuple.now c.loop-argument.argument c.loop-argument.place (tuple_place c.args.self.now.sizes.items (get_or (rows_of c.args.self.now.sorts) c.args.rel []) c.args.tuple.now) (let as_many = tuple_length c.args.self.now.sizes.items (get_or (rows_of c.args.self.now.sorts) c.args.rel []) c.args.tuple.now c.requires.tuple in let here = c.loop-argument-test.true in let below : c.loop-argument.argument < length (get_or (rows_of c.args.self.now.sorts) c.args.rel []) = omega arith in below) c.loop-argument-test.true c.loop-argument.invariant.tuple c.loop-argument.invariant.number).known in let same = ap length c.row-counts.ensures in let here : c.loop-argument.argument + 1 < length c.row-counts.result.now = omega arith in here)

pub overflow_mul-place : goal.overflow_mul-place
overflow_mul-place c =
    record { fits = let few = (c.args.self.now.strides.numbered c.args.rel [] c.requires.known).few in let inside = place_inside c.args.self.now.sizes.items (get_or (rows_of c.args.self.now.sorts) c.args.rel []) c.args.tuple.now c.requires.tuple in subst (λ n. get_or c.args.tuple.now c.loop-argument.argument 0 * n < 2 ^ 64) (ap (λ xs. get_or xs (c.loop-argument.argument + 1) 0) (sym c.row-counts.ensures)) (let bound = (added c.args.self.now.sizes.items (get_or (rows_of c.args.self.now.sorts) c.args.rel []) c.args.tuple.now c.loop-argument.argument c.loop-argument.place (tuple_place c.args.self.now.sizes.items (get_or (rows_of c.args.self.now.sorts) c.args.rel []) c.args.tuple.now) (let as_many = tuple_length c.args.self.now.sizes.items (get_or (rows_of c.args.self.now.sorts) c.args.rel []) c.args.tuple.now c.requires.tuple in let here = c.loop-argument-test.true in let below : c.loop-argument.argument < length (get_or (rows_of c.args.self.now.sorts) c.args.rel []) = omega arith in below) c.loop-argument-test.true c.loop-argument.invariant.tuple c.loop-argument.invariant.number).product in omega arith) }

pub overflow_add-place-in-loop-argument : goal.overflow_add-place-in-loop-argument
overflow_add-place-in-loop-argument c =
    record { fits = let few = (c.args.self.now.strides.numbered c.args.rel [] c.requires.known).few in let inside = place_inside c.args.self.now.sizes.items (get_or (rows_of c.args.self.now.sorts) c.args.rel []) c.args.tuple.now c.requires.tuple in subst (λ n. c.loop-argument.place + get_or c.args.tuple.now c.loop-argument.argument 0 * n < 2 ^ 64) (ap (λ xs. get_or xs (c.loop-argument.argument + 1) 0) (sym c.row-counts.ensures)) (let bound = (added c.args.self.now.sizes.items (get_or (rows_of c.args.self.now.sorts) c.args.rel []) c.args.tuple.now c.loop-argument.argument c.loop-argument.place (tuple_place c.args.self.now.sizes.items (get_or (rows_of c.args.self.now.sorts) c.args.rel []) c.args.tuple.now) (let as_many = tuple_length c.args.self.now.sizes.items (get_or (rows_of c.args.self.now.sorts) c.args.rel []) c.args.tuple.now c.requires.tuple in let here = c.loop-argument-test.true in let below : c.loop-argument.argument < length (get_or (rows_of c.args.self.now.sorts) c.args.rel []) = omega arith in below) c.loop-argument-test.true c.loop-argument.invariant.tuple c.loop-argument.invariant.number).sum in omega arith) }

pub loop-argument-preserved : goal.loop-argument-preserved
loop-argument-preserved c =
    record { tuple = (added c.args.self.now.sizes.items (get_or (rows_of c.args.self.now.sorts) c.args.rel []) c.args.tuple.now c.loop-argument.argument c.loop-argument.place (tuple_place c.args.self.now.sizes.items (get_or (rows_of c.args.self.now.sorts) c.args.rel []) c.args.tuple.now) (let as_many = tuple_length c.args.self.now.sizes.items (get_or (rows_of c.args.self.now.sorts) c.args.rel []) c.args.tuple.now c.requires.tuple in let here = c.loop-argument-test.true in let below : c.loop-argument.argument < length (get_or (rows_of c.args.self.now.sorts) c.args.rel []) = omega arith in below) c.loop-argument-test.true c.loop-argument.invariant.tuple c.loop-argument.invariant.number).tuple; number = subst (λ n. c.loop-argument.place + get_or c.args.tuple.now c.loop-argument.argument 0 * n + tuple_place c.args.self.now.sizes.items (drop (c.loop-argument.argument + 1) (get_or (rows_of c.args.self.now.sorts) c.args.rel [])) (drop (c.loop-argument.argument + 1) c.args.tuple.now) ≡ (tuple_place c.args.self.now.sizes.items (get_or (rows_of c.args.self.now.sorts) c.args.rel []) c.args.tuple.now)) (ap (λ xs. get_or xs (c.loop-argument.argument + 1) 0) (sym c.row-counts.ensures)) (added c.args.self.now.sizes.items (get_or (rows_of c.args.self.now.sorts) c.args.rel []) c.args.tuple.now c.loop-argument.argument c.loop-argument.place (tuple_place c.args.self.now.sizes.items (get_or (rows_of c.args.self.now.sorts) c.args.rel []) c.args.tuple.now) (let as_many = tuple_length c.args.self.now.sizes.items (get_or (rows_of c.args.self.now.sorts) c.args.rel []) c.args.tuple.now c.requires.tuple in let here = c.loop-argument-test.true in let below : c.loop-argument.argument < length (get_or (rows_of c.args.self.now.sorts) c.args.rel []) = omega arith in below) c.loop-argument-test.true c.loop-argument.invariant.tuple c.loop-argument.invariant.number).next }

pub returns : goal.returns
returns c =
    added_all c.args.self.now.sizes.items (get_or (rows_of c.args.self.now.sorts) c.args.rel []) c.args.tuple.now c.loop-argument.argument c.loop-argument.place (tuple_place c.args.self.now.sizes.items (get_or (rows_of c.args.self.now.sorts) c.args.rel []) c.args.tuple.now) c.loop-argument-test.false c.loop-argument.invariant.number
