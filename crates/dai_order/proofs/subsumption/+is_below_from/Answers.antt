use Rattle.std.proofs.Common.{◌≡◌, ◌<◌, ◌+◌, ◌*◌, true, false, length, get_or, set, sym, ◌∙◌, refl, subst, arith}
use Rattle.dai_template.specs.Meeting.{IsBegun, MayStand}
use Rattle.dai_template.proofs.Choices.{choice_begun, choice_only, room_left, element_below, all_seen, next_element}
use Rattle.dai_order.specs.Sides.{AreTaken, clause_over, IsNoneFrom}
use Rattle.dai_order.proofs.Sides.{readable, none_taken, all_gone, begun_next, none_next, last_of, searched_sides, right_known}
use Rattle.dai_order.proofs.subsumption.+is_below_from.Goals as goal
use Rattle.dai_order.proofs.subsumption.+is_below_from.Goals.{then-may_stand+else-is_below_from, else-may_stand}

pub all_may_go-requires : goal.all_may_go-requires
all_may_go-requires t c = readable c.requires.protocol c.args.ordered.now c.args.left.now c.args.literals.now c.args.right.now c.args.others.now c.args.to c.requires.sides c.requires.begun.long

pub returns-then-not-all_may_go-clause-none : goal.returns-then-not-all_may_go-clause-none
returns-then-not-all_may_go-clause-none t c = λ P s b _. none_taken P c.args.ordered.now c.args.left.now c.args.literals.now c.args.right.now c.args.others.now c.args.sort c.args.number c.args.to c.all_may_go.result s c.all_may_go.ensures.exact c.if-not-all_may_go.true

pub returns-then-from-len-clause-found : goal.returns-then-from-len-clause-found
returns-then-from-len-clause-found t c = λ P s b _.
    let end : c.args.sort ≡ length c.args.left.now.counts.items = let a = c.if-from-len.true in let e = c.from.ensures in let d = c.len.ensures in omega (arith, a, e, d) in
    all_gone P c.args.ordered.now c.args.left.now c.args.literals.now c.args.right.now c.args.others.now c.args.sort c.args.number c.args.to s end b (c.all_may_go.ensures.only c.if-not-all_may_go.false)

pub returns-then-number-index-clause-none : goal.returns-then-number-index-clause-none
returns-then-number-index-clause-none t c = λ P s b wrong.
    let counts = c.args.left.now.counts.items in
    let below : c.args.sort < length counts = let a = c.requires.sort_inside in let b = c.if-from-len.false in let d = c.from.ensures in let e = c.len.ensures in grind (arith, a, b, d, e) in
    let last = last_of counts c.args.sort c.args.number c.from-2.result c.index.result.now below c.from-2.ensures c.index.ensures c.if-number-index.true in
    none_next P c.args.left.now c.args.literals.now c.args.right.now c.args.others.now c.args.sort c.args.number c.args.to last
    (c.is_below_from.ensures.none P s (begun_next P c.args.right.now.counts.items counts c.args.sort c.args.number c.args.to last b) wrong)

pub is_below_from-requires-then-may_stand : goal.is_below_from-requires-then-may_stand
is_below_from-requires-then-may_stand t c =
    let counts = c.args.left.now.counts.items in
    let sizes = c.args.right.now.counts.items in
    let below : c.args.sort < length counts = let a = c.requires.sort_inside in let b = c.if-from-len.false in let d = c.from.ensures in let e = c.len.ensures in grind (arith, a, b, d, e) in
    let room = room_left counts c.args.sort c.args.number c.from-2.result c.index.result.now below c.from-2.ensures c.index.ensures c.requires.number_inside c.if-number-index.false in
    let known = right_known c.requires.protocol c.args.ordered.now c.args.left.now c.args.literals.now c.args.right.now c.args.others.now c.args.sort c.requires.sides below in
    let inside = element_below sizes c.args.sort c.from-3.result c.index-2.result.now c.loop-new.new known c.from-3.ensures c.index-2.ensures (let a = c.loop-new-test.true in let e = c.from-new-end.ensures in omega (arith, a, e)) in
    let may = subst (λ k. MayStand (get_or c.args.ordered.now k false) c.args.sort c.args.number c.loop-new.new c.args.to) c.from-in-loop-new.ensures (c.if-may_stand.ensures.only refl) in
    let few = c.requires.sides.left_shape.few c.args.sort in (
      let d = c.decreases in omega (arith, d, room, few),
      record {
        protocol = c.requires.protocol;
        sides = c.requires.sides;
        begun = subst (λ k. IsBegun c.requires.protocol sizes counts c.args.sort (c.args.number + 1) (set c.args.to k c.loop-new.new)) (let at : 4 * c.args.sort + c.args.number ≡ 4 * c.from-then-may_stand.result + c.from-then-may_stand-2.result = let x = c.from-then-may_stand.ensures in let y = c.from-then-may_stand-2.ensures in omega (arith, x, y) in at) (choice_begun c.requires.protocol c.args.ordered.now counts sizes c.args.sort c.args.number c.loop-new.new c.args.to (searched_sides c.requires.protocol c.args.ordered.now c.args.left.now c.args.literals.now c.args.right.now c.args.others.now c.requires.sides) c.requires.begun room inside may);
        sort_inside = c.requires.sort_inside;
        number_inside = omega (arith, room);
      },
    )

pub returns-then-is_below_from-clause-found : goal.returns-then-is_below_from-clause-found
returns-then-is_below_from-clause-found t c = λ P s b _.
    let counts = c.args.left.now.counts.items in
    let sizes = c.args.right.now.counts.items in
    let below : c.args.sort < length counts = let a = c.requires.sort_inside in let b = c.if-from-len.false in let d = c.from.ensures in let e = c.len.ensures in grind (arith, a, b, d, e) in
    let room = room_left counts c.args.sort c.args.number c.from-2.result c.index.result.now below c.from-2.ensures c.index.ensures c.requires.number_inside c.if-number-index.false in
    let known = right_known c.requires.protocol c.args.ordered.now c.args.left.now c.args.literals.now c.args.right.now c.args.others.now c.args.sort c.requires.sides below in
    let inside = element_below sizes c.args.sort c.from-3.result c.index-2.result.now c.loop-new.new known c.from-3.ensures c.index-2.ensures (let a = c.loop-new-test.true in let e = c.from-new-end.ensures in omega (arith, a, e)) in
    let may = subst (λ k. MayStand (get_or c.args.ordered.now k false) c.args.sort c.args.number c.loop-new.new c.args.to) c.from-in-loop-new.ensures (c.if-may_stand.ensures.only refl) in
    c.is_below_from-then-may_stand.ensures.found P s (subst (λ k. IsBegun P sizes counts c.args.sort (c.args.number + 1) (set c.args.to k c.loop-new.new)) (let at : 4 * c.args.sort + c.args.number ≡ 4 * c.from-then-may_stand.result + c.from-then-may_stand-2.result = let x = c.from-then-may_stand.ensures in let y = c.from-then-may_stand-2.ensures in omega (arith, x, y) in at) (choice_begun P c.args.ordered.now counts sizes c.args.sort c.args.number c.loop-new.new c.args.to (searched_sides P c.args.ordered.now c.args.left.now c.args.literals.now c.args.right.now c.args.others.now s) b room inside may)) c.if-is_below_from.true

pub loop-new-preserved : goal.loop-new-preserved
loop-new-preserved t c = λ P s b n below_next.
    let counts = c.args.left.now.counts.items in
    let sizes = c.args.right.now.counts.items in
    let below : c.args.sort < length counts = let a = c.requires.sort_inside in let b = c.if-from-len.false in let d = c.from.ensures in let e = c.len.ensures in grind (arith, a, b, d, e) in
    let room = room_left counts c.args.sort c.args.number c.from-2.result c.index.result.now below c.from-2.ensures c.index.ensures c.requires.number_inside c.if-number-index.false in
    let known = right_known c.requires.protocol c.args.ordered.now c.args.left.now c.args.literals.now c.args.right.now c.args.others.now c.args.sort c.requires.sides below in
    let inside = element_below sizes c.args.sort c.from-3.result c.index-2.result.now c.loop-new.new known c.from-3.ensures c.index-2.ensures (let a = c.loop-new-test.true in let e = c.from-new-end.ensures in omega (arith, a, e)) in
    next_element (λ x. MayStand (get_or c.args.ordered.now c.args.sort false) c.args.sort c.args.number x c.args.to → IsNoneFrom P c.args.left.now c.args.literals.now c.args.right.now c.args.others.now c.args.sort (c.args.number + 1) (set c.args.to (4 * c.args.sort + c.args.number) x)) c.loop-new.new n below_next
    (λ earlier. c.loop-new.invariant P s b n earlier)
    (λ may. elim c.if-may_stand.branch [
      | then-may_stand+else-is_below_from w ↦ subst (λ k. IsNoneFrom P c.args.left.now c.args.literals.now c.args.right.now c.args.others.now c.args.sort (c.args.number + 1) (set c.args.to k c.loop-new.new)) (sym (let at : 4 * c.args.sort + c.args.number ≡ 4 * w.from-then-may_stand.result + w.from-then-may_stand-2.result = let x = w.from-then-may_stand.ensures in let y = w.from-then-may_stand-2.ensures in omega (arith, x, y) in at)) (w.is_below_from-then-may_stand.ensures.none P s (subst (λ k. IsBegun P sizes counts c.args.sort (c.args.number + 1) (set c.args.to k c.loop-new.new)) (let at : 4 * c.args.sort + c.args.number ≡ 4 * w.from-then-may_stand.result + w.from-then-may_stand-2.result = let x = w.from-then-may_stand.ensures in let y = w.from-then-may_stand-2.ensures in omega (arith, x, y) in at) (choice_begun P c.args.ordered.now counts sizes c.args.sort c.args.number c.loop-new.new c.args.to (searched_sides P c.args.ordered.now c.args.left.now c.args.literals.now c.args.right.now c.args.others.now s) b room inside may)) w.if-is_below_from.false)
      | else-may_stand w ↦ absurd (let no : false ≡ true = sym w.if-may_stand.false ∙ c.may_stand.ensures.exact (subst (λ k. MayStand (get_or c.args.ordered.now k false) c.args.sort c.args.number c.loop-new.new c.args.to) (sym c.from-in-loop-new.ensures) may) in let bottom : ⊥ = cc in bottom)
    ])

pub returns-clause-none : goal.returns-clause-none
returns-clause-none t c = λ P s b _.
    let counts = c.args.left.now.counts.items in
    let sizes = c.args.right.now.counts.items in
    let below : c.args.sort < length counts = let a = c.requires.sort_inside in let b = c.if-from-len.false in let d = c.from.ensures in let e = c.len.ensures in grind (arith, a, b, d, e) in
    let room = room_left counts c.args.sort c.args.number c.from-2.result c.index.result.now below c.from-2.ensures c.index.ensures c.requires.number_inside c.if-number-index.false in
    let known = right_known c.requires.protocol c.args.ordered.now c.args.left.now c.args.literals.now c.args.right.now c.args.others.now c.args.sort c.requires.sides below in
    choice_only P c.args.ordered.now counts sizes (λ to. AreTaken P (clause_over c.args.left.now c.args.literals.now) (clause_over c.args.right.now c.args.others.now) to → ⊥) c.args.sort c.args.number c.args.to (searched_sides P c.args.ordered.now c.args.left.now c.args.literals.now c.args.right.now c.args.others.now s) b room
    (λ n inside may. c.loop-new.invariant P s b n (all_seen sizes c.args.sort c.from-3.result c.index-2.result.now c.loop-new.new n known c.from-3.ensures c.index-2.ensures (let a = c.loop-new-test.false in let e = c.from-new-end.ensures in omega (arith, a, e)) inside) may)
