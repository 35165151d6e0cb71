use Rattle.std.proofs.Common.{◌≡◌, ◌≢◌, ◌<◌, ◌+◌, ◌*◌, ℕ, List, true, false, length, get_or, set, map, sym, ◌∙◌, refl, subst, arith}
use Rattle.std.specs.Ordering.{nat_cmp}
use Rattle.std.specs.Cmp.Lexicographic.{slice_cmp}
use Rattle.std.specs.declared.cmp.Ordering.TheVariants.{Greater}
use Rattle.dai_template.specs.Atoms.{atom_of}
use Rattle.dai_template.specs.Meeting.{IsBegun, MayStand}
use Rattle.dai_template.specs.Renamings.{IsImage, IsLeastFrom}
use Rattle.dai_template.proofs.Choices.{choice_begun, choice_only, room_left, element_below, all_seen, next_element}
use Rattle.dai_template.proofs.Sought.{searched_shape, all_renamed, end_least, end_smaller, if_some, some_weaker, none_from}
use Rattle.dai_template.proofs.canonical.+smaller_from.Goals as goal
use Rattle.dai_template.proofs.canonical.+smaller_from.Goals.{then-may_stand+else-is_some, else-may_stand}

pub returns-then-from-len-clause-least : goal.returns-then-from-len-clause-least
returns-then-from-len-clause-least t c = λ P h are b none.
    let counts = c.args.shape.now.counts.items in
    let atoms = map atom_of c.args.shape.now.atoms.items in
    let same : c.args.sort ≡ length c.args.shape.now.counts.items = let a = c.if-from-len.true in let e = c.from.ensures in let d = c.len.ensures in omega (arith, a, e, d) in
    let renamed = all_renamed P c.args.ordered.now counts atoms c.args.sort c.args.number c.args.to h b same in
    end_least P counts atoms c.args.literals.now c.args.sort c.args.number c.args.to same renamed are (c.smaller_image.ensures.none P renamed none)

pub returns-then-from-len-clause-smaller : goal.returns-then-from-len-clause-smaller
returns-then-from-len-clause-smaller t c =
    let counts = c.args.shape.now.counts.items in
    let atoms = map atom_of c.args.shape.now.atoms.items in
    let same : c.args.sort ≡ length c.args.shape.now.counts.items = let a = c.if-from-len.true in let e = c.from.ensures in let d = c.len.ensures in omega (arith, a, e, d) in
    if_some c.smaller_image.result _ _ _
    (λ smaller are_those less P h are b.
    let renamed = all_renamed P c.args.ordered.now counts atoms c.args.sort c.args.number c.args.to h b same in
    end_smaller P counts atoms c.args.literals.now c.args.to smaller.items renamed are (are_those P renamed) less)
    c.smaller_image.ensures.some c.smaller_image.ensures.less

pub smaller_from-found-requires : goal.smaller_from-found-requires
smaller_from-found-requires t c =
    let counts = c.args.shape.now.counts.items in
    let atoms = map atom_of c.args.shape.now.atoms.items in
    let below : c.args.sort < length counts = let a = c.requires.sort_inside in let b = c.if-from-len.false in let d = c.from.ensures in let e = c.len.ensures in grind (arith, a, b, d, e) in
    let room = room_left counts c.args.sort c.args.number c.from-2.result c.index.result.now below c.from-2.ensures c.index.ensures c.requires.number_inside c.if-number-index.false in
    let inside = element_below counts c.args.sort c.from-3.result c.index-2.result.now c.loop-new.new below c.from-3.ensures c.index-2.ensures (let a = c.loop-new-test.true in let e = c.from-new-end.ensures in omega (arith, a, e)) in
    let may = subst (λ k. MayStand (get_or c.args.ordered.now k false) c.args.sort c.args.number c.loop-new.new c.args.to) c.from-in-loop-new.ensures (c.if-may_stand.ensures.only refl) in
    let few = c.requires.shape.few c.args.sort in (
      let d = c.decreases in omega (arith, d, room, few),
      record {
        protocol = c.requires.protocol;
        shape = c.requires.shape;
        literals_are = c.requires.literals_are;
        few_literals = c.requires.few_literals;
        begun = (subst (λ k. IsBegun c.requires.protocol counts counts c.args.sort (c.args.number + 1) (set c.args.to k c.loop-new.new)) (let at : 4 * c.args.sort + c.args.number ≡ 4 * c.from-then-may_stand.result + c.from-then-may_stand-2.result = let x = c.from-then-may_stand.ensures in let y = c.from-then-may_stand-2.ensures in omega (arith, x, y) in at) (choice_begun c.requires.protocol c.args.ordered.now counts counts c.args.sort c.args.number c.loop-new.new c.args.to (searched_shape c.requires.protocol c.args.ordered.now counts atoms c.requires.shape) c.requires.begun room inside may));
        sort_inside = c.requires.sort_inside;
        number_inside = omega (arith, room);
      },
    )

pub returns-then-is_some-clause-smaller : goal.returns-then-is_some-clause-smaller
returns-then-is_some-clause-smaller t c =
    let counts = c.args.shape.now.counts.items in
    let atoms = map atom_of c.args.shape.now.atoms.items in
    let below : c.args.sort < length counts = let a = c.requires.sort_inside in let b = c.if-from-len.false in let d = c.from.ensures in let e = c.len.ensures in grind (arith, a, b, d, e) in
    let room = room_left counts c.args.sort c.args.number c.from-2.result c.index.result.now below c.from-2.ensures c.index.ensures c.requires.number_inside c.if-number-index.false in
    let inside = element_below counts c.args.sort c.from-3.result c.index-2.result.now c.loop-new.new below c.from-3.ensures c.index-2.ensures (let a = c.loop-new-test.true in let e = c.from-new-end.ensures in omega (arith, a, e)) in
    let may = subst (λ k. MayStand (get_or c.args.ordered.now k false) c.args.sort c.args.number c.loop-new.new c.args.to) c.from-in-loop-new.ensures (c.if-may_stand.ensures.only refl) in
    some_weaker c.smaller_from-found.result _ _ (λ smaller k P h are b. k P h are (subst (λ k. IsBegun P counts counts c.args.sort (c.args.number + 1) (set c.args.to k c.loop-new.new)) (let at : 4 * c.args.sort + c.args.number ≡ 4 * c.from-then-may_stand.result + c.from-then-may_stand-2.result = let x = c.from-then-may_stand.ensures in let y = c.from-then-may_stand-2.ensures in omega (arith, x, y) in at) (choice_begun P c.args.ordered.now counts counts c.args.sort c.args.number c.loop-new.new c.args.to (searched_shape P c.args.ordered.now counts atoms h) b room inside may))) c.smaller_from-found.ensures.smaller

pub loop-new-preserved : goal.loop-new-preserved
loop-new-preserved t c = λ P h are b n below_next.
    let counts = c.args.shape.now.counts.items in
    let atoms = map atom_of c.args.shape.now.atoms.items in
    let below : c.args.sort < length counts = let a = c.requires.sort_inside in let b = c.if-from-len.false in let d = c.from.ensures in let e = c.len.ensures in grind (arith, a, b, d, e) in
    let room = room_left counts c.args.sort c.args.number c.from-2.result c.index.result.now below c.from-2.ensures c.index.ensures c.requires.number_inside c.if-number-index.false in
    let inside = element_below counts c.args.sort c.from-3.result c.index-2.result.now c.loop-new.new below c.from-3.ensures c.index-2.ensures (let a = c.loop-new-test.true in let e = c.from-new-end.ensures in omega (arith, a, e)) in
    next_element (λ x. MayStand (get_or c.args.ordered.now c.args.sort false) c.args.sort c.args.number x c.args.to → IsLeastFrom P counts c.args.literals.now c.args.sort (c.args.number + 1) (set c.args.to (4 * c.args.sort + c.args.number) x)) c.loop-new.new n below_next
    (λ earlier. c.loop-new.invariant P h are b n earlier)
    (λ may. elim c.if-may_stand.branch [
      | then-may_stand+else-is_some w ↦ subst (λ k. IsLeastFrom P counts c.args.literals.now c.args.sort (c.args.number + 1) (set c.args.to k c.loop-new.new)) (sym (let at : 4 * c.args.sort + c.args.number ≡ 4 * w.from-then-may_stand.result + w.from-then-may_stand-2.result = let x = w.from-then-may_stand.ensures in let y = w.from-then-may_stand-2.ensures in omega (arith, x, y) in at)) (w.smaller_from-found.ensures.least P h are (subst (λ k. IsBegun P counts counts c.args.sort (c.args.number + 1) (set c.args.to k c.loop-new.new)) (let at : 4 * c.args.sort + c.args.number ≡ 4 * w.from-then-may_stand.result + w.from-then-may_stand-2.result = let x = w.from-then-may_stand.ensures in let y = w.from-then-may_stand-2.ensures in omega (arith, x, y) in at) (choice_begun P c.args.ordered.now counts counts c.args.sort c.args.number c.loop-new.new c.args.to (searched_shape P c.args.ordered.now counts atoms h) b room inside may)) (none_from w.smaller_from-found.result w.is_some.result w.is_some.ensures w.if-is_some.false))
      | else-may_stand w ↦ absurd (let no : false ≡ true = sym w.if-may_stand.false ∙ c.may_stand.ensures.exact (subst (λ k. MayStand (get_or c.args.ordered.now k false) c.args.sort c.args.number c.loop-new.new c.args.to) (sym c.from-in-loop-new.ensures) may) in let bottom : ⊥ = cc in bottom)
    ])

pub returns-clause-least : goal.returns-clause-least
returns-clause-least t c = λ P h are b _.
    let counts = c.args.shape.now.counts.items in
    let atoms = map atom_of c.args.shape.now.atoms.items in
    let below : c.args.sort < length counts = let a = c.requires.sort_inside in let b = c.if-from-len.false in let d = c.from.ensures in let e = c.len.ensures in grind (arith, a, b, d, e) in
    let room = room_left counts c.args.sort c.args.number c.from-2.result c.index.result.now below c.from-2.ensures c.index.ensures c.requires.number_inside c.if-number-index.false in
    choice_only P c.args.ordered.now counts counts (λ elements. (others : List ℕ) → IsImage P counts elements c.args.literals.now others → slice_cmp nat_cmp c.args.literals.now others ≢ Greater) c.args.sort c.args.number c.args.to (searched_shape P c.args.ordered.now counts atoms h) b room
    (λ n inside may. c.loop-new.invariant P h are b n (all_seen counts c.args.sort c.from-3.result c.index-2.result.now c.loop-new.new n below c.from-3.ensures c.index-2.ensures (let a = c.loop-new-test.false in let e = c.from-new-end.ensures in omega (arith, a, e)) inside) may)
