use Rattle.std.proofs.Common.{◌≡◌, ◌<◌, ◌+◌, ◌*◌, true, false, length, get_or, set, map, drop, sym, ◌∙◌, ap, refl, subst, arith}
use Rattle.std.proofs.lemmas.List.{length-set}
use Rattle.dai_template.specs.Atoms.{variable_of, atom_of}
use Rattle.dai_template.specs.Meeting.{IsMetFrom, LeavesRoom}
use Rattle.dai_template.proofs.Choices.{next_element, element_below, all_seen}
use Rattle.dai_template.proofs.Partial.{open_count, fewer_at, not_true}
use Rattle.dai_template.proofs.ReadSoFar.{read_at, leaves_as, atom_read, has_places, has_value, met_here, met_later, met_rest, met_by_no_literal, next_partial, next_met, each_met, next_variable, leaves_at, partial_at, met_at, put_back}
use Rattle.dai_template.proofs.meeting.+is_met_from.Goals as goal
use Rattle.dai_template.proofs.meeting.+is_met_from.Goals.{then-leaves_room+else-not-is_met_from, else-leaves_room}

pub returns-then-at-literals-clause-exact : goal.returns-then-at-literals-clause-exact
returns-then-at-literals-clause-exact t c = λ P j p met. met_by_no_literal P c.args.ordered.now c.args.shape.now.counts.items (map atom_of c.args.shape.now.atoms.items) c.args.literals.now c.args.s.now c.args.at c.args.bound.now c.args.values.now c.if-at-literals.true j c.requires.enough p met

pub unbound-requires-clause-stored : goal.unbound-requires-clause-stored
unbound-requires-clause-stored t c =
    let below : c.args.at < length c.args.literals.now = let a = c.requires.inside in let b = c.if-at-literals.false in omega (arith, a, b) in
    let is = atom_read c.requires.protocol c.args.ordered.now c.args.shape.now.counts.items c.args.shape.now.atoms.items c.args.literals.now c.args.s.now c.args.at (get_or c.args.literals.now c.args.at 0) c.from.result c.index.result.now c.requires.judged below refl c.from.ensures c.index.ensures in
    has_places c.requires.protocol c.args.ordered.now c.args.shape.now.counts.items (map atom_of c.args.shape.now.atoms.items) c.args.literals.now c.args.s.now c.args.bound.now c.args.values.now (get_or c.args.literals.now c.args.at 0) (atom_of c.index.result.now) c.requires.judged c.requires.partial is

pub is_true-requires-clause-valued : goal.is_true-requires-clause-valued
is_true-requires-clause-valued t c =
    let below : c.args.at < length c.args.literals.now = let a = c.requires.inside in let b = c.if-at-literals.false in omega (arith, a, b) in
    let is = atom_read c.requires.protocol c.args.ordered.now c.args.shape.now.counts.items c.args.shape.now.atoms.items c.args.literals.now c.args.s.now c.args.at (get_or c.args.literals.now c.args.at 0) c.from.result c.index.result.now c.requires.judged below refl c.from.ensures c.index.ensures in
    (c.requires.protocol, (has_value c.requires.protocol c.args.ordered.now c.args.shape.now.counts.items (map atom_of c.args.shape.now.atoms.items) c.args.literals.now c.args.s.now c.args.bound.now c.args.values.now (get_or c.args.literals.now c.args.at 0) (atom_of c.index.result.now) c.requires.judged c.requires.partial is (c.in_default.ensures.none refl)))

pub returns-then-is_true-clause-only : goal.returns-then-is_true-clause-only
returns-then-is_true-clause-only t c = λ P j p e.
    let below : c.args.at < length c.args.literals.now = let a = c.requires.inside in let b = c.if-at-literals.false in omega (arith, a, b) in
    let is = atom_read P c.args.ordered.now c.args.shape.now.counts.items c.args.shape.now.atoms.items c.args.literals.now c.args.s.now c.args.at (get_or c.args.literals.now c.args.at 0) c.from.result c.index.result.now j below refl c.from.ensures c.index.ensures in
    met_here P c.args.shape.now.counts.items (map atom_of c.args.shape.now.atoms.items) c.args.literals.now c.args.s.now c.args.at c.args.bound.now c.args.values.now (atom_of c.index.result.now) below is (c.in_default.ensures.none refl) (sym (c.is_true.ensures P (has_value P c.args.ordered.now c.args.shape.now.counts.items (map atom_of c.args.shape.now.atoms.items) c.args.literals.now c.args.s.now c.args.bound.now c.args.values.now (get_or c.args.literals.now c.args.at 0) (atom_of c.index.result.now) j p is (c.in_default.ensures.none refl))) ∙ c.if-is_true.true)

pub returns-in_default-clause-only : goal.returns-in_default-clause-only
returns-in_default-clause-only t c = λ P j p e.
    let below : c.args.at < length c.args.literals.now = let a = c.requires.inside in let b = c.if-at-literals.false in omega (arith, a, b) in
    met_later P c.args.shape.now.counts.items (map atom_of c.args.shape.now.atoms.items) c.args.literals.now c.args.s.now c.args.at c.args.bound.now c.args.values.now below (c.is_met_from.ensures.only P j p e)

pub returns-in_default-clause-exact : goal.returns-in_default-clause-exact
returns-in_default-clause-exact t c = λ P j p met.
    let below : c.args.at < length c.args.literals.now = let a = c.requires.inside in let b = c.if-at-literals.false in omega (arith, a, b) in
    let is = atom_read P c.args.ordered.now c.args.shape.now.counts.items c.args.shape.now.atoms.items c.args.literals.now c.args.s.now c.args.at (get_or c.args.literals.now c.args.at 0) c.from.result c.index.result.now j below refl c.from.ensures c.index.ensures in
    c.is_met_from.ensures.exact P j p (met_rest P c.args.shape.now.counts.items (map atom_of c.args.shape.now.atoms.items) c.args.literals.now c.args.s.now c.args.at c.args.bound.now c.args.values.now (atom_of c.index.result.now) below is (c.in_default.ensures.none refl) (sym (c.is_true.ensures P (has_value P c.args.ordered.now c.args.shape.now.counts.items (map atom_of c.args.shape.now.atoms.items) c.args.literals.now c.args.s.now c.args.bound.now c.args.values.now (get_or c.args.literals.now c.args.at 0) (atom_of c.index.result.now) j p is (c.in_default.ensures.none refl))) ∙ c.if-is_true.false) met)

pub bounds-ordered-sort : goal.bounds-ordered-sort
bounds-ordered-sort t c =
    let below : c.args.at < length c.args.literals.now = let a = c.requires.inside in let b = c.if-at-literals.false in omega (arith, a, b) in
    let is = atom_read c.requires.protocol c.args.ordered.now c.args.shape.now.counts.items c.args.shape.now.atoms.items c.args.literals.now c.args.s.now c.args.at (get_or c.args.literals.now c.args.at 0) c.from.result c.index.result.now c.requires.judged below refl c.from.ensures c.index.ensures in
    let v = next_variable c.requires.protocol c.args.ordered.now c.args.shape.now.counts.items (map atom_of c.args.shape.now.atoms.items) c.args.literals.now c.args.s.now c.args.bound.now (get_or c.args.literals.now c.args.at 0) (atom_of c.index.result.now) (variable_of c.in-Some.var) c.requires.judged is c.in-Some.ensures.some in
    let k = v.ordered in let same = c.from-sort.ensures in omega (arith, k, same)

pub index-requires-2 : goal.index-requires-2
index-requires-2 t c =
    let below : c.args.at < length c.args.literals.now = let a = c.requires.inside in let b = c.if-at-literals.false in omega (arith, a, b) in
    let is = atom_read c.requires.protocol c.args.ordered.now c.args.shape.now.counts.items c.args.shape.now.atoms.items c.args.literals.now c.args.s.now c.args.at (get_or c.args.literals.now c.args.at 0) c.from.result c.index.result.now c.requires.judged below refl c.from.ensures c.index.ensures in
    let v = next_variable c.requires.protocol c.args.ordered.now c.args.shape.now.counts.items (map atom_of c.args.shape.now.atoms.items) c.args.literals.now c.args.s.now c.args.bound.now (get_or c.args.literals.now c.args.at 0) (atom_of c.index.result.now) (variable_of c.in-Some.var) c.requires.judged is c.in-Some.ensures.some in
    let k = v.known in let same = c.from-sort.ensures in omega (arith, k, same)

pub index-requires-3 : goal.index-requires-3
index-requires-3 t c =
    let below : c.args.at < length c.args.literals.now = let a = c.requires.inside in let b = c.if-at-literals.false in omega (arith, a, b) in
    let is = atom_read c.requires.protocol c.args.ordered.now c.args.shape.now.counts.items c.args.shape.now.atoms.items c.args.literals.now c.args.s.now c.args.at (get_or c.args.literals.now c.args.at 0) c.from.result c.index.result.now c.requires.judged below refl c.from.ensures c.index.ensures in
    let v = next_variable c.requires.protocol c.args.ordered.now c.args.shape.now.counts.items (map atom_of c.args.shape.now.atoms.items) c.args.literals.now c.args.s.now c.args.bound.now (get_or c.args.literals.now c.args.at 0) (atom_of c.index.result.now) (variable_of c.in-Some.var) c.requires.judged is c.in-Some.ensures.some in
    let k = v.sized in let same = c.from-sort.ensures in omega (arith, k, same)

pub leaves_room-requires-clause-places : goal.leaves_room-requires-clause-places
leaves_room-requires-clause-places t c = ap length c.loop-element.invariant.bound ∙ c.requires.partial.places

pub leaves_room-requires-clause-long : goal.leaves_room-requires-clause-long
leaves_room-requires-clause-long t c = ap length c.loop-element.invariant.values ∙ c.requires.partial.long

pub leaves_room-requires-clause-fresh : goal.leaves_room-requires-clause-fresh
leaves_room-requires-clause-fresh t c =
    let below : c.args.at < length c.args.literals.now = let a = c.requires.inside in let b = c.if-at-literals.false in omega (arith, a, b) in
    let is = atom_read c.requires.protocol c.args.ordered.now c.args.shape.now.counts.items c.args.shape.now.atoms.items c.args.literals.now c.args.s.now c.args.at (get_or c.args.literals.now c.args.at 0) c.from.result c.index.result.now c.requires.judged below refl c.from.ensures c.index.ensures in
    let v = next_variable c.requires.protocol c.args.ordered.now c.args.shape.now.counts.items (map atom_of c.args.shape.now.atoms.items) c.args.literals.now c.args.s.now c.args.bound.now (get_or c.args.literals.now c.args.at 0) (atom_of c.index.result.now) (variable_of c.in-Some.var) c.requires.judged is c.in-Some.ensures.some in
    λ b. v.none (subst (λ x. get_or x (4 * c.in-Some.var.0 + c.in-Some.var.1) false ≡ true) c.loop-element.invariant.bound b)

pub leaves_room-requires-clause-known : goal.leaves_room-requires-clause-known
leaves_room-requires-clause-known t c =
    let below : c.args.at < length c.args.literals.now = let a = c.requires.inside in let b = c.if-at-literals.false in omega (arith, a, b) in
    let is = atom_read c.requires.protocol c.args.ordered.now c.args.shape.now.counts.items c.args.shape.now.atoms.items c.args.literals.now c.args.s.now c.args.at (get_or c.args.literals.now c.args.at 0) c.from.result c.index.result.now c.requires.judged below refl c.from.ensures c.index.ensures in
    let v = next_variable c.requires.protocol c.args.ordered.now c.args.shape.now.counts.items (map atom_of c.args.shape.now.atoms.items) c.args.literals.now c.args.s.now c.args.bound.now (get_or c.args.literals.now c.args.at 0) (atom_of c.index.result.now) (variable_of c.in-Some.var) c.requires.judged is c.in-Some.ensures.some in
    v.few

pub leaves_room-requires-clause-few : goal.leaves_room-requires-clause-few
leaves_room-requires-clause-few t c =
    let below : c.args.at < length c.args.literals.now = let a = c.requires.inside in let b = c.if-at-literals.false in omega (arith, a, b) in
    let is = atom_read c.requires.protocol c.args.ordered.now c.args.shape.now.counts.items c.args.shape.now.atoms.items c.args.literals.now c.args.s.now c.args.at (get_or c.args.literals.now c.args.at 0) c.from.result c.index.result.now c.requires.judged below refl c.from.ensures c.index.ensures in
    let v = next_variable c.requires.protocol c.args.ordered.now c.args.shape.now.counts.items (map atom_of c.args.shape.now.atoms.items) c.args.literals.now c.args.s.now c.args.bound.now (get_or c.args.literals.now c.args.at 0) (atom_of c.index.result.now) (variable_of c.in-Some.var) c.requires.judged is c.in-Some.ensures.some in
    let count = read_at c.args.shape.now.counts.items c.in-Some.var.0 c.from-sort.result c.index-2.result.now v.known c.from-sort.ensures c.index-2.ensures in
    let k = v.small in
    omega (arith, count, k)

pub bounds-values-place : goal.bounds-values-place
bounds-values-place t c =
    let below : c.args.at < length c.args.literals.now = let a = c.requires.inside in let b = c.if-at-literals.false in omega (arith, a, b) in
    let is = atom_read c.requires.protocol c.args.ordered.now c.args.shape.now.counts.items c.args.shape.now.atoms.items c.args.literals.now c.args.s.now c.args.at (get_or c.args.literals.now c.args.at 0) c.from.result c.index.result.now c.requires.judged below refl c.from.ensures c.index.ensures in
    let v = next_variable c.requires.protocol c.args.ordered.now c.args.shape.now.counts.items (map atom_of c.args.shape.now.atoms.items) c.args.literals.now c.args.s.now c.args.bound.now (get_or c.args.literals.now c.args.at 0) (atom_of c.index.result.now) (variable_of c.in-Some.var) c.requires.judged is c.in-Some.ensures.some in
    let k = v.stored in let a = c.from-sort.ensures in let b = c.from-2.ensures in let l = c.requires.partial.long in omega (arith, k, a, b, l)

pub bounds-bound-place : goal.bounds-bound-place
bounds-bound-place t c =
    let below : c.args.at < length c.args.literals.now = let a = c.requires.inside in let b = c.if-at-literals.false in omega (arith, a, b) in
    let is = atom_read c.requires.protocol c.args.ordered.now c.args.shape.now.counts.items c.args.shape.now.atoms.items c.args.literals.now c.args.s.now c.args.at (get_or c.args.literals.now c.args.at 0) c.from.result c.index.result.now c.requires.judged below refl c.from.ensures c.index.ensures in
    let v = next_variable c.requires.protocol c.args.ordered.now c.args.shape.now.counts.items (map atom_of c.args.shape.now.atoms.items) c.args.literals.now c.args.s.now c.args.bound.now (get_or c.args.literals.now c.args.at 0) (atom_of c.index.result.now) (variable_of c.in-Some.var) c.requires.judged is c.in-Some.ensures.some in
    let k = v.stored in let a = c.from-sort.ensures in let b = c.from-2.ensures in let l = (ap length c.loop-element.invariant.bound ∙ c.requires.partial.places) in omega (arith, k, a, b, l)

pub bounds-values-place-then-leaves_room : goal.bounds-values-place-then-leaves_room
bounds-values-place-then-leaves_room t c =
    let below : c.args.at < length c.args.literals.now = let a = c.requires.inside in let b = c.if-at-literals.false in omega (arith, a, b) in
    let is = atom_read c.requires.protocol c.args.ordered.now c.args.shape.now.counts.items c.args.shape.now.atoms.items c.args.literals.now c.args.s.now c.args.at (get_or c.args.literals.now c.args.at 0) c.from.result c.index.result.now c.requires.judged below refl c.from.ensures c.index.ensures in
    let v = next_variable c.requires.protocol c.args.ordered.now c.args.shape.now.counts.items (map atom_of c.args.shape.now.atoms.items) c.args.literals.now c.args.s.now c.args.bound.now (get_or c.args.literals.now c.args.at 0) (atom_of c.index.result.now) (variable_of c.in-Some.var) c.requires.judged is c.in-Some.ensures.some in
    let k = v.stored in let a = c.from-sort.ensures in let b = c.from-2.ensures in let l = (ap length c.loop-element.invariant.values ∙ c.requires.partial.long) in omega (arith, k, a, b, l)

pub bounds-bound-place-then-leaves_room : goal.bounds-bound-place-then-leaves_room
bounds-bound-place-then-leaves_room t c =
    let below : c.args.at < length c.args.literals.now = let a = c.requires.inside in let b = c.if-at-literals.false in omega (arith, a, b) in
    let is = atom_read c.requires.protocol c.args.ordered.now c.args.shape.now.counts.items c.args.shape.now.atoms.items c.args.literals.now c.args.s.now c.args.at (get_or c.args.literals.now c.args.at 0) c.from.result c.index.result.now c.requires.judged below refl c.from.ensures c.index.ensures in
    let v = next_variable c.requires.protocol c.args.ordered.now c.args.shape.now.counts.items (map atom_of c.args.shape.now.atoms.items) c.args.literals.now c.args.s.now c.args.bound.now (get_or c.args.literals.now c.args.at 0) (atom_of c.index.result.now) (variable_of c.in-Some.var) c.requires.judged is c.in-Some.ensures.some in
    let k = v.stored in let a = c.from-sort.ensures in let b = c.from-2.ensures in let l = (ap length (c.is_met_from-then-leaves_room.ensures.bound c.if-not-is_met_from.false) ∙ (length-set c.loop-element.bound (4 * c.from-sort.result + c.from-2.result) true ∙ (ap length c.loop-element.invariant.bound ∙ c.requires.partial.places))) in omega (arith, k, a, b, l)

pub bounds-values-place-then-leaves_room-2 : goal.bounds-values-place-then-leaves_room-2
bounds-values-place-then-leaves_room-2 t c =
    let below : c.args.at < length c.args.literals.now = let a = c.requires.inside in let b = c.if-at-literals.false in omega (arith, a, b) in
    let is = atom_read c.requires.protocol c.args.ordered.now c.args.shape.now.counts.items c.args.shape.now.atoms.items c.args.literals.now c.args.s.now c.args.at (get_or c.args.literals.now c.args.at 0) c.from.result c.index.result.now c.requires.judged below refl c.from.ensures c.index.ensures in
    let v = next_variable c.requires.protocol c.args.ordered.now c.args.shape.now.counts.items (map atom_of c.args.shape.now.atoms.items) c.args.literals.now c.args.s.now c.args.bound.now (get_or c.args.literals.now c.args.at 0) (atom_of c.index.result.now) (variable_of c.in-Some.var) c.requires.judged is c.in-Some.ensures.some in
    let k = v.stored in let a = c.from-sort.ensures in let b = c.from-2.ensures in let l = (ap length (c.is_met_from-then-leaves_room.ensures.values c.if-not-is_met_from.false) ∙ (length-set c.loop-element.values (4 * c.from-sort.result + c.from-2.result) c.loop-element.element ∙ (ap length c.loop-element.invariant.values ∙ c.requires.partial.long))) in omega (arith, k, a, b, l)

pub is_met_from-requires-then-leaves_room : goal.is_met_from-requires-then-leaves_room
is_met_from-requires-then-leaves_room t c =
    let below : c.args.at < length c.args.literals.now = let a = c.requires.inside in let b = c.if-at-literals.false in omega (arith, a, b) in
    let is = atom_read c.requires.protocol c.args.ordered.now c.args.shape.now.counts.items c.args.shape.now.atoms.items c.args.literals.now c.args.s.now c.args.at (get_or c.args.literals.now c.args.at 0) c.from.result c.index.result.now c.requires.judged below refl c.from.ensures c.index.ensures in
    let v = next_variable c.requires.protocol c.args.ordered.now c.args.shape.now.counts.items (map atom_of c.args.shape.now.atoms.items) c.args.literals.now c.args.s.now c.args.bound.now (get_or c.args.literals.now c.args.at 0) (atom_of c.index.result.now) (variable_of c.in-Some.var) c.requires.judged is c.in-Some.ensures.some in
    let order : get_or c.args.ordered.now c.from-sort.result false ≡ get_or c.args.ordered.now c.in-Some.var.0 false = ap (λ k. get_or c.args.ordered.now k false) c.from-sort.ensures in
    let count = read_at c.args.shape.now.counts.items c.in-Some.var.0 c.from-sort.result c.index-2.result.now v.known c.from-sort.ensures c.index-2.ensures in
    let size = read_at c.args.s.now.sizes.items c.in-Some.var.0 c.from-sort.result c.index-3.result.now v.sized c.from-sort.ensures c.index-3.ensures in
    let at : 4 * c.in-Some.var.0 + c.in-Some.var.1 ≡ 4 * c.from-sort.result + c.from-2.result = let a = c.from-sort.ensures in let b = c.from-2.ensures in omega (arith, a, b) in
    let fewer = fewer_at c.args.bound.now (4 * c.in-Some.var.0 + c.in-Some.var.1) (4 * c.from-sort.result + c.from-2.result) at (let k = v.stored in let long = c.requires.partial.places in omega (arith, k, long)) v.none in
    let here = ap (λ b. open_count (set b (4 * c.from-sort.result + c.from-2.result) true)) c.loop-element.invariant.bound in (
      let d = c.decreases in omega (arith, d, fewer, here),
      record {
        protocol = c.requires.protocol;
        judged = c.requires.judged;
        partial = (partial_at c.requires.protocol c.args.s.now.sizes.items c.args.shape.now.counts.items c.args.bound.now c.loop-element.bound c.args.values.now c.loop-element.values (4 * c.in-Some.var.0 + c.in-Some.var.1) (4 * c.from-sort.result + c.from-2.result) c.loop-element.element (sym c.loop-element.invariant.bound) (sym c.loop-element.invariant.values) at (next_partial c.requires.protocol c.args.ordered.now c.args.shape.now.counts.items (map atom_of c.args.shape.now.atoms.items) c.args.literals.now c.args.s.now c.args.bound.now c.args.values.now c.in-Some.var.0 c.in-Some.var.1 c.loop-element.element c.requires.judged c.requires.partial v.inside v.none (element_below c.args.s.now.sizes.items c.in-Some.var.0 c.from-sort.result c.index-3.result.now c.loop-element.element v.sized c.from-sort.ensures c.index-3.ensures c.loop-element-test.true) (leaves_at (get_or c.args.ordered.now c.in-Some.var.0 false) (get_or c.args.shape.now.counts.items c.in-Some.var.0 0) (get_or c.args.s.now.sizes.items c.in-Some.var.0 0) c.in-Some.var.0 c.in-Some.var.1 c.loop-element.element c.loop-element.bound c.args.bound.now c.loop-element.values c.args.values.now c.loop-element.invariant.bound c.loop-element.invariant.values (leaves_as _ _ _ _ _ _ c.in-Some.var.0 c.in-Some.var.1 c.loop-element.element c.loop-element.bound c.loop-element.values order count size (c.leaves_room.ensures.0 c.if-leaves_room.true)))));
        enough = c.requires.enough;
        inside = c.requires.inside;
      },
    )

pub returns-then-not-is_met_from-clause-exact : goal.returns-then-not-is_met_from-clause-exact
returns-then-not-is_met_from-clause-exact t c = λ P j p met.
    let below : c.args.at < length c.args.literals.now = let a = c.requires.inside in let b = c.if-at-literals.false in omega (arith, a, b) in
    let is = atom_read P c.args.ordered.now c.args.shape.now.counts.items c.args.shape.now.atoms.items c.args.literals.now c.args.s.now c.args.at (get_or c.args.literals.now c.args.at 0) c.from.result c.index.result.now j below refl c.from.ensures c.index.ensures in
    let v = next_variable P c.args.ordered.now c.args.shape.now.counts.items (map atom_of c.args.shape.now.atoms.items) c.args.literals.now c.args.s.now c.args.bound.now (get_or c.args.literals.now c.args.at 0) (atom_of c.index.result.now) (variable_of c.in-Some.var) j is c.in-Some.ensures.some in
    let order : get_or c.args.ordered.now c.from-sort.result false ≡ get_or c.args.ordered.now c.in-Some.var.0 false = ap (λ k. get_or c.args.ordered.now k false) c.from-sort.ensures in
    let count = read_at c.args.shape.now.counts.items c.in-Some.var.0 c.from-sort.result c.index-2.result.now v.known c.from-sort.ensures c.index-2.ensures in
    let size = read_at c.args.s.now.sizes.items c.in-Some.var.0 c.from-sort.result c.index-3.result.now v.sized c.from-sort.ensures c.index-3.ensures in
    let at : 4 * c.in-Some.var.0 + c.in-Some.var.1 ≡ 4 * c.from-sort.result + c.from-2.result = let a = c.from-sort.ensures in let b = c.from-2.ensures in omega (arith, a, b) in
    sym c.if-not-is_met_from.true
    ∙ c.is_met_from-then-leaves_room.ensures.exact P j (partial_at P c.args.s.now.sizes.items c.args.shape.now.counts.items c.args.bound.now c.loop-element.bound c.args.values.now c.loop-element.values (4 * c.in-Some.var.0 + c.in-Some.var.1) (4 * c.from-sort.result + c.from-2.result) c.loop-element.element (sym c.loop-element.invariant.bound) (sym c.loop-element.invariant.values) at (next_partial P c.args.ordered.now c.args.shape.now.counts.items (map atom_of c.args.shape.now.atoms.items) c.args.literals.now c.args.s.now c.args.bound.now c.args.values.now c.in-Some.var.0 c.in-Some.var.1 c.loop-element.element j p v.inside v.none (element_below c.args.s.now.sizes.items c.in-Some.var.0 c.from-sort.result c.index-3.result.now c.loop-element.element v.sized c.from-sort.ensures c.index-3.ensures c.loop-element-test.true) (leaves_at (get_or c.args.ordered.now c.in-Some.var.0 false) (get_or c.args.shape.now.counts.items c.in-Some.var.0 0) (get_or c.args.s.now.sizes.items c.in-Some.var.0 0) c.in-Some.var.0 c.in-Some.var.1 c.loop-element.element c.loop-element.bound c.args.bound.now c.loop-element.values c.args.values.now c.loop-element.invariant.bound c.loop-element.invariant.values (leaves_as _ _ _ _ _ _ c.in-Some.var.0 c.in-Some.var.1 c.loop-element.element c.loop-element.bound c.loop-element.values order count size (c.leaves_room.ensures.0 c.if-leaves_room.true)))))
    (met_at P c.args.shape.now.counts.items (map atom_of c.args.shape.now.atoms.items) (drop c.args.at c.args.literals.now) c.args.s.now c.args.bound.now c.loop-element.bound c.args.values.now c.loop-element.values (4 * c.in-Some.var.0 + c.in-Some.var.1) (4 * c.from-sort.result + c.from-2.result) c.loop-element.element (sym c.loop-element.invariant.bound) (sym c.loop-element.invariant.values) at (next_met P c.args.shape.now.counts.items (map atom_of c.args.shape.now.atoms.items) (drop c.args.at c.args.literals.now) c.args.s.now c.args.bound.now c.args.values.now c.in-Some.var.0 c.in-Some.var.1 c.loop-element.element v.none p met))

pub loop-element-preserved : goal.loop-element-preserved
loop-element-preserved t c = record {
  bound =
      let below : c.args.at < length c.args.literals.now = let a = c.requires.inside in let b = c.if-at-literals.false in omega (arith, a, b) in
      let is = atom_read c.requires.protocol c.args.ordered.now c.args.shape.now.counts.items c.args.shape.now.atoms.items c.args.literals.now c.args.s.now c.args.at (get_or c.args.literals.now c.args.at 0) c.from.result c.index.result.now c.requires.judged below refl c.from.ensures c.index.ensures in
      let v = next_variable c.requires.protocol c.args.ordered.now c.args.shape.now.counts.items (map atom_of c.args.shape.now.atoms.items) c.args.literals.now c.args.s.now c.args.bound.now (get_or c.args.literals.now c.args.at 0) (atom_of c.index.result.now) (variable_of c.in-Some.var) c.requires.judged is c.in-Some.ensures.some in
      let at : 4 * c.in-Some.var.0 + c.in-Some.var.1 ≡ 4 * c.from-sort.result + c.from-2.result = let a = c.from-sort.ensures in let b = c.from-2.ensures in omega (arith, a, b) in
      elim c.if-leaves_room.branch [
        | then-leaves_room+else-not-is_met_from w ↦ w.bound-is ∙ put_back c.args.bound.now w.is_met_from-then-leaves_room.new.bound (set c.loop-element.bound (4 * c.from-sort.result + c.from-2.result) true) (4 * c.from-sort.result + c.from-2.result) true false false (w.is_met_from-then-leaves_room.ensures.bound w.if-not-is_met_from.false) (ap (λ b. set b (4 * c.from-sort.result + c.from-2.result) true) c.loop-element.invariant.bound) (sym (not_true (get_or c.args.bound.now (4 * c.from-sort.result + c.from-2.result) false) (λ b. v.none (ap (λ k. get_or c.args.bound.now k false) at ∙ b))))
        | else-leaves_room w ↦ w.bound-is ∙ c.loop-element.invariant.bound
      ];
  values = elim c.if-leaves_room.branch [
    | then-leaves_room+else-not-is_met_from w ↦ w.values-is ∙ put_back c.args.values.now w.is_met_from-then-leaves_room.new.values (set c.loop-element.values (4 * c.from-sort.result + c.from-2.result) c.loop-element.element) (4 * c.from-sort.result + c.from-2.result) c.loop-element.element (get_or c.args.values.now (4 * c.from-sort.result + c.from-2.result) 0) 0 (w.is_met_from-then-leaves_room.ensures.values w.if-not-is_met_from.false) (ap (λ xs. set xs (4 * c.from-sort.result + c.from-2.result) c.loop-element.element) c.loop-element.invariant.values) refl
    | else-leaves_room w ↦ w.values-is ∙ c.loop-element.invariant.values
  ];
  met = λ P j p e h.
      let below : c.args.at < length c.args.literals.now = let a = c.requires.inside in let b = c.if-at-literals.false in omega (arith, a, b) in
      let is = atom_read P c.args.ordered.now c.args.shape.now.counts.items c.args.shape.now.atoms.items c.args.literals.now c.args.s.now c.args.at (get_or c.args.literals.now c.args.at 0) c.from.result c.index.result.now j below refl c.from.ensures c.index.ensures in
      let v = next_variable P c.args.ordered.now c.args.shape.now.counts.items (map atom_of c.args.shape.now.atoms.items) c.args.literals.now c.args.s.now c.args.bound.now (get_or c.args.literals.now c.args.at 0) (atom_of c.index.result.now) (variable_of c.in-Some.var) j is c.in-Some.ensures.some in
      let order : get_or c.args.ordered.now c.from-sort.result false ≡ get_or c.args.ordered.now c.in-Some.var.0 false = ap (λ k. get_or c.args.ordered.now k false) c.from-sort.ensures in
      let count = read_at c.args.shape.now.counts.items c.in-Some.var.0 c.from-sort.result c.index-2.result.now v.known c.from-sort.ensures c.index-2.ensures in
      let size = read_at c.args.s.now.sizes.items c.in-Some.var.0 c.from-sort.result c.index-3.result.now v.sized c.from-sort.ensures c.index-3.ensures in
      let at : 4 * c.in-Some.var.0 + c.in-Some.var.1 ≡ 4 * c.from-sort.result + c.from-2.result = let a = c.from-sort.ensures in let b = c.from-2.ensures in omega (arith, a, b) in
      next_element (λ x. LeavesRoom (get_or c.args.ordered.now c.in-Some.var.0 false) (get_or c.args.shape.now.counts.items c.in-Some.var.0 0) (get_or c.args.s.now.sizes.items c.in-Some.var.0 0) c.in-Some.var.0 c.in-Some.var.1 x c.args.bound.now c.args.values.now → IsMetFrom P c.args.shape.now.counts.items (map atom_of c.args.shape.now.atoms.items) (drop c.args.at c.args.literals.now) c.args.s.now (set c.args.bound.now (4 * c.in-Some.var.0 + c.in-Some.var.1) true) (set c.args.values.now (4 * c.in-Some.var.0 + c.in-Some.var.1) x)) c.loop-element.element e h
      (λ earlier. c.loop-element.invariant.met P j p e earlier)
      (λ leaves. elim c.if-leaves_room.branch [
        | then-leaves_room+else-not-is_met_from w ↦ (met_at P c.args.shape.now.counts.items (map atom_of c.args.shape.now.atoms.items) (drop c.args.at c.args.literals.now) c.args.s.now c.loop-element.bound c.args.bound.now c.loop-element.values c.args.values.now (4 * c.from-sort.result + c.from-2.result) (4 * c.in-Some.var.0 + c.in-Some.var.1) c.loop-element.element c.loop-element.invariant.bound c.loop-element.invariant.values (sym at) (w.is_met_from-then-leaves_room.ensures.only P j (partial_at P c.args.s.now.sizes.items c.args.shape.now.counts.items c.args.bound.now c.loop-element.bound c.args.values.now c.loop-element.values (4 * c.in-Some.var.0 + c.in-Some.var.1) (4 * c.from-sort.result + c.from-2.result) c.loop-element.element (sym c.loop-element.invariant.bound) (sym c.loop-element.invariant.values) at (next_partial P c.args.ordered.now c.args.shape.now.counts.items (map atom_of c.args.shape.now.atoms.items) c.args.literals.now c.args.s.now c.args.bound.now c.args.values.now c.in-Some.var.0 c.in-Some.var.1 c.loop-element.element j p v.inside v.none (element_below c.args.s.now.sizes.items c.in-Some.var.0 c.from-sort.result c.index-3.result.now c.loop-element.element v.sized c.from-sort.ensures c.index-3.ensures c.loop-element-test.true) (leaves_at (get_or c.args.ordered.now c.in-Some.var.0 false) (get_or c.args.shape.now.counts.items c.in-Some.var.0 0) (get_or c.args.s.now.sizes.items c.in-Some.var.0 0) c.in-Some.var.0 c.in-Some.var.1 c.loop-element.element c.loop-element.bound c.args.bound.now c.loop-element.values c.args.values.now c.loop-element.invariant.bound c.loop-element.invariant.values (leaves_as _ _ _ _ _ _ c.in-Some.var.0 c.in-Some.var.1 c.loop-element.element c.loop-element.bound c.loop-element.values order count size (c.leaves_room.ensures.0 w.if-leaves_room.true))))) w.if-not-is_met_from.false))
        | else-leaves_room w ↦ absurd (let no : false ≡ true = sym w.if-leaves_room.false ∙ c.leaves_room.ensures.1 (leaves_as _ _ _ _ _ _ c.in-Some.var.0 c.in-Some.var.1 c.loop-element.element c.loop-element.bound c.loop-element.values (sym order) (sym count) (sym size) (leaves_at (get_or c.args.ordered.now c.in-Some.var.0 false) (get_or c.args.shape.now.counts.items c.in-Some.var.0 0) (get_or c.args.s.now.sizes.items c.in-Some.var.0 0) c.in-Some.var.0 c.in-Some.var.1 c.loop-element.element c.args.bound.now c.loop-element.bound c.args.values.now c.loop-element.values (sym c.loop-element.invariant.bound) (sym c.loop-element.invariant.values) leaves)) in let bottom : ⊥ = cc in bottom)
      ]);
}

pub returns-clause-only : goal.returns-clause-only
returns-clause-only t c = λ P j p e.
    let below : c.args.at < length c.args.literals.now = let a = c.requires.inside in let b = c.if-at-literals.false in omega (arith, a, b) in
    let is = atom_read P c.args.ordered.now c.args.shape.now.counts.items c.args.shape.now.atoms.items c.args.literals.now c.args.s.now c.args.at (get_or c.args.literals.now c.args.at 0) c.from.result c.index.result.now j below refl c.from.ensures c.index.ensures in
    let v = next_variable P c.args.ordered.now c.args.shape.now.counts.items (map atom_of c.args.shape.now.atoms.items) c.args.literals.now c.args.s.now c.args.bound.now (get_or c.args.literals.now c.args.at 0) (atom_of c.index.result.now) (variable_of c.in-Some.var) j is c.in-Some.ensures.some in
    each_met P c.args.ordered.now c.args.shape.now.counts.items (map atom_of c.args.shape.now.atoms.items) c.args.literals.now (drop c.args.at c.args.literals.now) c.args.s.now c.args.bound.now c.args.values.now c.in-Some.var.0 c.in-Some.var.1 j p v.inside v.none (λ x inside leaves. c.loop-element.invariant.met P j p x (all_seen c.args.s.now.sizes.items c.in-Some.var.0 c.from-sort.result c.index-3.result.now c.loop-element.element x v.sized c.from-sort.ensures c.index-3.ensures c.loop-element-test.false inside) leaves)

pub returns-clause-bound : goal.returns-clause-bound
returns-clause-bound t c = λ e. c.loop-element.invariant.bound

pub returns-clause-values : goal.returns-clause-values
returns-clause-values t c = λ e. c.loop-element.invariant.values
