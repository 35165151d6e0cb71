use Rattle.std.proofs.Common.{◌<◌, length, ap, arith}
use Rattle.std.proofs.lemmas.List.Edits.{length-remove}
use Rattle.dai_template.specs.Spaces.{clause_of}
use Rattle.dai_template.specs.Lists.{clauses_of}
use Rattle.dai_order.specs.Parts.{IsBelowBut}
use Rattle.dai_order.proofs.Dropping.{shorter_clause, part_stands, none_missed, next_place, below_from, either_way}
use Rattle.dai_order.proofs.parts.+is_above_from.Goals as goal

pub is_above_from-requires : goal.is_above_from-requires
is_above_from-requires t c = (
  let d = c.decreases in let e = ap length c.without_literal.ensures.literals in let k = length-remove c.args.clause.now.lits.items c.loop-place.place (let a = c.loop-place-test.true in let b = c.len-place-end.ensures.value in let low : c.loop-place.place < length c.args.clause.now.lits.items = omega (arith, a, b) in low) in omega (arith, d, e, k),
  record {
    protocol = c.requires.protocol;
    bounds = c.requires.bounds;
    is = (shorter_clause c.requires.protocol c.requires.bounds c.args.space.now c.args.clause.now c.without_literal.result c.loop-place.place c.requires.is (let a = c.loop-place-test.true in let b = c.len-place-end.ensures.value in let low : c.loop-place.place < length c.args.clause.now.lits.items = omega (arith, a, b) in low) c.without_literal.ensures.shape c.without_literal.ensures.literals);
    forms = c.requires.forms;
  },
)

pub returns-then-is_above_from-clause-some : goal.returns-then-is_above_from-clause-some
returns-then-is_above_from-clause-some t c = λ P B h forms _.
    part_stands P B c.args.space.now c.args.members.now c.args.clause.now c.without_literal.result c.loop-place.place h forms (let a = c.loop-place-test.true in let b = c.len-place-end.ensures.value in let low : c.loop-place.place < length c.args.clause.now.lits.items = omega (arith, a, b) in low) c.without_literal.ensures.shape c.without_literal.ensures.literals
    (c.is_above_from.ensures.some P B (shorter_clause P B c.args.space.now c.args.clause.now c.without_literal.result c.loop-place.place h (let a = c.loop-place-test.true in let b = c.len-place-end.ensures.value in let low : c.loop-place.place < length c.args.clause.now.lits.items = omega (arith, a, b) in low) c.without_literal.ensures.shape c.without_literal.ensures.literals) forms c.if-is_above_from.true)

pub loop-place-preserved : goal.loop-place-preserved
loop-place-preserved t c = λ P B h forms k from below b.
    next_place (λ n. IsBelowBut P (clauses_of c.args.space.now c.args.members.now) (clause_of c.args.space.now c.args.clause.now) n) c.loop-place.place k below
    (λ before. c.loop-place.invariant P B h forms k from before)
    (none_missed P B c.args.space.now c.args.members.now c.args.clause.now c.without_literal.result c.loop-place.place h (let a = c.loop-place-test.true in let b = c.len-place-end.ensures.value in let low : c.loop-place.place < length c.args.clause.now.lits.items = omega (arith, a, b) in low) c.without_literal.ensures.shape c.without_literal.ensures.literals
    (c.is_above_from.ensures.none P B (shorter_clause P B c.args.space.now c.args.clause.now c.without_literal.result c.loop-place.place h (let a = c.loop-place-test.true in let b = c.len-place-end.ensures.value in let low : c.loop-place.place < length c.args.clause.now.lits.items = omega (arith, a, b) in low) c.without_literal.ensures.shape c.without_literal.ensures.literals) forms c.if-is_above_from.false))
    b

pub returns-clause-none : goal.returns-clause-none
returns-clause-none t c = λ P B h forms _ b.
    below_from P B c.args.space.now c.args.members.now (clause_of c.args.space.now c.args.clause.now) c.args.from c.loop-place.place h.template forms (either_way c.args.from (length c.args.clause.now.lits.items))
    (let a = c.loop-place-test.false in let e = c.len-place-end.ensures.value in omega (arith, a, e))
    (c.has_whole_member.ensures.none P B h forms c.if-has_whole_member.false)
    (c.loop-place.invariant P B h forms) b
