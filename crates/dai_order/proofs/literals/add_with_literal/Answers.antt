use Rattle.std.proofs.Common.{arith}
use Rattle.dai_template.specs.Spaces.{clause_of}
use Rattle.dai_template.proofs.SpaceShapes.{shape_atoms}
use Rattle.dai_order.specs.Weakenings.{HasLiteralBelow, IsWeakerByLiteral}
use Rattle.dai_order.proofs.MoreLiterals.{literal_too_many}
use Rattle.dai_order.proofs.Gaining.{gained_none, none_below_zero, atom_next, all_literals, few_lits}
use Rattle.dai_order.proofs.literals.add_with_literal.Goals as goal

pub returns-then-len-from : goal.returns-then-len-from
returns-then-len-from c = λ P B h forms.
    gained_none P B c.args.space.now (IsWeakerByLiteral P B (clause_of c.args.space.now c.args.clause.now)) c.args.list.now.items forms
    (λ d u w. literal_too_many P B (clause_of c.args.space.now c.args.clause.now) d (let e = c.if-len-from.true in let a = c.len.ensures.value in let b = c.from.ensures in let l = h.space_of.literals in omega (arith, e, a, b, l)) u w)

pub overflow_cast-atom-end : goal.overflow_cast-atom-end
overflow_cast-atom-end c =
    let few = (shape_atoms c.requires.protocol c.requires.bounds c.args.space.now c.args.clause.now.shape c.index.result.now c.requires.is.space_of c.requires.is.shape c.index.ensures).1 in
    let is = c.len-atom-end.ensures in
    omega (arith, few, is)

pub add_over_atom-requires : goal.add_over_atom-requires
add_over_atom-requires c =
    let P = c.requires.protocol in
    let B = c.requires.bounds in
    let count = (shape_atoms P B c.args.space.now c.args.clause.now.shape c.index.result.now c.requires.is.space_of c.requires.is.shape c.index.ensures).0 in
    let is = c.len-atom-end.ensures in
    let test = c.loop-atom-test.true in
    record {
      protocol = P;
      bounds = B;
      is = c.requires.is;
      forms = (c.loop-atom.invariant P B c.requires.is c.requires.forms).forms;
      room = few_lits P B c.args.space.now c.args.clause.now c.len.result c.from.result c.requires.is c.len.ensures.value c.from.ensures c.if-len-from.false;
      inside = omega (arith, count, is, test);
    }

pub loop-atom-init : goal.loop-atom-init
loop-atom-init c = λ P B h forms.
    gained_none P B c.args.space.now (HasLiteralBelow P (clause_of c.args.space.now c.args.clause.now) 0) c.args.list.now.items forms (λ d t q. none_below_zero P (clause_of c.args.space.now c.args.clause.now) d q)

pub loop-atom-preserved : goal.loop-atom-preserved
loop-atom-preserved c = λ P B h forms.
    let so_far = c.loop-atom.invariant P B h forms in
    atom_next P B c.args.space.now (clause_of c.args.space.now c.args.clause.now) c.loop-atom.atom c.args.list.now.items c.loop-atom.list.items c.add_over_atom.new.list.items so_far (c.in_ok-add_over_atom.ensures P B h so_far.forms)

pub returns : goal.returns
returns c = λ P B h forms.
    let count = (shape_atoms P B c.args.space.now c.args.clause.now.shape c.index.result.now h.space_of h.shape c.index.ensures).0 in
    let is = c.len-atom-end.ensures in
    let past = c.loop-atom-test.false in
    let top = c.loop-atom.auto.atom-end in
    all_literals P B c.args.space.now (clause_of c.args.space.now c.args.clause.now) c.loop-atom.atom c.args.list.now.items c.loop-atom.list.items h.template (few_lits P B c.args.space.now c.args.clause.now c.len.result c.from.result h c.len.ensures.value c.from.ensures c.if-len-from.false) (omega (arith, count, is, past, top)) (c.loop-atom.invariant P B h forms)
