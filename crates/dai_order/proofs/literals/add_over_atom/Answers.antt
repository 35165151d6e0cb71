use Rattle.std.proofs.Common.{◌<◌, ◌*◌, ◌+◌, ℕ, List, length, refl, sym, subst, arith}
use Rattle.dai_model.specs.Clause.{atoms_of}
use Rattle.dai_template.specs.Spaces.{clause_of}
use Rattle.dai_order.specs.Weakenings.{IsNewAtom, HasLiteralOver}
use Rattle.dai_order.proofs.Gaining.{gained_none, longer_clause, few_atoms, same_room, same_atoms, both_signs}
use Rattle.dai_order.proofs.literals.add_over_atom.Goals as goal

pub returns-then-names : goal.returns-then-names
returns-then-names c = λ P B h forms.
    gained_none P B c.args.space.now (HasLiteralOver P (clause_of c.args.space.now c.args.clause.now) c.args.atom) c.args.list.now.items forms
    (λ d t q. c.names.ensures.some c.if-names.true (subst (λ (ls : List ℕ). IsNewAtom ls c.args.atom) (sym c.as_slice.ensures.value) q.is_new))

pub overflow_mul-atom : goal.overflow_mul-atom
overflow_mul-atom c = let few = few_atoms c.requires.protocol c.requires.bounds c.args.space.now c.args.clause.now c.requires.is in let inside = c.requires.inside in omega (arith, few, inside)

pub overflow_mul-atom-2 : goal.overflow_mul-atom-2
overflow_mul-atom-2 c = let few = few_atoms c.requires.protocol c.requires.bounds c.args.space.now c.args.clause.now c.requires.is in let inside = c.requires.inside in omega (arith, few, inside)

pub overflow_add-atom : goal.overflow_add-atom
overflow_add-atom c = let few = few_atoms c.requires.protocol c.requires.bounds c.args.space.now c.args.clause.now c.requires.is in let inside = c.requires.inside in omega (arith, few, inside)

pub add_form-requires : goal.add_form-requires
add_form-requires c = record {
  protocol = c.requires.protocol;
  bounds = c.requires.bounds;
  is = longer_clause c.requires.protocol c.requires.bounds c.args.space.now c.args.clause.now c.with_literal.result (2 * c.args.atom) c.args.atom c.requires.is c.requires.room (omega arith) c.requires.inside (subst (λ (ls : List ℕ). IsNewAtom ls c.args.atom) c.as_slice.ensures.value (c.names.ensures.none c.if-names.false)) c.with_literal.ensures.shape c.with_literal.ensures.literals;
  forms = c.requires.forms;
}

pub add_form-requires-2 : goal.add_form-requires-2
add_form-requires-2 c =
    let P = c.requires.protocol in
    let B = c.requires.bounds in
    let is_new = subst (λ (ls : List ℕ). IsNewAtom ls c.args.atom) c.as_slice.ensures.value (c.names.ensures.none c.if-names.false) in
    record {
      protocol = P;
      bounds = B;
      is = longer_clause P B c.args.space.now c.args.clause.now c.with_literal-2.result (2 * c.args.atom + 1) c.args.atom c.requires.is c.requires.room (omega arith) c.requires.inside is_new c.with_literal-2.ensures.shape c.with_literal-2.ensures.literals;
      forms = (c.in_ok-add_form.ensures P B (longer_clause P B c.args.space.now c.args.clause.now c.with_literal.result (2 * c.args.atom) c.args.atom c.requires.is c.requires.room (omega arith) c.requires.inside is_new c.with_literal.ensures.shape c.with_literal.ensures.literals) c.requires.forms).forms;
    }

pub returns : goal.returns
returns c = λ P B h forms.
    let is_new = subst (λ (ls : List ℕ). IsNewAtom ls c.args.atom) c.as_slice.ensures.value (c.names.ensures.none c.if-names.false) in
    let room = same_room P c.requires.protocol B c.requires.bounds c.args.space.now c.args.clause.now (length c.args.clause.now.lits.items) h c.requires.is c.requires.room in
    let atoms = same_atoms P c.requires.protocol B c.requires.bounds c.args.space.now c.args.clause.now h c.requires.is in
    let below : c.args.atom < length (atoms_of P (clause_of c.args.space.now c.args.clause.now).counts) = let k = c.requires.inside in omega (arith, k, atoms) in
    let first = c.in_ok-add_form.ensures P B (longer_clause P B c.args.space.now c.args.clause.now c.with_literal.result (2 * c.args.atom) c.args.atom h room (omega arith) below is_new c.with_literal.ensures.shape c.with_literal.ensures.literals) forms in
    let second = c.in_ok-add_form-2.ensures P B (longer_clause P B c.args.space.now c.args.clause.now c.with_literal-2.result (2 * c.args.atom + 1) c.args.atom h room (omega arith) below is_new c.with_literal-2.ensures.shape c.with_literal-2.ensures.literals) first.forms in
    both_signs P B c.args.space.now c.args.clause.now c.with_literal.result c.with_literal-2.result c.args.atom (2 * c.args.atom) (2 * c.args.atom + 1) c.args.list.now.items c.add_form.new.list.items c.add_form-2.new.list.items is_new refl refl c.with_literal.ensures.shape c.with_literal.ensures.literals c.with_literal-2.ensures.shape c.with_literal-2.ensures.literals first second
