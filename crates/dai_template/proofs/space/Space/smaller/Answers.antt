use Rattle.std.proofs.Common.{map, refl, arith}
use Rattle.dai_template.specs.Atoms.{atom_of}
use Rattle.dai_template.proofs.Asked.{begun_none, zeros}
use Rattle.dai_template.proofs.Kept.{with_orders, kept_shape, kept_literals, kept_smaller, kept_least, typed}
use Rattle.dai_template.proofs.Least.{shape_of, clause_literals, least_of_space, smaller_of_space}
use Rattle.dai_template.proofs.space.Space.smaller.Goals as goal

pub kept_orders-kept-requires : goal.kept_orders-kept-requires
kept_orders-kept-requires c = typed c.requires.protocol c.deref.result.now c.index-shape.result.now.counts.items (map atom_of c.index-shape.result.now.atoms.items) c.as_slice-literals.result.now (shape_of c.requires.protocol c.requires.bounds c.args.self.now c.args.clause.now c.index-shape.result.now c.deref.result.now c.requires.is c.index-shape.ensures c.deref.ensures.value) (clause_literals c.requires.protocol c.requires.bounds c.args.self.now c.args.clause.now c.index-shape.result.now c.as_slice-literals.result.now c.requires.is c.index-shape.ensures c.as_slice-literals.ensures.value)

pub smaller_from-requires : goal.smaller_from-requires
smaller_from-requires c = record {
  protocol = with_orders c.kept_orders-kept.result c.requires.protocol;
  shape = kept_shape c.requires.protocol c.deref.result.now c.kept_orders-kept.result c.index-shape.result.now.counts.items (map atom_of c.index-shape.result.now.atoms.items) (shape_of c.requires.protocol c.requires.bounds c.args.self.now c.args.clause.now c.index-shape.result.now c.deref.result.now c.requires.is c.index-shape.ensures c.deref.ensures.value) c.kept_orders-kept.ensures.long;
  literals_are = kept_literals c.requires.protocol c.kept_orders-kept.result c.index-shape.result.now.counts.items c.as_slice-literals.result.now (clause_literals c.requires.protocol c.requires.bounds c.args.self.now c.args.clause.now c.index-shape.result.now c.as_slice-literals.result.now c.requires.is c.index-shape.ensures c.as_slice-literals.ensures.value);
  few_literals = c.as_slice-literals.ensures.fits;
  begun = (begun_none (with_orders c.kept_orders-kept.result c.requires.protocol) c.index-shape.result.now.counts.items c.index-shape.result.now.counts.items zeros refl);
  sort_inside = omega arith;
  number_inside = omega arith;
}

pub returns-in_err-lits-clause-least : goal.returns-in_err-lits-clause-least
returns-in_err-lits-clause-least c = λ P B h _.
    let shape = (shape_of P B c.args.self.now c.args.clause.now c.index-shape.result.now c.deref.result.now h c.index-shape.ensures c.deref.ensures.value) in
    let literals = (clause_literals P B c.args.self.now c.args.clause.now c.index-shape.result.now c.as_slice-literals.result.now h c.index-shape.ensures c.as_slice-literals.ensures.value) in
    least_of_space P B c.args.self.now c.args.clause.now c.index-shape.result.now c.as_slice-literals.result.now zeros h c.index-shape.ensures c.as_slice-literals.ensures.value
    (kept_least P c.deref.result.now c.kept_orders-kept.result c.index-shape.result.now.counts.items c.as_slice-literals.result.now zeros (map atom_of c.index-shape.result.now.atoms.items) shape literals c.kept_orders-kept.ensures
    (c.smaller_from.ensures.least (with_orders c.kept_orders-kept.result P) (kept_shape P c.deref.result.now c.kept_orders-kept.result c.index-shape.result.now.counts.items (map atom_of c.index-shape.result.now.atoms.items) shape c.kept_orders-kept.ensures.long) (kept_literals P c.kept_orders-kept.result c.index-shape.result.now.counts.items c.as_slice-literals.result.now literals) (begun_none (with_orders c.kept_orders-kept.result P) c.index-shape.result.now.counts.items c.index-shape.result.now.counts.items zeros refl) c.in_err-lits.was))

pub returns-clause-smaller : goal.returns-clause-smaller
returns-clause-smaller c = λ P B h.
    let shape = (shape_of P B c.args.self.now c.args.clause.now c.index-shape.result.now c.deref.result.now h c.index-shape.ensures c.deref.ensures.value) in
    let literals = (clause_literals P B c.args.self.now c.args.clause.now c.index-shape.result.now c.as_slice-literals.result.now h c.index-shape.ensures c.as_slice-literals.ensures.value) in
    smaller_of_space P B c.args.self.now c.args.clause.now (record { shape = c.args.clause.now.shape; lits = c.in_ok-lits.lits }) c.index-shape.result.now c.as_slice-literals.result.now h c.index-shape.ensures c.as_slice-literals.ensures.value refl
    (kept_smaller P c.deref.result.now c.kept_orders-kept.result c.index-shape.result.now.counts.items c.as_slice-literals.result.now c.in_ok-lits.lits.items (map atom_of c.index-shape.result.now.atoms.items) shape c.kept_orders-kept.ensures
    (c.in_ok-lits.ensures.smaller (with_orders c.kept_orders-kept.result P) (kept_shape P c.deref.result.now c.kept_orders-kept.result c.index-shape.result.now.counts.items (map atom_of c.index-shape.result.now.atoms.items) shape c.kept_orders-kept.ensures.long) (kept_literals P c.kept_orders-kept.result c.index-shape.result.now.counts.items c.as_slice-literals.result.now literals) (begun_none (with_orders c.kept_orders-kept.result P) c.index-shape.result.now.counts.items c.index-shape.result.now.counts.items zeros refl)))
