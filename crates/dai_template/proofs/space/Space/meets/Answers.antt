use Rattle.std.proofs.Common.{◌≡◌, false, true, length, sym, ◌∙◌, ap, refl, arith}
use Rattle.dai_template.specs.Spaces.{clause_of}
use Rattle.dai_template.specs.Meeting.{AreEnough}
use Rattle.dai_template.proofs.Clauses.{shape_counts}
use Rattle.dai_template.proofs.Asked.{judged_of, partial_none, met_by_none, met_is, enough_as, zeros}
use Rattle.dai_template.proofs.space.Space.meets.Goals as goal

pub are_enough-requires : goal.are_enough-requires
are_enough-requires c =
    let h = c.requires.is in
    let same = ap length (shape_counts c.args.self.now c.args.clause.now c.index-shape.result.now h.shape c.index-shape.ensures) in
    let each = h.template.one_count_each in
    let fits = c.requires.fits.one_size_each in
    let counts = ap length c.deref.ensures.value in
    let sizes = ap length c.deref-2.ensures.value in
    omega (arith, same, each, fits, counts, sizes)

pub is_met_from-requires : goal.is_met_from-requires
is_met_from-requires c = record {
  protocol = c.requires.protocol;
  judged = judged_of c.requires.protocol c.requires.bounds c.args.self.now c.args.clause.now c.index-shape.result.now c.args.s.now c.deref-3.result.now c.as_slice.result.now c.requires.is c.requires.fits c.index-shape.ensures c.deref-3.ensures.value c.as_slice.ensures.value;
  partial = partial_none c.requires.protocol c.args.s.now.sizes.items c.index-shape.result.now.counts.items zeros refl;
  enough = enough_as _ _ c.index-shape.result.now.counts.items c.args.s.now.sizes.items c.deref.ensures.value c.deref-2.ensures.value (c.are_enough.ensures.0 c.if-not-are_enough.false);
  inside = omega arith;
}

pub returns-then-not-are_enough : goal.returns-then-not-are_enough
returns-then-not-are_enough c = λ P B h fits.
    let shape = c.index-shape.result.now in
    let same = shape_counts c.args.self.now c.args.clause.now shape h.shape c.index-shape.ensures in
    let each : length shape.counts.items ≡ length P.sorts = ap length same ∙ h.template.one_count_each in
    let few : AreEnough shape.counts.items c.args.s.now.sizes.items → ⊥ = λ enough.
    let k : false ≡ true = sym c.if-not-are_enough.true ∙ c.are_enough.ensures.1 (enough_as _ _ c.deref.result.now c.deref-2.result.now (sym c.deref.ensures.value) (sym c.deref-2.ensures.value) enough) in
    let no : ⊥ = cc in
    no in
    (λ _. met_by_none P c.args.s.now shape.counts.items (clause_of c.args.self.now c.args.clause.now) each (sym same) few, λ _. refl)

pub returns : goal.returns
returns c = λ P B h fits.
    let j = judged_of P B c.args.self.now c.args.clause.now c.index-shape.result.now c.args.s.now c.deref-3.result.now c.as_slice.result.now h fits c.index-shape.ensures c.deref-3.ensures.value c.as_slice.ensures.value in
    let p = partial_none P c.args.s.now.sizes.items c.index-shape.result.now.counts.items zeros refl in
    let m = met_is P B c.args.self.now c.args.clause.now c.index-shape.result.now c.args.s.now c.as_slice.result.now zeros h c.index-shape.ensures c.as_slice.ensures.value in
    (λ e. m.0 (c.is_met_from.ensures.only P j p e), λ e. c.is_met_from.ensures.exact P j p (m.1 e))
