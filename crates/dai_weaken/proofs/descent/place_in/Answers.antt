use Rattle.std.proofs.Common.{◌∙◌, sym, arith}
use Rattle.dai_template.specs.Spaces.{clause_of}
use Rattle.dai_weaken.proofs.Descending.{member_is, equal_clauses, equal_by, nowhere}
use Rattle.dai_weaken.proofs.descent.place_in.Goals as goal

pub compare-requires-clause-left : goal.compare-requires-clause-left
compare-requires-clause-left c = c.requires.clauses c.index-clauses-place.result (c.loop-place.place, c.loop-place-test.true, sym c.index-clauses-place.is)

pub returns-then-eq : goal.returns-then-eq
returns-then-eq c = (
  c.loop-place-test.true,
  λ P B known.
      let space = c.args.space.now in
      let other = c.index-clauses-place.result in
      member_is space c.args.clauses.now c.loop-place.place other c.loop-place-test.true c.index-clauses-place.is ∙ equal_clauses (clause_of space other) (clause_of space c.args.clause.now) (sym (c.compare.ensures P B known) ∙ equal_by c.compare.result c.if-eq.ensures),
)

pub returns : goal.returns
returns c = λ P B known there.
    let end = c.loop-place-test.false in
    nowhere c.args.space.now c.args.clauses.now c.args.clause.now (λ k d below. c.loop-place.invariant P B known k d (omega (arith, end, below))) there
