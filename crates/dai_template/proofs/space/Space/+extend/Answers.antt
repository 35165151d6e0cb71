use Rattle.std.proofs.Common.{◌≡◌, ◌<◌, ◌+◌, ◌*◌, ◌-◌, length, refl, arith}
use Rattle.dai_model.specs.Clause.{atoms_of}
use Rattle.dai_template.specs.Spaces.{clause_of}
use Rattle.dai_template.specs.Lists.{GoesOn, GoesOnBelow}
use Rattle.dai_template.proofs.Parts.{added_as, begun_more, atom_more, goes_on, goes_on_below, goes_nowhere, stays, on_ok}
use Rattle.dai_template.proofs.space.Space.+extend.Goals as goal

pub returns-then-left-eq0 : goal.returns-then-left-eq0
returns-then-left-eq0 t c =
    on_ok c.add_canonical.result _ _
    (λ added P B h.
    let own = clause_of c.args.self.now c.args.begun.now in
    added_as P B c.args.self.now (λ d. d ≡ own) (GoesOn P own c.args.from c.args.left) c.args.clauses.now.items c.add_canonical.new.clauses.items
    (λ d e. stays P own c.args.from c.args.left d c.if-left-eq0.true e)
    (λ d t k. goes_nowhere P own c.args.from c.args.left d c.if-left-eq0.true k)
    (added P B h.is))
    c.add_canonical.ensures

pub extend-requires : goal.extend-requires
extend-requires t c =
    let P = c.requires.protocol in
    let B = c.requires.bounds in
    let some = c.if-left-eq0.false in
    let count = c.atom_count-atom-end.ensures.is P B c.requires.is.is.space_of in
    let test = c.loop-atom-test.true in (
      let d = c.decreases in omega (arith, d, some),
      record { protocol = P; bounds = B; is = begun_more P B c.args.self.now c.args.begun.now c.with.result c.args.from c.args.left (c.args.left - 1) c.loop-atom.atom (2 * c.loop-atom.atom) c.requires.is (omega (arith, some)) c.loop-atom.auto.atom (omega (arith, count, test)) (omega arith) c.with.ensures.shape c.with.ensures.literals },
    )

pub extend-requires-in-loop-atom : goal.extend-requires-in-loop-atom
extend-requires-in-loop-atom t c =
    let P = c.requires.protocol in
    let B = c.requires.bounds in
    let some = c.if-left-eq0.false in
    let count = c.atom_count-atom-end.ensures.is P B c.requires.is.is.space_of in
    let test = c.loop-atom-test.true in (
      let d = c.decreases in omega (arith, d, some),
      record { protocol = P; bounds = B; is = begun_more P B c.args.self.now c.args.begun.now c.with-in-loop-atom.result c.args.from c.args.left (c.args.left - 1) c.loop-atom.atom (2 * c.loop-atom.atom + 1) c.requires.is (omega (arith, some)) c.loop-atom.auto.atom (omega (arith, count, test)) (omega arith) c.with-in-loop-atom.ensures.shape c.with-in-loop-atom.ensures.literals },
    )

pub loop-atom-preserved : goal.loop-atom-preserved
loop-atom-preserved t c = λ P B h.
    let atom = c.loop-atom.atom in
    let fewer = c.args.left - 1 in
    let some = c.if-left-eq0.false in
    let one : fewer + 1 ≡ c.args.left = omega (arith, some) in
    let count = c.atom_count-atom-end.ensures.is P B h.is.space_of in
    let test = c.loop-atom-test.true in
    let inside : atom < length (atoms_of P (clause_of c.args.self.now c.args.begun.now).counts) = omega (arith, count, test) in
    atom_more P B c.args.self.now c.args.begun.now c.with.result c.with-in-loop-atom.result c.args.from c.args.left fewer atom (2 * atom) (2 * atom + 1) c.args.clauses.now.items c.loop-atom.clauses.items c.extend.new.clauses.items c.extend-in-loop-atom.new.clauses.items h one c.loop-atom.auto.atom inside refl refl c.with.ensures.shape c.with.ensures.literals c.with-in-loop-atom.ensures.shape c.with-in-loop-atom.ensures.literals (c.loop-atom.invariant P B h)
    (c.in_ok-extend.ensures P B (begun_more P B c.args.self.now c.args.begun.now c.with.result c.args.from c.args.left fewer atom (2 * atom) h one c.loop-atom.auto.atom inside (omega arith) c.with.ensures.shape c.with.ensures.literals))
    (c.in_ok-extend-2.ensures P B (begun_more P B c.args.self.now c.args.begun.now c.with-in-loop-atom.result c.args.from c.args.left fewer atom (2 * atom + 1) h one c.loop-atom.auto.atom inside (omega arith) c.with-in-loop-atom.ensures.shape c.with-in-loop-atom.ensures.literals))

pub returns : goal.returns
returns t c = λ P B h.
    let some = c.if-left-eq0.false in
    let count = c.atom_count-atom-end.ensures.is P B h.is.space_of in
    let test = c.loop-atom-test.false in
    let own = clause_of c.args.self.now c.args.begun.now in
    added_as P B c.args.self.now (GoesOnBelow P own c.args.from c.args.left c.loop-atom.atom) (GoesOn P own c.args.from c.args.left) c.args.clauses.now.items c.loop-atom.clauses.items
    (λ d k. goes_on_below P own c.args.from c.args.left c.loop-atom.atom d k)
    (λ d t k. goes_on P B own c.args.from c.args.left c.loop-atom.atom d (omega (arith, count, test)) (omega (arith, some)) k)
    (c.loop-atom.invariant P B h)
