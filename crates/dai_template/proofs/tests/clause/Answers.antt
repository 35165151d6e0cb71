use Rattle.std.proofs.Common.{get_or, ap, sym, ◌∙◌, arith}
use Rattle.dai_template.specs.Links.{links}
use Rattle.dai_template.proofs.LinksFit.{two_literals}
use Rattle.dai_template.proofs.tests.clause.Goals as goal

pub returns-then-from-atoms : goal.returns-then-from-atoms
returns-then-from-atoms c =
    let shapes = c.args.space.now.shapes.items in
    let shape = c.index.result.now in
    let same = c.empty.ensures.shape in
    record {
      bounds = c.requires.bounds;
      is = two_literals links c.requires.bounds c.args.space.now c.empty.result c.with.result c.with-then-from-atoms.result shape c.args.first c.args.second c.requires.is
          (let a = c.if-shape-len.false in let b = c.len.ensures in omega (arith, a, b, same))
          (c.index.ensures ∙ ap (λ k. get_or shapes k shape) (sym same))
          c.empty.ensures.literals c.with.ensures.shape c.with.ensures.literals c.with-then-from-atoms.ensures.shape c.with-then-from-atoms.ensures.literals
          c.if-first-second.true
          (let a = c.if-from-atoms.true in let b = c.from.ensures in let d = c.len-atoms.ensures in omega (arith, a, b, d))
          c.requires.pairs;
    }
