use Rattle.std.proofs.Common.{◌<◌, length, arith}
use Rattle.dai_template.proofs.AllShapes.{empty_begun, literals_more}
use Rattle.dai_template.proofs.SpaceShapes.{empty_template}
use Rattle.dai_template.proofs.space.Space.add_shape.Goals as goal

pub extend-requires : goal.extend-requires
extend-requires c =
    let P = c.requires.space.protocol in
    let B = c.requires.space.bounds in
    let h = c.requires.space.is in
    let below : c.empty.result.shape < length c.args.self.now.shapes.items = let e = c.empty.ensures.shape in let k = c.requires.inside in omega (arith, e, k) in
    record {
      protocol = P;
      bounds = B;
      is = empty_begun P B c.args.self.now c.empty.result c.loop-literals.literals h below c.empty.ensures.literals (let e = h.literals in let k = c.loop-literals-test.true in omega (arith, e, k)) (empty_template P B c.args.self.now c.empty.result h below c.empty.ensures.literals);
    }

pub loop-literals-preserved : goal.loop-literals-preserved
loop-literals-preserved c = λ P B h.
    let below : c.empty.result.shape < length c.args.self.now.shapes.items = let e = c.empty.ensures.shape in let k = c.requires.inside in omega (arith, e, k) in
    literals_more P B c.args.self.now c.empty.result c.args.shape c.loop-literals.literals c.args.clauses.now.items c.loop-literals.clauses.items c.extend.new.clauses.items c.empty.ensures.shape c.empty.ensures.literals (c.loop-literals.invariant P B h)
    (c.in_ok-extend.ensures P B (empty_begun P B c.args.self.now c.empty.result c.loop-literals.literals h below c.empty.ensures.literals (let e = h.literals in let k = c.loop-literals-test.true in omega (arith, e, k)) (empty_template P B c.args.self.now c.empty.result h below c.empty.ensures.literals)))
