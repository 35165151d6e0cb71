use Rattle.std.proofs.Common.{arith}
use Rattle.dai_template.proofs.AllShapes.{shape_more, list_of_all}
use Rattle.dai_template.proofs.SpaceShapes.{few_shapes}
use Rattle.dai_template.proofs.space.Space.all.Goals as goal

pub overflow_cast-shape-end : goal.overflow_cast-shape-end
overflow_cast-shape-end c = let few = few_shapes c.requires.protocol c.requires.bounds c.args.self.now c.requires.is in let is = c.len-shape-end.ensures in omega (arith, few, is)

pub loop-shape-preserved : goal.loop-shape-preserved
loop-shape-preserved c = λ P B h.
    shape_more P B c.args.self.now c.loop-shape.shape c.loop-shape.clauses.items c.add_shape.new.clauses.items h (let is = c.len-shape-end.ensures in let k = c.loop-shape-test.true in omega (arith, is, k)) (c.loop-shape.invariant P B h) (c.in_ok-add_shape.ensures P B h)

pub returns : goal.returns
returns c = λ P B h.
    list_of_all P B c.args.self.now c.loop-shape.shape c.loop-shape.clauses.items h (let is = c.len-shape-end.ensures in let k = c.loop-shape-test.false in omega (arith, is, k)) (c.loop-shape.invariant P B h)
