use Rattle.std.proofs.Common.{arith}
use Rattle.dai_template.proofs.SpaceShapes.{shape_atoms}
use Rattle.dai_template.proofs.space.Space.atom_count.Goals as goal

pub overflow_cast-result : goal.overflow_cast-result
overflow_cast-result c =
    let few = (shape_atoms c.requires.space.protocol c.requires.space.bounds c.args.self.now c.args.shape c.index.result.now c.requires.space.is c.requires.inside c.index.ensures).1 in
    let is = c.len.ensures in
    omega (arith, few, is)

pub returns-clause-is : goal.returns-clause-is
returns-clause-is c = λ P B h. let is = c.len.ensures in let count = (shape_atoms P B c.args.self.now c.args.shape c.index.result.now h c.requires.inside c.index.ensures).0 in omega (arith, is, count)

pub returns-clause-few : goal.returns-clause-few
returns-clause-few c =
    let few = (shape_atoms c.requires.space.protocol c.requires.space.bounds c.args.self.now c.args.shape c.index.result.now c.requires.space.is c.requires.inside c.index.ensures).1 in
    let is = c.len.ensures in
    omega (arith, few, is)
