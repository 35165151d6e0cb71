use Rattle.std.proofs.Common.{arith}
use Rattle.dai_model.proofs.Folds.{mapped_at}
use Rattle.dai_template.specs.Atoms.{atom_of}
use Rattle.dai_template.proofs.Truth.{half}
use Rattle.dai_order.specs.Sides.{AreStored}
use Rattle.dai_order.proofs.subsumption.all_may_go.Goals as goal

pub may_go_into-requires-clause-stored : goal.may_go_into-requires-clause-stored
may_go_into-requires-clause-stored c =
    let below = half c.args.literals.now c.loop-literal.literal-index c.args.left.now.atoms.items c.requires.literals_inside c.loop-literal-test.true in
    let same = c.from.ensures in
    mapped_at AreStored atom_of c.args.left.now.atoms.items c.from.result c.index-atom.result.now c.requires.stored (omega (arith, below, same)) c.index-atom.ensures
