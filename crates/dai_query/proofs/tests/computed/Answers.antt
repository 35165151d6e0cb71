use Rattle.std.proofs.Common.{arith}
use Rattle.dai_query.proofs.Marked.{two_types}
use Rattle.dai_query.proofs.tests.computed.Goals as goal

pub bounds-requires : goal.bounds-requires
bounds-requires c =
    let types = two_types c.args.protocol.now c.requires.protocol in
    let own = c.requires.one_each in
    omega (arith, types, own)
