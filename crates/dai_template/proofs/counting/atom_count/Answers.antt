use Rattle.std.proofs.Common.{arith}
use Rattle.dai_logic.specs.Protocols.{protocol_of}
use Rattle.dai_model.proofs.Tuples.{atoms_of-length}
use Rattle.dai_template.proofs.counting.atom_count.Goals as goal

pub returns : goal.returns
returns c =
    let e = atoms_of-length (protocol_of c.args.protocol.now) c.args.counts.now in
    let a = c.tuples_of_all.ensures.count in
    let b = c.equations_of_all.ensures.count in
    omega (arith, e, a, b)
