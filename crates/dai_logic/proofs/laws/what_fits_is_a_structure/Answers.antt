use Rattle.dai_logic.specs.Protocols.{protocol_of}
use Rattle.dai_logic.proofs.Tuples.{fits_structure}
use Rattle.dai_logic.proofs.laws.what_fits_is_a_structure.Goals as goal

pub returns : goal.returns
returns c = fits_structure (protocol_of c.args.protocol.now) c.args.s.now c.requires
