use Rattle.dai_model.specs.Classes.{all_sizes}
use Rattle.dai_logic.specs.Protocols.{protocol_of}
use Rattle.bench_rounds.proofs.counting.tabulated.Goals as goal

pub greatest-requires-clause-start : goal.greatest-requires-clause-start
greatest-requires-clause-start c = (c.requires.space.0, c.in_ok-start.ensures all_sizes (protocol_of c.args.protocol.now) c.requires.space.0 c.requires.space.1)
