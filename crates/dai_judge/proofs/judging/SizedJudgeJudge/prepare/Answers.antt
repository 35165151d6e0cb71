use Rattle.dai_logic.specs.Protocols.{protocol_of}
use Rattle.dai_judge.proofs.Clauses.{templates}
use Rattle.dai_judge.proofs.judging.SizedJudgeJudge.prepare.Goals as goal

pub returns-clause-premises : goal.returns-clause-premises
returns-clause-premises c =
    let P = protocol_of c.args._protocol.now in
    let own = c.requires.clauses in
    record {
      bounds = own.bounds;
      templates = templates P c.args.space.now c.args.clauses.now own;
      formulas = c.in_ok-formulas.ensures P own;
      keys = c.in_ok-keys.ensures;
    }
