use Rattle.dai_logic.specs.Protocols.{protocol_of}
use Rattle.dai_judge.specs.Ready.{IsReady}
use Rattle.dai_judge.proofs.tests.each_told.Given as goal

abbrev pub invariant-loop-clause : goal.invariant-loop-clause
invariant-loop-clause l = IsReady (protocol_of l.protocol) l.judge
