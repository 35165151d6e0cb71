use Rattle.dai_logic.specs.Protocols.{protocol_of}
use Rattle.dai_table.specs.Answers.{IsTableFor}
use Rattle.dai_table.proofs.tests.each_holds.Given as goal

abbrev pub invariant-loop-clause : goal.invariant-loop-clause
invariant-loop-clause l = IsTableFor (protocol_of l.protocol) l.table
