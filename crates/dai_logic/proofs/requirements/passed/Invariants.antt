use Rattle.std.proofs.Common.{◌≡◌}
use Rattle.dai_logic.specs.Protocols.{protocol_of}
use Rattle.dai_logic.specs.Execution.{IsPassed}
use Rattle.dai_logic.proofs.requirements.passed.Given as goal

-- the environment is as it was, and the requirements so far are true
abbrev pub invariant-loop-number : goal.invariant-loop-number
invariant-loop-number l =
    record {
      back : l.env ≡ l.initial.env;
      passed : IsPassed (protocol_of l.protocol) l.s l.initial.env l.code l.number;
    }
