use Rattle.std.proofs.Common.{◌≡◌, drop}
use Rattle.dai_model.specs.Execution.{after_statements}
use Rattle.dai_logic.specs.Trees.{statements_of}
use Rattle.dai_logic.specs.Protocols.{protocol_of}
use Rattle.dai_logic.specs.Tables.{structure_of, tables_of, bits_of, Fits, IsRunnable, AreAsLong}
use Rattle.dai_logic.specs.Environments.{environment_of}
use Rattle.dai_logic.proofs.running.+run.Given as goal

-- what the rest leaves from here is what all the steps leave from the start
abbrev pub invariant-run-loop-step : goal.invariant-run-loop-step
invariant-run-loop-step l =
    let P = protocol_of l.protocol in
    let env = environment_of l.initial.env in
    let rest = statements_of (drop l.step-index l.steps) in
    record {
      same : l.env ≡ l.initial.env;
      sizes : l.s.sizes.items ≡ l.initial.s.sizes.items;
      fits : Fits P l.s;
      spare : AreAsLong (bits_of l.spare) (tables_of l.s);
      runnable : IsRunnable P l.initial.s.sizes.items env rest;
      after : after_statements P env rest (structure_of P l.s) ≡ after_statements P env (statements_of l.steps) (structure_of P l.initial.s);
    }
