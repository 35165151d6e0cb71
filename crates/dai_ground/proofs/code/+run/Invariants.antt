use Rattle.std.proofs.Common.{drop}
use Rattle.dai_trail.specs.Formula as Clauses
use Rattle.dai_circuit.specs.declared.bit.Bit.{Bit}
use Rattle.dai_circuit.specs.Circuits.{Extends, IsBitBelow}
use Rattle.dai_logic.specs.Protocols.{protocol_of}
use Rattle.dai_logic.specs.Trees.{statements_of}
use Rattle.dai_picture.specs.declared.picture.Picture.{Picture}
use Rattle.dai_ground.specs.Leaving.{IsCodeIn, LeavesCode}
use Rattle.dai_ground.proofs.code.+run.Given as goal

-- whatever completes the rest completes the whole
abbrev pub invariant-run-loop-step : goal.invariant-run-loop-step
invariant-run-loop-step l =
    let P = protocol_of l.protocol in
    let rest = statements_of (drop l.step-index l.code) in
    record {
      extends : Extends l.initial.circuit l.circuit;
      below : IsBitBelow l.circuit.vars l.left;
      code : IsCodeIn P l.frame l.picture l.circuit.vars rest;
      whole : (clauses : Clauses.Formula) (new : Picture) (answer : Bit) → Extends l.circuit clauses → LeavesCode P l.frame rest l.picture l.left clauses new answer → LeavesCode P l.frame (statements_of l.code) l.initial.picture l.fn.ok clauses new answer;
    }
