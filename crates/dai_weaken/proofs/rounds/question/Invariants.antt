use Rattle.std.proofs.Common.{◌≡◌, ◌<◌, ℕ, List, Some}
use Rattle.std.specs.Prelude.{slice_get}
use Rattle.dai_model.specs.Clause as Model
use Rattle.dai_model.specs.Protocol.{Action}
use Rattle.dai_logic.specs.Protocols.{protocol_of}
use Rattle.dai_template.specs.Spaces.{clause_of}
use Rattle.dai_weaken.specs.Judging.{HoldsAtFirst, HoldsAfter}
use Rattle.dai_weaken.proofs.rounds.question.Given as goal

-- the clause holds at first, and after each action so far
abbrev pub invariant-loop-number : goal.invariant-loop-number
invariant-loop-number g l = record {
  judge : g.J.Judge.judges l.judge (protocol_of l.protocol);
  same : g.J.Judge.class l.judge ≡ g.J.Judge.class l.fn.judge;
  premises : (p : _) (I : List Model.Clause) → g.J.Judge.prepared l.fn.judge p (protocol_of l.protocol) I → g.J.Judge.prepared l.judge p (protocol_of l.protocol) I;
  at_first : HoldsAtFirst (g.J.Judge.class l.fn.judge) (protocol_of l.protocol) (clause_of l.space l.goal);
  after : (k : ℕ) → k < l.number → (action : Action) → slice_get (protocol_of l.protocol).actions k ≡ Some action → (I : List Model.Clause) → g.J.Judge.prepared l.fn.judge l.premises (protocol_of l.protocol) I → HoldsAfter (g.J.Judge.class l.fn.judge) (protocol_of l.protocol) I action (clause_of l.space l.goal);
}
