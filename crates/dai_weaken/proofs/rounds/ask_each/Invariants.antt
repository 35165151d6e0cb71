use Rattle.std.proofs.Common.{◌≡◌, List, length}
use Rattle.dai_model.specs.Clause as Model
use Rattle.dai_logic.specs.Protocols.{protocol_of}
use Rattle.dai_weaken.specs.Strikes.{IsRoundTo}
use Rattle.dai_weaken.proofs.rounds.ask_each.Given as goal

-- so many members were asked
abbrev pub invariant-loop-place : goal.invariant-loop-place
invariant-loop-place g l = record {
  judge : g.J.Judge.judges l.judge (protocol_of l.protocol);
  same : g.J.Judge.class l.judge ≡ g.J.Judge.class l.fn.judge;
  premises : (p : _) (I : List Model.Clause) → g.J.Judge.prepared l.fn.judge p (protocol_of l.protocol) I → g.J.Judge.prepared l.judge p (protocol_of l.protocol) I;
  long : length l.round.flags.items ≡ length l.members;
  asked : (I : List Model.Clause) → g.J.Judge.prepared l.fn.judge l.premises (protocol_of l.protocol) I → IsRoundTo (g.J.Judge.class l.fn.judge) (protocol_of l.protocol) I l.space l.members l.place l.round.flags.items l.round.strikes.items;
}
