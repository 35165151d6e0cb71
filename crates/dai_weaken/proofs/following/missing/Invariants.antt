use Rattle.std.proofs.Common.{◌≡◌}
use Rattle.dai_model.specs.Template.{Bounds}
use Rattle.dai_logic.specs.Protocols.{protocol_of}
use Rattle.dai_template.specs.Lists.{clauses_of}
use Rattle.dai_weaken.specs.Weakening.{IsAnswered}
use Rattle.dai_weaken.specs.Missing.{AreMissingBelow}
use Rattle.dai_weaken.proofs.following.missing.Given as goal

-- those of the invariants so far
abbrev pub invariant-loop-number : goal.invariant-loop-number
invariant-loop-number g l = record {
  judge : g.J.Judge.judges l.judge (protocol_of l.protocol);
  same : g.J.Judge.class l.judge ≡ g.J.Judge.class l.fn.judge;
  premises : g.J.Judge.prepared l.judge l.premises (protocol_of l.protocol) (clauses_of l.space l.kept.clauses.items);
  missing : (B : Bounds) → IsAnswered (g.J.Judge.class l.fn.judge) (protocol_of l.protocol) B l.space l.kept.clauses.items → AreMissingBelow (g.J.Judge.class l.fn.judge) (protocol_of l.protocol) B l.number l.numbers.items;
}
