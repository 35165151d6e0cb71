use Rattle.std.proofs.Common.{◌≡◌}
use Rattle.dai_model.specs.Template.{Bounds}
use Rattle.dai_logic.specs.Protocols.{protocol_of}
use Rattle.dai_template.specs.Lists.{clauses_of}
use Rattle.dai_weaken.specs.Weakening.{IsStart, IsDownTo}
use Rattle.dai_weaken.proofs.descent.greatest.Given as goal

-- so far down
abbrev pub invariant-loop-round : goal.invariant-loop-round
invariant-loop-round g l = record {
  judge : g.J.Judge.judges l.judge (protocol_of l.protocol);
  same : g.J.Judge.class l.judge ≡ g.J.Judge.class l.fn.judge;
  down : (B : Bounds) → IsStart (g.J.Judge.class l.fn.judge) (protocol_of l.protocol) B l.space l.fn.start.clauses.items → IsDownTo (g.J.Judge.class l.fn.judge) (protocol_of l.protocol) B l.space (clauses_of l.space l.fn.start.clauses.items) l.weakened.kept.clauses.items l.weakened.strikes.items;
}
