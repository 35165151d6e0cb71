use Rattle.std.proofs.Common.{◌≤◌, ◌-◌, length, take}
use Rattle.dai_base.specs.Sink.{Appends}
use Rattle.dai_top.proofs.console.put_lines.Given as goal

-- so many bytes are written, and no count fell
abbrev pub invariant-loop-done : goal.invariant-loop-done
invariant-loop-done g l = record {
  written : Appends (g.S.Sink.written l.fn.sink) (g.S.Sink.written l.sink) (take l.done l.text);
  within : l.done ≤ length l.text;
  counts : g.S.Sink.faults l.fn.sink ≤ g.S.Sink.faults l.sink;
}

abbrev pub decreases-loop-done : goal.decreases-loop-done
decreases-loop-done g l = length l.text - l.done
