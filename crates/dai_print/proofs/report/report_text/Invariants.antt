-- the lines so far, and the next number
use Rattle.std.proofs.Common.{◌≡◌, ◌+◌, map, take}
use Rattle.std.specs.List.{flat_map, enumerate_from}
use Rattle.dai_model.specs.Report.{clause_line}
use Rattle.dai_logic.specs.Protocols.{protocol_of}
use Rattle.dai_template.specs.Spaces.{clause_of}
use Rattle.dai_print.proofs.report.report_text.Given as goal

abbrev pub invariant-loop-clause : goal.invariant-loop-clause
invariant-loop-clause l = record {
  number : l.number ≡ 1 + l.clause-index;
  lines : l.text.items ≡ flat_map (clause_line (protocol_of l.protocol)) (take l.clause-index (enumerate_from 1 (map (clause_of l.space) l.kept)));
}
