use Rattle.std.proofs.Common.{◌+◌, ◌++◌, [], ℕ, List, map, sym, ◌∙◌, ap, subst, arith}
use Rattle.std.specs.List.{flat_map, enumerate_from}
use Rattle.dai_model.specs.Report.{clause_line, verdict_line}
use Rattle.dai_model.proofs.Folds.{appended_part}
use Rattle.dai_logic.specs.Protocols.{protocol_of}
use Rattle.dai_template.specs.Spaces.{clause_of, IsClauseOf}
use Rattle.dai_print.proofs.Lines.{line_at, line_below, lines_all}
use Rattle.dai_print.proofs.report.report_text.Goals as goal

pub add_line-requires : goal.add_line-requires
add_line-requires c = record {
  bounds = c.requires.bounds;
  is = subst (IsClauseOf (protocol_of c.args.protocol.now) c.requires.bounds c.args.space.now) (sym c.clause-item.is) (c.requires.each c.loop-clause.clause-index c.clause-item.result c.loop-clause-test.true);
}

pub loop-clause-preserved : goal.loop-clause-preserved
loop-clause-preserved c =
    let P = protocol_of c.args.protocol.now in
    let i = c.loop-clause.clause-index in
    let kept = c.args.kept.now in
    let number = c.loop-clause.invariant.number in
    record {
      number = omega (arith, number);
      lines =
          appended_part (clause_line P) (enumerate_from 1 (map (clause_of c.args.space.now) kept)) i (1 + i, clause_of c.args.space.now c.clause-item.result) [] c.loop-clause.text.items c.add_line.new.text.items
          (line_below c.args.space.now kept i c.loop-clause-test.true)
          (line_at c.args.space.now kept i c.clause-item.result c.loop-clause-test.true c.clause-item.is)
          (c.in_ok-add_line.ensures ∙ ap (λ (n : ℕ). c.loop-clause.text.items ++ clause_line P (n, clause_of c.args.space.now c.clause-item.result)) number)
          c.loop-clause.invariant.lines;
    }

pub returns : goal.returns
returns c =
    let P = protocol_of c.args.protocol.now in
    c.in_ok-add_verdict.ensures
    ∙ ap (λ (t : List ℕ). t ++ verdict_line P c.args.missing.now) (c.loop-clause.invariant.lines ∙ ap (flat_map (clause_line P)) (lines_all c.args.space.now c.args.kept.now c.loop-clause.clause-index c.loop-clause-test.false))
