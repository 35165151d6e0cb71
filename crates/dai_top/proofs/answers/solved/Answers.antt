use Rattle.std.proofs.Common.{ℕ, List, sym, ◌∙◌, subst}
use Rattle.dai_model.specs.Classes.{up_to}
use Rattle.dai_model.specs.Report.{IsReport}
use Rattle.dai_logic.specs.Protocols.{protocol_of}
use Rattle.dai_logic.proofs.Accepted.{is_accepted}
use Rattle.dai_judge.specs.Premises.{AreSizesFor}
use Rattle.dai_top.specs.Answers.{IsStatusOf}
use Rattle.dai_top.proofs.Enough.{are_sizes, report_everywhere, status_everywhere}
use Rattle.dai_top.proofs.answers.solved.Goals as goal

pub report-requires-clause-judge : goal.report-requires-clause-judge
report-requires-clause-judge c =
    let P = protocol_of c.args.protocol.now in
    let B = c.requires.0 in
    c.in_ok-judge.ensures.ready P (subst (AreSizesFor P) (sym c.requires.2) (are_sizes P B.variables))

pub report-requires-clause-space : goal.report-requires-clause-space
report-requires-clause-space c = (c.requires.0, c.requires.1)

pub returns-clause-reported : goal.returns-clause-reported
returns-clause-reported c = λ B is sizes.
    let P = protocol_of c.args.protocol.now in
    let accepted = is_accepted c.args.protocol.now in
    let given = c.in_ok-judge.ensures.sizes ∙ sizes in
    let a = c.in_ok-report.field-0 in (
      report_everywhere P B a.out.items accepted (subst (λ (ns : List ℕ). IsReport (up_to ns) P B a.out.items) given (c.in_ok-report.ensures.report B is)),
      status_everywhere P B a.status accepted (subst (λ (ns : List ℕ). IsStatusOf (up_to ns) P B a.status) given (c.in_ok-report.ensures.status B is)),
    )
