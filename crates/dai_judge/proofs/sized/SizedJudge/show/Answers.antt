use Rattle.dai_model.specs.Classes.{up_to}
use Rattle.dai_judge.proofs.Copied.{transition_copied}
use Rattle.dai_judge.proofs.sized.SizedJudge.show.Goals as goal

pub returns-in_err-keep-clause-ready : goal.returns-in_err-keep-clause-ready
returns-in_err-keep-clause-ready c = λ P ready transition.
    let C = up_to c.args.self.now.sizes.items in
    record { sizes = ready.sizes; memory = c.keep.ensures C P ready.memory (transition_copied C P c.args.x c.in_ok-copied.field-0 c.in_ok-copied.ensures transition); inquiries = ready.inquiries }

pub returns-clause-ready : goal.returns-clause-ready
returns-clause-ready c = λ P ready transition.
    let C = up_to c.args.self.now.sizes.items in
    record { sizes = ready.sizes; memory = c.keep.ensures C P ready.memory (transition_copied C P c.args.x c.in_ok-copied.field-0 c.in_ok-copied.ensures transition); inquiries = ready.inquiries }
