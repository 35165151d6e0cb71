use Rattle.std.proofs.Common.{sym, ◌∙◌, subst}
use Rattle.dai_model.specs.Classes.{up_to}
use Rattle.dai_logic.specs.Protocols.{protocol_of}
use Rattle.dai_judge.specs.Premises.{AreSizesFor}
use Rattle.dai_judge.specs.Ready.{IsReady}
use Rattle.dai_top.proofs.Enough.{are_sizes}
use Rattle.bench_rounds.proofs.counting.solved.Goals as goal

pub greatest-requires-clause-judge : goal.greatest-requires-clause-judge
greatest-requires-clause-judge c =
    let P = protocol_of c.args.protocol.now in
    let is = c.deref.ensures.value ∙ c.in_ok-sizes.ensures in
    subst (IsReady P) (sym c.new-counted.ensures) (c.in_ok-new.ensures.ready P (subst (AreSizesFor P) (sym is) (are_sizes P c.args.vars.now)))

pub greatest-requires-clause-start : goal.greatest-requires-clause-start
greatest-requires-clause-start c = (c.requires.space.0, c.in_ok-start.ensures (up_to c.new-counted.result.judge.sizes.items) (protocol_of c.args.protocol.now) c.requires.space.0 c.requires.space.1)
