use Rattle.std.proofs.Common.{sym, subst}
use Rattle.std.specs.List.{All}
use Rattle.std.proofs.lemmas.List.Elements.{All-push}
use Rattle.dai_judge.specs.Memory.{IsKnown}
use Rattle.dai_judge.proofs.memory.Memory.learn.Goals as goal

pub returns : goal.returns
returns c = λ C P memory known. record {
  known = subst (All (IsKnown C P)) (sym c.in_ok-push.ensures.items) (All-push (IsKnown C P) c.args.self.now.known.items c.args.known memory.known known);
  shown = memory.shown;
}
