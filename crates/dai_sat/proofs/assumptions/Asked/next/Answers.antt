use Rattle.std.proofs.Common.{ℕ, List, ◌<◌, length, get_or, refl, subst}
use Rattle.dai_trail.specs.Trail.{IsTrueIn}
use Rattle.dai_sat.proofs.Unders.{past_decision, past_all, decisions_asked}
use Rattle.dai_sat.proofs.assumptions.Asked.next.Goals as goal

pub returns-then-is_decided_from-clause-answer : goal.returns-then-is_decided_from-clause-answer
returns-then-is_decided_from-clause-answer c =
    let d = c.if-is_decided_from.ensures.found refl in
    past_decision c.args.self.now.codes.items c.args.self.now.floor c.args.trail.now d.place c.requires.under d.within d.behind d.decision

pub returns-in-None-clause-answer : goal.returns-in-None-clause-answer
returns-in-None-clause-answer c =
    let P : List ℕ → Type 0 = λ xs. (k : ℕ) → k < length xs → IsTrueIn c.args.trail.now (get_or xs k 0) in
    past_all c.args.self.now.codes.items c.args.trail.now c.requires.trail.mirror
    (decisions_asked c.args.self.now.codes.items c.args.self.now.floor c.args.trail.now c.requires.under (c.if-is_decided_from.ensures.none refl))
    (subst P c.as_slice.ensures.value c.in-None.ensures)
