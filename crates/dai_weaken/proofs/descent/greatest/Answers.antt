use Rattle.std.proofs.Common.{subst, sym}
use Rattle.dai_model.specs.Classes.{Class}
use Rattle.dai_logic.specs.Protocols.{protocol_of}
use Rattle.dai_template.specs.Lists.{clauses_of}
use Rattle.dai_weaken.specs.Weakening.{IsDownTo, IsLeft}
use Rattle.dai_weaken.proofs.Falling.{left_by}
use Rattle.dai_weaken.proofs.descent.greatest.Goals as goal

pub returns-then-not-fell-clause-answer : goal.returns-then-not-fell-clause-answer
returns-then-not-fell-clause-answer g c = λ B start.
    let P = protocol_of c.args.protocol.now in
    let C = g.J.Judge.class c.loop-round.judge in
    let space = c.args.space.now in
    let first = clauses_of space c.args.start.clauses.items in
    let old = c.loop-round.weakened in
    let new = c.round.new.self in
    let same = c.loop-round.invariant.same in
    let known : IsDownTo C P B space first old.kept.clauses.items old.strikes.items = subst (λ (E : Class). IsDownTo E P B space first old.kept.clauses.items old.strikes.items) (sym same) (c.loop-round.invariant.down B start) in
    let down = c.in_ok-fell.ensures.down B first known in
    subst (λ (E : Class). IsLeft E P B space first new.kept.clauses.items new.strikes.items) same (left_by C P B space first new.kept.clauses.items new.strikes.items down (c.in_ok-fell.ensures.still c.if-not-fell.true))
