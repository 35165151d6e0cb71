use Rattle.std.proofs.Common.{map, subst, rules}
use Rattle.dai_logic.specs.Protocols.{protocol_of}
use Rattle.dai_logic.specs.Tables.{structure_of}
use Rattle.dai_logic.specs.Trees.{formula_of}
use Rattle.dai_template.specs.Spaces.{clause_of}
use Rattle.dai_ground.specs.Turns.{IsFirstUnmet}
use Rattle.dai_judge.proofs.Recalled.{answering, all_met}
use Rattle.dai_judge.proofs.recall.answers.Goals as goal

pub returns : goal.returns
returns c = λ on C I transition premises.
    let q = c.args.question.now in
    let P = protocol_of q.protocol.now in
    let x = c.args.x.now in
    let own = c.requires.goal in
    let s = structure_of P x.before in
    let fs = map formula_of q.premises.now.formulas.items in
    answering C P q.block I fs (clause_of q.space.now q.goal.now) x c.meets.result
    (search (rules, c.ne.ensures, c.if-ne.false)) c.if-meets.false
    (c.meets.ensures P own.bounds own.is transition.after_fits)
    (all_met s fs c.in_ok-unmet.unmet c.is_none.result c.is_none.ensures on
    (subst (λ gs. IsFirstUnmet s (map formula_of gs) c.in_ok-unmet.unmet) c.as_slice.ensures.value c.in_ok-unmet.ensures))
    transition premises
