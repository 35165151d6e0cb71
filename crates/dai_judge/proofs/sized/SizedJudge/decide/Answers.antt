use Rattle.std.proofs.Common.{List, map, sym, subst}
use Rattle.std.specs.Prelude.{IfSome}
use Rattle.std.specs.List.{All}
use Rattle.dai_model.specs.Classes.{Class, up_to}
use Rattle.dai_model.specs.Clause.{Clause}
use Rattle.dai_logic.specs.Protocols.{protocol_of}
use Rattle.dai_logic.specs.Trees.{formula_of}
use Rattle.dai_template.specs.Spaces.{clause_of}
use Rattle.dai_weaken.specs.Judging.{IsTransition}
use Rattle.dai_judge.specs.Premises.{AreFormulasOf}
use Rattle.dai_judge.specs.Memory.{Breaks}
use Rattle.dai_judge.proofs.Picks.{formulas_of_premises, closed_premises}
use Rattle.dai_judge.proofs.sized.SizedJudge.decide.Goals as goal

pub recall-requires-clause-premises : goal.recall-requires-clause-premises
recall-requires-clause-premises c =
    let q = c.args.question.now in
    closed_premises (protocol_of q.protocol.now) c.requires.premises.0 q.premises.now c.requires.premises.1

pub returns-in-Some-clause-answer : goal.returns-in-Some-clause-answer
returns-in-Some-clause-answer c = λ I premises.
    let q = c.args.question.now in
    let P = protocol_of q.protocol.now in
    let C = up_to c.args.self.now.sizes.items in
    let fs = map formula_of q.premises.now.formulas.items in
    let d = clause_of q.space.now q.goal.now in
    let shown = c.as_slice.result.now in
    let told = subst (λ answer. IfSome answer (λ x. (C : Class) (I : List Clause) → All (IsTransition C P) shown → AreFormulasOf P I fs → Breaks C P q.block I d x)) c.in-Some.is c.in_ok-x.ensures in
    told C I (subst (All (IsTransition C P)) (sym c.as_slice.ensures.value) c.requires.ready.memory.shown) (formulas_of_premises P I q.premises.now premises)
