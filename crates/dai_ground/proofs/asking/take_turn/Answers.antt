use Rattle.std.proofs.Common.{◌<◌, ◌≡◌, false, Some, [], ◌∷◌, ◌++◌, refl, length, map, sym, ap, ◌∙◌, subst, arith}
use Rattle.std.proofs.lemmas.List.{length-map}
use Rattle.dai_model.specs.WellSorted.{IsWellSorted, closed_scope}
use Rattle.dai_trail.specs.Formula.{Formula, IsModelOf}
use Rattle.dai_logic.specs.Protocols.{protocol_of}
use Rattle.dai_logic.specs.Tables.{structure_of}
use Rattle.dai_logic.specs.Trees.{formula_of}
use Rattle.dai_ground.specs.Asking.{IsScene, block_asked}
use Rattle.dai_ground.specs.Answers.{picked}
use Rattle.dai_ground.specs.Turns.{IsSolution, IsFirstUnmet, IsOpenQuestion}
use Rattle.dai_ground.proofs.Answering.{none_refutes, found_of, refined_last, formula_at, picked_is, none_solution, scene_of, question_as}
use Rattle.dai_ground.proofs.asking.take_turn.Goals as goal

pub returns-in_default : goal.returns-in_default
returns-in_default c = λ used f sizes open'.
    let P = protocol_of c.args.protocol.now in
    let asked = block_asked P c.args.block in
    none_refutes P asked used f sizes c.args.wide c.args.wide.over (none_solution c.args.wide.cnf c.in_ok-cnf.field-0.model c.in_default.not-Some c.in_ok-cnf.ensures.model) open'

pub decode-requires-clause-question : goal.decode-requires-clause-question
decode-requires-clause-question c =
    let P = protocol_of c.args.protocol.now in
    let asked = block_asked P c.args.block in
    let q = c.requires.question in
    (false, q.2, q.0, Some q.1, question_as P asked false q.2 q.0 (Some q.1) c.args.wide _ c.in_ok-cnf.ensures.same refl refl q.3)

pub decode-requires-clause-model : goal.decode-requires-clause-model
decode-requires-clause-model c =
    let model = subst (IsModelOf c.args.wide.cnf) (sym c.as_slice.ensures.value) (subst (IsSolution c.args.wide.cnf) c.in-Some.is c.in_ok-cnf.ensures.model) in
    subst (λ (f : Formula). IsModelOf f c.as_slice.result.now) (sym c.in_ok-cnf.ensures.same) model

pub add-requires-clause-scene : goal.add-requires-clause-scene
add-requires-clause-scene c =
    let P = protocol_of c.args.protocol.now in
    let asked = block_asked P c.args.block in
    let q = c.requires.question in
    subst (λ (f : Formula). IsScene P c.args.wide.frame c.args.wide.picture f.vars) (sym c.in_ok-cnf.ensures.same) (scene_of P asked false q.2 q.0 (Some q.1) c.args.wide q.3)

pub add-requires-clause-closed : goal.add-requires-clause-closed
add-requires-clause-closed c =
    let P = protocol_of c.args.protocol.now in
    let premises = map formula_of c.args.premises.now in
    let many = length-map c.args.premises.now formula_of in
    let unmet = subst (IsFirstUnmet _ premises) c.in-Some-2.is c.in_ok-first_unmet.ensures in
    let below : c.in-Some-2.number < length c.args.premises.now = (let b : c.in-Some-2.number < length premises = unmet in omega arith) in
    let premise = c.index-premises-number.result in
    subst (λ g. IsWellSorted P closed_scope (formula_of g)) (sym c.index-premises-number.is) (formula_at P c.args.premises.now c.in-Some-2.number premise below c.requires.premises)

pub returns-in-None : goal.returns-in-None
returns-in-None c = λ used f sizes open'.
    let P = protocol_of c.args.protocol.now in
    let asked = block_asked P c.args.block in
    let premises = map formula_of c.args.premises.now in
    let met = subst (IsFirstUnmet (structure_of P c.in_ok-found.found.before) premises) c.in-None.is c.in_ok-first_unmet.ensures in
    found_of P asked premises used f sizes c.in_ok-found.found (c.in_ok-found.ensures.answers false sizes used (Some f) (question_as P asked false sizes used (Some f) c.args.wide _ c.in_ok-cnf.ensures.same refl refl open')) met

pub returns : goal.returns
returns c = λ used f sizes open'.
    let P = protocol_of c.args.protocol.now in
    let asked = block_asked P c.args.block in
    let fs = c.args.premises.now in
    let premises = map formula_of fs in
    let number = c.in-Some-2.number in
    let many = length-map fs formula_of in
    let unmet : number < length premises = subst (IsFirstUnmet _ premises) c.in-Some-2.is c.in_ok-first_unmet.ensures in
    let below : number < length fs = omega arith in
    let premise = c.index-premises-number.result in
    let new = c.add.new.self in
    let next = refined_last P asked false sizes used (Some f) (formula_of premise) _ new c.in_ok-add-in-Some-2.ensures (question_as P asked false sizes used (Some f) c.args.wide _ c.in_ok-cnf.ensures.same refl refl open') in
    let is : picked premises (number ∷ []) ≡ formula_of premise ∷ [] = picked_is fs number premise below ∙ ap (λ g. formula_of g ∷ []) (sym c.index-premises-number.is) in
    (unmet, subst (λ gs. IsOpenQuestion P asked (used ++ gs) f sizes new) (sym is) next)
