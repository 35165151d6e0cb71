use Rattle.std.proofs.Common.{◌≡◌, ◌<◌, true, [], length, get_or, map, take, ap, sym, ◌∙◌, subst, arith}
use Rattle.std.specs.List.{All}
use Rattle.std.proofs.lemmas.List.{take_all, get_or-map, length-map}
use Rattle.dai_model.specs.Formula as Model
use Rattle.dai_model.specs.Value.{Satisfies}
use Rattle.dai_model.specs.WellSorted.{IsWellSorted, closed_scope}
use Rattle.dai_logic.specs.Protocols.{protocol_of}
use Rattle.dai_logic.specs.Trees.{formula_of}
use Rattle.dai_ground.specs.Asking.{RestrictsTo, HasTruth}
use Rattle.dai_ground.proofs.Answering.{formula_at}
use Rattle.dai_ground.proofs.Restrictions.{restricts_none, formulas_more}
use Rattle.dai_ground.proofs.restricting.restrict_each.Goals as goal

pub loop-number-init : goal.loop-number-init
loop-number-init c = restricts_none (protocol_of c.args.scene.now.protocol.now) c.args.scene.now.frame.now c.args.scene.now.picture.now (λ s. All (Satisfies s) []) c.args.circuit.now (λ s k d l. absurd (omega arith))

pub restrict-requires-clause-closed : goal.restrict-requires-clause-closed
restrict-requires-clause-closed c =
    let P = protocol_of c.args.scene.now.protocol.now in
    let f = c.index-formulas-number.result in
    subst (λ g. IsWellSorted P closed_scope (formula_of g)) (sym c.index-formulas-number.is) (formula_at P c.args.formulas.now c.loop-number.number f c.loop-number-test.true c.requires.closed)

pub loop-number-preserved : goal.loop-number-preserved
loop-number-preserved c =
    let fs = c.args.formulas.now in
    let i = c.loop-number.number in
    let f = c.index-formulas-number.result in
    let many = length-map fs formula_of in
    let inside : i < length fs = c.loop-number-test.true in
    let d : Model.Formula = formula_of f in
    let same : formula_of f ≡ get_or (map formula_of fs) i d = ap formula_of c.index-formulas-number.is ∙ sym (get_or-map formula_of fs i f d inside) in
    formulas_more (protocol_of c.args.scene.now.protocol.now) c.args.scene.now.frame.now c.args.scene.now.picture.now (map formula_of fs) i d c.args.circuit.now c.loop-number.circuit c.restrict.new.circuit (omega arith) c.requires.scene c.loop-number.invariant
    (subst (λ g. RestrictsTo (protocol_of c.args.scene.now.protocol.now) c.args.scene.now.frame.now c.args.scene.now.picture.now (HasTruth g true) c.loop-number.circuit c.restrict.new.circuit) same c.in_ok-restrict.ensures)

pub returns : goal.returns
returns c =
    let fs = c.args.formulas.now in
    let many = length-map fs formula_of in
    let all : take c.loop-number.number (map formula_of fs) ≡ map formula_of fs = take_all c.loop-number.number (map formula_of fs) (let past = c.loop-number-test.false in omega arith) in
    subst (λ gs. RestrictsTo (protocol_of c.args.scene.now.protocol.now) c.args.scene.now.frame.now c.args.scene.now.picture.now (λ s. All (Satisfies s) gs) c.args.circuit.now c.loop-number.circuit) all c.loop-number.invariant
