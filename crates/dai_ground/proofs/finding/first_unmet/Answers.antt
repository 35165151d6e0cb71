use Rattle.std.proofs.Common.{◌≡◌, map, refl, ap, sym, ◌∙◌, subst, arith}
use Rattle.std.proofs.lemmas.List.{length-map}
use Rattle.dai_logic.specs.Environments.{environment_of}
use Rattle.dai_logic.specs.Protocols.{protocol_of}
use Rattle.dai_logic.specs.Tables.{structure_of}
use Rattle.dai_logic.specs.Trees.{formula_of}
use Rattle.dai_model.specs.Value.{empty_environment, value_of}
use Rattle.dai_model.specs.WellSorted.{IsWellSorted, closed_scope}
use Rattle.dai_ground.proofs.Answering.{closed_evaluable, formula_at, unmet_more, unmet_all}
use Rattle.dai_ground.proofs.finding.first_unmet.Goals as goal

pub loop-number-init : goal.loop-number-init
loop-number-init c = record { same = refl; all = λ k d l. absurd (omega arith) }

pub eval-requires-clause-formula : goal.eval-requires-clause-formula
eval-requires-clause-formula c =
    let P = protocol_of c.args.protocol.now in
    let f = c.index-formulas-number.result in
    closed_evaluable P c.args.s.now.sizes.items (environment_of c.loop-number.env) (formula_of f) (subst (λ g. IsWellSorted P closed_scope (formula_of g)) (sym c.index-formulas-number.is) (formula_at P c.args.formulas.now c.loop-number.number f c.loop-number-test.true c.requires.closed))

pub returns-then-not-eval : goal.returns-then-not-eval
returns-then-not-eval c = let many = length-map c.args.formulas.now formula_of in let below = c.loop-number-test.true in omega arith

pub loop-number-preserved : goal.loop-number-preserved
loop-number-preserved c =
    let P = protocol_of c.args.protocol.now in
    let s = structure_of P c.args.s.now in
    let f = c.index-formulas-number.result in
    let i = c.loop-number.number in
    let empty : environment_of c.loop-number.env ≡ empty_environment = ap environment_of c.loop-number.invariant.same ∙ c.in_ok-env.ensures in
    let value = c.eval.ensures.value ∙ ap (λ g. value_of s (environment_of c.loop-number.env) (formula_of g)) c.index-formulas-number.is in
    record {
      same = c.eval.ensures.unchanged ∙ c.loop-number.invariant.same;
      all = unmet_more P s c.args.formulas.now i f (environment_of c.loop-number.env) c.eval.result c.loop-number-test.true empty value c.if-not-eval.false c.loop-number.invariant.all;
    }

pub returns : goal.returns
returns c =
    let many = length-map c.args.formulas.now formula_of in
    unmet_all (structure_of (protocol_of c.args.protocol.now) c.args.s.now) (map formula_of c.args.formulas.now) c.loop-number.number (let past = c.loop-number-test.false in omega arith) c.loop-number.invariant.all
