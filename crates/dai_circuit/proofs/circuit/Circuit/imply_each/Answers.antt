use Rattle.std.proofs.Common.{◌≡◌, ◌∷◌, [], List, Bool, false, get_or, take, sym, ◌∙◌}
use Rattle.std.proofs.lemmas.Bool.{and_from}
use Rattle.std.proofs.lemmas.List.Folds.{list_all_more}
use Rattle.dai_trail.specs.declared.cnf.Lit.{Lit}
use Rattle.dai_trail.specs.Formula.{value_at}
use Rattle.dai_circuit.specs.Circuits.{lit_value, all_true, Adds}
use Rattle.dai_circuit.proofs.Values.{all_true_at, clause_of_implication, implied}
use Rattle.dai_circuit.proofs.Extensions.{adds_by, adds_after, last_met}
use Rattle.dai_circuit.proofs.circuit.Circuit.imply_each.Goals as goal

pub returns-in_err-add-clause-adds : goal.returns-in_err-add-clause-adds
returns-in_err-add-clause-adds c =
    let d : Lit = record { var = 0; positive = false } in
    let lit : Lit = get_or c.args.lits.now c.loop-lit.lit-index d in
    let head : Lit = record { var = c.args.var; positive = false } in
    let clause : List Lit = head ∷ lit ∷ [] in
    let C : List Bool → Type 0 = λ bits. value_at bits c.args.var ≡ all_true c.args.lits.now bits in
    let one : Adds c.loop-lit.self c.add.new.self C =
    adds_by c.loop-lit.self c.add.new.self clause c.add.result C c.add.ensures.ok c.add.ensures.err
    (λ bits same. clause_of_implication (value_at bits c.args.var) (lit_value bits lit)
    (λ x. all_true_at bits c.args.lits.now c.loop-lit.lit-index d c.loop-lit-test.true (sym same ∙ x))) in
    adds_after c.args.self.now c.loop-lit.self c.add.new.self C c.loop-lit.invariant.adds one

pub loop-lit-preserved : goal.loop-lit-preserved
loop-lit-preserved c =
    let d : Lit = record { var = 0; positive = false } in
    let lit : Lit = get_or c.args.lits.now c.loop-lit.lit-index d in
    let head : Lit = record { var = c.args.var; positive = false } in
    let clause : List Lit = head ∷ lit ∷ [] in
    let C : List Bool → Type 0 = λ bits. value_at bits c.args.var ≡ all_true c.args.lits.now bits in
    let one : Adds c.loop-lit.self c.add.new.self C =
    adds_by c.loop-lit.self c.add.new.self clause c.add.result C c.add.ensures.ok c.add.ensures.err
    (λ bits same. clause_of_implication (value_at bits c.args.var) (lit_value bits lit)
    (λ x. all_true_at bits c.args.lits.now c.loop-lit.lit-index d c.loop-lit-test.true (sym same ∙ x))) in
    record {
      adds = adds_after c.args.self.now c.loop-lit.self c.add.new.self C c.loop-lit.invariant.adds one;
      implied = λ bits met x.
          list_all_more (lit_value bits) c.args.lits.now c.loop-lit.lit-index d c.loop-lit-test.true
          ∙ and_from (all_true (take c.loop-lit.lit-index c.args.lits.now) bits) (lit_value bits lit)
          (c.loop-lit.invariant.implied bits (one.keeps bits met) x)
          (implied (value_at bits c.args.var) (lit_value bits lit) (last_met c.loop-lit.self c.add.new.self clause bits c.in_ok-add.ensures.ok met) x);
    }
