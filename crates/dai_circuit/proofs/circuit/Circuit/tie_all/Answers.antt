use Rattle.std.proofs.Common.{◌≡◌, arith, sym, subst, ℕ}
use Rattle.dai_trail.specs.Formula.{IsBelow, value_at}
use Rattle.dai_trail.proofs.Resolutions.{ok_map}
use Rattle.dai_circuit.specs.Circuits.{all_true}
use Rattle.dai_circuit.proofs.Values.{same_from}
use Rattle.dai_circuit.proofs.Extensions.{adds_after}
use Rattle.dai_circuit.proofs.circuit.Circuit.tie_all.Goals as goal

pub imply_back-requires-clause-var : goal.imply_back-requires-clause-var
imply_back-requires-clause-var c = omega (arith, c.requires.var, c.imply_each.ensures.adds.vars)

pub imply_back-requires-clause-lits : goal.imply_back-requires-clause-lits
imply_back-requires-clause-lits c =
    let P : ℕ → Type 0 = λ count. IsBelow count c.args.lits.now in
    subst P (sym c.imply_each.ensures.adds.vars) c.requires.lits

pub returns-clause-adds : goal.returns-clause-adds
returns-clause-adds c = adds_after c.args.self.now c.imply_each.new.self c.imply_back.new.self (λ bits. value_at bits c.args.var ≡ all_true c.args.lits.now bits) c.imply_each.ensures.adds c.imply_back.ensures.adds

pub returns-clause-ok : goal.returns-clause-ok
returns-clause-ok c =
    ok_map c.imply_back.result c.imply_back.ensures.ok (λ back bits met.
    same_from (value_at bits c.args.var) (all_true c.args.lits.now bits)
    (c.in_ok-imply_each.ensures.ok bits (c.imply_back.ensures.adds.keeps bits met))
    (back bits met))
