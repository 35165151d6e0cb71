use Rattle.std.proofs.Common.{◌≡◌, ◌∷◌, [], ℕ, List, Bool, not, ◌||◌, false, ap, ◌∙◌, sym}
use Rattle.std.specs.List.{list_any}
use Rattle.dai_trail.specs.declared.cnf.Lit.{Lit}
use Rattle.dai_trail.specs.Formula.{value_at}
use Rattle.dai_trail.proofs.Resolutions.{ok_map}
use Rattle.dai_circuit.specs.Circuits.{lit_value, opposite, variable, Adds, IsTied}
use Rattle.dai_circuit.proofs.Values.{tied_first, tied_second, tied_by, value-opposite}
use Rattle.dai_circuit.proofs.Extensions.{adds_by, adds_after, last_met}
use Rattle.dai_circuit.proofs.circuit.Circuit.tie_unless.Goals as goal

-- the values of the two clauses
first_value : (bits : List Bool) (guard other denied : Lit) (var : ℕ) → denied ≡ opposite (variable var) → list_any (lit_value bits) (guard ∷ denied ∷ other ∷ []) ≡ (lit_value bits guard || (not (value_at bits var) || (lit_value bits other || false)))
first_value bits guard other denied var e = ap (λ l. lit_value bits guard || (lit_value bits l || (lit_value bits other || false))) e

second_value : (bits : List Bool) (guard other against : Lit) (var : ℕ) → against ≡ opposite other → list_any (lit_value bits) (guard ∷ variable var ∷ against ∷ []) ≡ (lit_value bits guard || (value_at bits var || (not (lit_value bits other) || false)))
second_value bits guard other against var e = ap (λ v. lit_value bits guard || (value_at bits var || (v || false))) (ap (lit_value bits) e ∙ value-opposite bits other)

pub returns-in_err-add-clause-adds : goal.returns-in_err-add-clause-adds
returns-in_err-add-clause-adds c =
    adds_by c.args.self.now c.add.new.self (c.args.guard ∷ c.opposite.result ∷ c.args.other ∷ []) c.add.result (IsTied c.args.guard c.args.var c.args.other) c.add.ensures.ok c.add.ensures.err
    (λ bits tied. first_value bits c.args.guard c.args.other c.opposite.result c.args.var c.opposite.ensures ∙ tied_first (lit_value bits c.args.guard) (value_at bits c.args.var) (lit_value bits c.args.other) tied)

pub returns-clause-adds : goal.returns-clause-adds
returns-clause-adds c =
    let C : List Bool → Type 0 = IsTied c.args.guard c.args.var c.args.other in
    let one : Adds c.args.self.now c.add.new.self C =
    adds_by c.args.self.now c.add.new.self (c.args.guard ∷ c.opposite.result ∷ c.args.other ∷ []) c.add.result C c.add.ensures.ok c.add.ensures.err
    (λ bits tied. first_value bits c.args.guard c.args.other c.opposite.result c.args.var c.opposite.ensures ∙ tied_first (lit_value bits c.args.guard) (value_at bits c.args.var) (lit_value bits c.args.other) tied) in
    let two : Adds c.add.new.self c.add-2.new.self C =
    adds_by c.add.new.self c.add-2.new.self (c.args.guard ∷ variable c.args.var ∷ c.opposite-2.result ∷ []) c.add-2.result C c.add-2.ensures.ok c.add-2.ensures.err
    (λ bits tied. second_value bits c.args.guard c.args.other c.opposite-2.result c.args.var c.opposite-2.ensures ∙ tied_second (lit_value bits c.args.guard) (value_at bits c.args.var) (lit_value bits c.args.other) tied) in
    adds_after c.args.self.now c.add.new.self c.add-2.new.self C one two

pub returns-clause-ok : goal.returns-clause-ok
returns-clause-ok c =
    let C : List Bool → Type 0 = IsTied c.args.guard c.args.var c.args.other in
    let two : Adds c.add.new.self c.add-2.new.self C =
    adds_by c.add.new.self c.add-2.new.self (c.args.guard ∷ variable c.args.var ∷ c.opposite-2.result ∷ []) c.add-2.result C c.add-2.ensures.ok c.add-2.ensures.err
    (λ bits tied. second_value bits c.args.guard c.args.other c.opposite-2.result c.args.var c.opposite-2.ensures ∙ tied_second (lit_value bits c.args.guard) (value_at bits c.args.var) (lit_value bits c.args.other) tied) in
    ok_map c.add-2.result c.add-2.ensures.ok (λ e bits met.
    let one = sym (first_value bits c.args.guard c.args.other c.opposite.result c.args.var c.opposite.ensures) ∙ last_met c.args.self.now c.add.new.self (c.args.guard ∷ c.opposite.result ∷ c.args.other ∷ []) bits c.in_ok-add.ensures.ok (two.keeps bits met) in
    let last = sym (second_value bits c.args.guard c.args.other c.opposite-2.result c.args.var c.opposite-2.ensures) ∙ last_met c.add.new.self c.add-2.new.self (c.args.guard ∷ variable c.args.var ∷ c.opposite-2.result ∷ []) bits e met in
    tied_by (lit_value bits c.args.guard) (value_at bits c.args.var) (lit_value bits c.args.other) one last)
