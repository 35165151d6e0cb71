use Rattle.std.proofs.Common.{rules, List, Bool, arith, ap, ◌∙◌}
use Rattle.dai_trail.specs.Formula.{value_at}
use Rattle.dai_circuit.specs.Circuits.{same_value, lit_value}
use Rattle.dai_circuit.proofs.Values.{same_variable, beq_same}
use Rattle.dai_circuit.proofs.Extensions.{same-local, defines_old, defines_tied, extends_equal, extends_tied}
use Rattle.dai_circuit.proofs.circuit.Circuit.same_literals.Goals as goal

pub tie_same-requires-clause-first : goal.tie_same-requires-clause-first
tie_same-requires-clause-first c = let e = ap (λ f. f.vars) (c.in_ok-var.ensures.ok).1 in omega (arith, c.requires.first)

pub tie_same-requires-clause-second : goal.tie_same-requires-clause-second
tie_same-requires-clause-second c = let e = ap (λ f. f.vars) (c.in_ok-var.ensures.ok).1 in omega (arith, c.requires.second)

pub returns-then-first-second : goal.returns-then-first-second
returns-then-first-second c =
    let a = c.args.first in
    let b = c.args.second in
    defines_old c.args.self.now _ (λ bits. same_value (lit_value bits a) (lit_value bits b)) tt
    (λ bits. beq_same a.positive b.positive ∙ same_variable a.positive b.positive (value_at bits a.var) ∙ ap (λ var. same_value (lit_value bits a) (same_value b.positive (value_at bits var))) c.if-first-second.true)

pub returns-in_err-var : goal.returns-in_err-var
returns-in_err-var c = record { extends = extends_equal c.args.self.now c.fresh.new.self c.in_err-var.ensures.err; answer = search rules }

pub returns-in_err-tie_same : goal.returns-in_err-tie_same
returns-in_err-tie_same c =
    let value : List Bool → Bool = λ bits. same_value (lit_value bits c.args.first) (lit_value bits c.args.second) in
    record { extends = extends_tied c.args.self.now c.fresh.new.self c.tie_same.new.self c.in_ok-var.var value c.fresh.ensures.over (same-local c.args.self.now.vars c.args.first c.args.second c.requires.first c.requires.second) (c.in_ok-var.ensures.ok).1 (c.in_ok-var.ensures.ok).0 c.tie_same.ensures.adds; answer = search rules }

pub returns : goal.returns
returns c =
    let value : List Bool → Bool = λ bits. same_value (lit_value bits c.args.first) (lit_value bits c.args.second) in
    defines_tied c.args.self.now c.fresh.new.self c.tie_same.new.self c.in_ok-var.var value c.fresh.ensures.over (same-local c.args.self.now.vars c.args.first c.args.second c.requires.first c.requires.second) (c.in_ok-var.ensures.ok).1 (c.in_ok-var.ensures.ok).0 c.tie_same.ensures.adds c.in_ok-tie_same.ensures.ok
