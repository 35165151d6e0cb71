use Rattle.std.proofs.Common.{◌≡◌, List, Bool, not, arith, sym, ap, ◌∙◌}
use Rattle.dai_trail.specs.declared.cnf.Lit.{Lit}
use Rattle.dai_trail.specs.Formula.{value_at}
use Rattle.dai_trail.proofs.Resolutions.{ok_map}
use Rattle.dai_circuit.specs.Circuits.{lit_value, same_value, opposite, IsTied}
use Rattle.dai_circuit.proofs.Values.{value-opposite, same_when_true, same_when_false, same_by_cases}
use Rattle.dai_circuit.proofs.Extensions.{adds_after, adds_weaker}
use Rattle.dai_circuit.proofs.circuit.Circuit.tie_same.Goals as goal

value_of : (bits : List Bool) (l m : Lit) → l ≡ opposite m → lit_value bits l ≡ not (lit_value bits m)
value_of bits l m e = ap (lit_value bits) e ∙ value-opposite bits m

pub tie_unless-requires-clause-guard : goal.tie_unless-requires-clause-guard
tie_unless-requires-clause-guard c = let e = ap (λ l. l.var) c.opposite.ensures in omega (arith, c.requires.first)

pub tie_unless-requires-2-clause-guard : goal.tie_unless-requires-2-clause-guard
tie_unless-requires-2-clause-guard c = omega (arith, c.requires.first, c.tie_unless.ensures.adds.vars)

pub tie_unless-requires-2-clause-var : goal.tie_unless-requires-2-clause-var
tie_unless-requires-2-clause-var c = omega (arith, c.requires.var, c.tie_unless.ensures.adds.vars)

pub tie_unless-requires-2-clause-other : goal.tie_unless-requires-2-clause-other
tie_unless-requires-2-clause-other c = let e = ap (λ l. l.var) c.opposite-2.ensures in omega (arith, c.requires.second, c.tie_unless.ensures.adds.vars)

pub returns-in_err-tie_unless-clause-adds : goal.returns-in_err-tie_unless-clause-adds
returns-in_err-tie_unless-clause-adds c = adds_weaker c.args.self.now c.tie_unless.new.self
    (IsTied c.opposite.result c.args.var c.args.second)
    (λ bits. value_at bits c.args.var ≡ same_value (lit_value bits c.args.first) (lit_value bits c.args.second))
    (λ bits same n. same_when_true (lit_value bits c.args.first) (lit_value bits c.args.second) (value_at bits c.args.var) same (sym (value_of bits c.opposite.result c.args.first c.opposite.ensures) ∙ n))
    c.tie_unless.ensures.adds

pub returns-clause-adds : goal.returns-clause-adds
returns-clause-adds c =
    adds_after c.args.self.now c.tie_unless.new.self c.tie_unless-2.new.self
    (λ bits. value_at bits c.args.var ≡ same_value (lit_value bits c.args.first) (lit_value bits c.args.second))
    (adds_weaker c.args.self.now c.tie_unless.new.self
    (IsTied c.opposite.result c.args.var c.args.second)
    (λ bits. value_at bits c.args.var ≡ same_value (lit_value bits c.args.first) (lit_value bits c.args.second))
    (λ bits same n. same_when_true (lit_value bits c.args.first) (lit_value bits c.args.second) (value_at bits c.args.var) same (sym (value_of bits c.opposite.result c.args.first c.opposite.ensures) ∙ n))
    c.tie_unless.ensures.adds)
    (adds_weaker c.tie_unless.new.self c.tie_unless-2.new.self
    (IsTied c.args.first c.args.var c.opposite-2.result)
    (λ bits. value_at bits c.args.var ≡ same_value (lit_value bits c.args.first) (lit_value bits c.args.second))
    (λ bits same n. same_when_false (lit_value bits c.args.first) (lit_value bits c.args.second) (value_at bits c.args.var) same n ∙ sym (value_of bits c.opposite-2.result c.args.second c.opposite-2.ensures))
    c.tie_unless-2.ensures.adds)

pub returns-clause-ok : goal.returns-clause-ok
returns-clause-ok c =
    ok_map c.tie_unless-2.result c.tie_unless-2.ensures.ok (λ tied bits met.
    let first = c.in_ok-tie_unless.ensures.ok bits (c.tie_unless-2.ensures.adds.keeps bits met) in
    same_by_cases (lit_value bits c.args.first) (lit_value bits c.args.second) (value_at bits c.args.var)
    (λ n. first (value_of bits c.opposite.result c.args.first c.opposite.ensures ∙ n))
    (λ n. tied bits met n ∙ value_of bits c.opposite-2.result c.args.second c.opposite-2.ensures))
