use Rattle.std.proofs.Common.{rules, List, ap, sym, subst, ◌∙◌}
use Rattle.dai_trail.specs.declared.cnf.Lit.{Lit}
use Rattle.dai_trail.specs.Formula.{IsBelow}
use Rattle.dai_circuit.specs.Circuits.{all_true, all_value}
use Rattle.dai_circuit.proofs.Values.{all_false, all_open, below-literals}
use Rattle.dai_circuit.proofs.Extensions.{defines_old, defines_same, extends_self}
use Rattle.dai_circuit.proofs.circuit.Circuit.all.Goals as goal

pub returns-then-has_known : goal.returns-then-has_known
returns-then-has_known c =
    defines_old c.args.self.now _ (all_value c.args.parts.now) tt (λ bits. sym (all_false bits c.args.parts.now (sym c.has_known.ensures ∙ c.if-has_known.true)))

pub returns-in_err-lits : goal.returns-in_err-lits
returns-in_err-lits c = record { extends = extends_self c.args.self.now; answer = search rules }

pub all_literals-requires : goal.all_literals-requires
all_literals-requires c =
    let P : List Lit → Type 0 = λ lits. IsBelow c.args.self.now.vars lits in
    subst P (sym (c.as_slice.ensures.value ∙ c.in_ok-lits.ensures)) (below-literals c.args.self.now.vars c.args.parts.now c.requires)

pub returns : goal.returns
returns c =
    defines_same c.args.self.now c.all_literals.new.self c.all_literals.result (all_true c.as_slice.result.now) (all_value c.args.parts.now)
    (λ bits. ap (λ lits. all_true lits bits) (c.as_slice.ensures.value ∙ c.in_ok-lits.ensures) ∙ all_open bits c.args.parts.now (sym c.has_known.ensures ∙ c.if-has_known.false))
    c.all_literals.ensures
