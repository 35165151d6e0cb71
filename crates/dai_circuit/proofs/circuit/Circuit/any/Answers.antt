use Rattle.std.proofs.Common.{rules, List, Ok, Result, not, ap, sym, subst, ◌∙◌}
use Rattle.dai_base.specs.declared.memory.Spent.{Spent}
use Rattle.dai_circuit.specs.declared.bit.Bit.{Bit}
use Rattle.dai_circuit.specs.Circuits.{all_value, any_value, AreBitsBelow, Defines}
use Rattle.dai_circuit.proofs.Values.{below-negations, not_all-negation}
use Rattle.dai_circuit.proofs.Extensions.{defines_negation, extends_self}
use Rattle.dai_circuit.proofs.circuit.Circuit.any.Goals as goal

pub returns-in_err-negated : goal.returns-in_err-negated
returns-in_err-negated c = record { extends = extends_self c.args.self.now; answer = search rules }

pub all-requires : goal.all-requires
all-requires c =
    let P : List Bit → Type 0 = λ parts. AreBitsBelow c.args.self.now.vars parts in
    subst P (sym (c.as_slice.ensures.value ∙ c.in_ok-negated.ensures)) (below-negations c.args.self.now.vars c.args.parts.now c.requires)

pub returns-in_err-none : goal.returns-in_err-none
returns-in_err-none c = record { extends = c.all.ensures.extends; answer = search rules }

pub returns : goal.returns
returns c =
    let P : Result Bit Spent → Type 0 = λ r. Defines c.args.self.now c.all.new.self r (all_value c.as_slice.result.now) in
    let Q : Bit → Type 0 = λ b. Defines c.args.self.now c.all.new.self (Ok b) (any_value c.args.parts.now) in
    subst Q (sym c.negation.ensures)
    (defines_negation c.args.self.now c.all.new.self c.in_ok-none.none (all_value c.as_slice.result.now) (any_value c.args.parts.now)
    (λ bits. ap (λ parts. not (all_value parts bits)) (c.as_slice.ensures.value ∙ c.in_ok-negated.ensures) ∙ not_all-negation bits c.args.parts.now)
    (subst P c.in_ok-none.was c.all.ensures))
