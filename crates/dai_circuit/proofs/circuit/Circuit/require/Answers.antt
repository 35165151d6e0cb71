use Rattle.std.proofs.Common.{List, ap, sym, subst, ◌∙◌}
use Rattle.std.specs.List.{list_any}
use Rattle.dai_trail.specs.declared.cnf.Lit.{Lit}
use Rattle.dai_trail.specs.Formula.{IsBelow}
use Rattle.dai_trail.proofs.Resolutions.{ok_map}
use Rattle.dai_circuit.specs.Circuits.{lit_value}
use Rattle.dai_circuit.proofs.Values.{any_open, any_true, below-literals}
use Rattle.dai_circuit.proofs.Extensions.{requires_none, requires_push}
use Rattle.dai_circuit.proofs.circuit.Circuit.require.Goals as goal

pub returns-then-has_known-clause-ok : goal.returns-then-has_known-clause-ok
returns-then-has_known-clause-ok c = requires_none c.args.self.now c.args.parts.now (λ bits. any_true bits c.args.parts.now (sym c.has_known.ensures ∙ c.if-has_known.true))

pub add-requires : goal.add-requires
add-requires c =
    let P : List Lit → Type 0 = λ lits. IsBelow c.args.self.now.vars lits in
    subst P (sym (c.as_slice.ensures.value ∙ c.in_ok-clause.ensures)) (below-literals c.args.self.now.vars c.args.parts.now c.requires)

pub returns-clause-ok : goal.returns-clause-ok
returns-clause-ok c =
    ok_map c.add.result c.add.ensures.ok (λ e.
    requires_push c.args.self.now c.add.new.self c.as_slice.result.now c.args.parts.now e
    (λ bits. ap (list_any (lit_value bits)) (c.as_slice.ensures.value ∙ c.in_ok-clause.ensures) ∙ any_open bits c.args.parts.now (sym c.has_known.ensures ∙ c.if-has_known.false)))
