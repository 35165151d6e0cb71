use Rattle.std.proofs.Common.{◌≡◌, [], ap, sym, subst, ◌∙◌}
use Rattle.std.proofs.lemmas.Result.{IfOk-weaker}
use Rattle.dai_trail.specs.Formula.{Formula, IsBelow}
use Rattle.dai_circuit.specs.Circuits.{AreLiteralsOf, IsSolved, AreBitsBelow}
use Rattle.dai_circuit.proofs.Values.{below-literals}
use Rattle.dai_circuit.proofs.Models.{known_under}
use Rattle.dai_circuit.proofs.circuit.Circuit.solve_under.Goals as goal

pub returns-then-has_known-clause-answer : goal.returns-then-has_known-clause-answer
returns-then-has_known-clause-answer c = known_under c.args.self.now c.args.parts.now [] c.in_ok-marked.field-0 (sym c.has_known.ensures ∙ c.if-has_known.true) c.in_ok-marked.ensures

pub solve_under-requires : goal.solve_under-requires
solve_under-requires c =
    let below = subst (λ (f : Formula). AreBitsBelow f.vars c.args.parts.now) (sym c.self.view_is) c.requires in
    subst (IsBelow c.self.inside.solver.vars) (sym (c.as_slice.ensures.value ∙ c.in_ok-lits.ensures)) (below-literals c.self.inside.solver.vars c.args.parts.now below)

pub told_by-requires : goal.told_by-requires
told_by-requires c =
    let f = c.self.inside.solver in
    let parts = c.args.parts.now in
    let below = subst (λ (g : Formula). AreBitsBelow g.vars parts) (sym c.self.view_is) c.requires in
    let same : f.vars ≡ c.vars.result = sym (c.vars.ensures ∙ ap (λ (g : Formula). g.vars) (c.formula.ensures ∙ c.in_ok-outcome.ensures.same)) in
    let are : AreLiteralsOf parts c.as_slice.result.now = record { none_false = sym c.has_known.ensures ∙ c.if-has_known.false; lits_are = c.as_slice.ensures.value ∙ c.in_ok-lits.ensures } in
    (f, c.as_slice.result.now, same, subst (λ n. AreBitsBelow n parts) same below, are, c.in_ok-outcome.ensures.answer)

pub returns-clause-answer : goal.returns-clause-answer
returns-clause-answer c =
    let f = c.self.inside.solver in
    let parts = c.args.parts.now in
    let below = subst (λ (g : Formula). AreBitsBelow g.vars parts) (sym c.self.view_is) c.requires in
    let are : AreLiteralsOf parts c.as_slice.result.now = record { none_false = sym c.has_known.ensures ∙ c.if-has_known.false; lits_are = c.as_slice.ensures.value ∙ c.in_ok-lits.ensures } in
    IfOk-weaker c.told_by.result _ (IsSolved c.args.self.now parts)
    (λ answer h. subst (λ (g : Formula). IsSolved g parts answer) c.self.view_is (h f c.as_slice.result.now c.self.invariant below are c.in_ok-outcome.ensures.answer))
    c.told_by.ensures
