use Rattle.std.proofs.Common.{rules, ◌≡◌, ◌+◌, get_or, arith, drop, true, false, map, sym, ap, ◌∙◌, refl}
use Rattle.dai_model.specs.Formula.{relates, same, less, less_or_same, universal, existential, negation, conjunction, disjunction, implication, equivalence}
use Rattle.dai_model.specs.Value.{bind, agree, all_agree, value_of}
use Rattle.dai_logic.specs.declared.protocol.Formula.{the_lemmas}
use Rattle.dai_logic.specs.Trees.{term_of, formula_of, formulas_of}
use Rattle.dai_logic.specs.Protocols.{protocol_of}
use Rattle.dai_logic.specs.Tables.{structure_of}
use Rattle.dai_logic.specs.Environments.{environment_of, bound}
use Rattle.dai_logic.proofs.Trees.{formula_of-All, formula_of-Any, formula_of-Iff, formulas_of-drop, formulas_of-drop_all}
use Rattle.dai_logic.proofs.Evaluable.{evaluable_as, same_places, less_places, less_or_same_places, universal_sort, existential_sort, universal_body, existential_body, negation_evaluable, conjunction_evaluable, disjunction_evaluable, equivalence_evaluable, left_evaluable, right_evaluable, rest_evaluable}
use Rattle.dai_logic.proofs.Elements.{size_read, below_size, all_fails, all_more, all_done, some_passes, none_more, none_done}
use Rattle.dai_logic.proofs.Environments.{bound-own, bound-then, bind_first}
use Rattle.dai_logic.proofs.Parts.{value_then, evaluable_now, first_evaluable_now, all_hold_step, all_hold_end, some_holds_step, some_holds_end, all_agree_step, all_agree_end, negation_value, value_by, false_left, true_left}
use Rattle.dai_logic.proofs.values.+eval.Goals as goal
use Rattle.dai_logic.proofs.values.+eval.Goals.{all_agree-then-not-eval, all_agree-else-not-eval}

pub all_hold-loop-part-init : goal.all_hold-loop-part-init
all_hold-loop-part-init t c =
    record { same = refl; evaluable = c.requires.formulas; value = refl }

pub all_hold-offset_bounds-parts-part-index : goal.all_hold-offset_bounds-parts-part-index
all_hold-offset_bounds-parts-part-index t c =
    search rules

pub all_hold-loop-part-smaller : goal.all_hold-loop-part-smaller
all_hold-loop-part-smaller t c =
    search rules

pub all_hold-eval-requires : goal.all_hold-eval-requires
all_hold-eval-requires t c =
    (search (rules, the_lemmas), (c.requires.fits, first_evaluable_now (protocol_of c.args.protocol.now) c.args.s.now.sizes.items c.loop-part.env c.args.env.now (formulas_of (drop c.loop-part.part-index c.args.parts.now)) (formula_of c.part-item.result) (formulas_of (drop (c.loop-part.part-index + 1) c.args.parts.now)) c.loop-part.invariant.same (formulas_of-drop c.args.parts.now c.loop-part.part-index c.part-item.result c.loop-part-test.true c.part-item.is) c.loop-part.invariant.evaluable))

pub all_hold-returns-clause-unchanged : goal.all_hold-returns-clause-unchanged
all_hold-returns-clause-unchanged t c =
    c.loop-part.invariant.same

pub all_hold-returns-clause-value : goal.all_hold-returns-clause-value
all_hold-returns-clause-value t c =
    all_hold_end (structure_of (protocol_of c.args.protocol.now) c.args.s.now) (environment_of c.args.env.now) (formulas_of (drop c.loop-part.part-index c.args.parts.now)) _ (formulas_of-drop_all c.args.parts.now c.loop-part.part-index c.loop-part-test.false) c.loop-part.invariant.value

pub some_holds-loop-part-init : goal.some_holds-loop-part-init
some_holds-loop-part-init t c =
    record { same = refl; evaluable = c.requires.formulas; value = refl }

pub some_holds-offset_bounds-parts-part-index : goal.some_holds-offset_bounds-parts-part-index
some_holds-offset_bounds-parts-part-index t c =
    search rules

pub some_holds-loop-part-smaller : goal.some_holds-loop-part-smaller
some_holds-loop-part-smaller t c =
    search rules

pub some_holds-eval-requires : goal.some_holds-eval-requires
some_holds-eval-requires t c =
    (search (rules, the_lemmas), (c.requires.fits, first_evaluable_now (protocol_of c.args.protocol.now) c.args.s.now.sizes.items c.loop-part.env c.args.env.now (formulas_of (drop c.loop-part.part-index c.args.parts.now)) (formula_of c.part-item.result) (formulas_of (drop (c.loop-part.part-index + 1) c.args.parts.now)) c.loop-part.invariant.same (formulas_of-drop c.args.parts.now c.loop-part.part-index c.part-item.result c.loop-part-test.true c.part-item.is) c.loop-part.invariant.evaluable))

pub some_holds-returns-clause-unchanged : goal.some_holds-returns-clause-unchanged
some_holds-returns-clause-unchanged t c =
    c.loop-part.invariant.same

pub some_holds-returns-clause-value : goal.some_holds-returns-clause-value
some_holds-returns-clause-value t c =
    some_holds_end (structure_of (protocol_of c.args.protocol.now) c.args.s.now) (environment_of c.args.env.now) (formulas_of (drop c.loop-part.part-index c.args.parts.now)) _ (formulas_of-drop_all c.args.parts.now c.loop-part.part-index c.loop-part-test.false) c.loop-part.invariant.value

pub all_agree-loop-part-init : goal.all_agree-loop-part-init
all_agree-loop-part-init t c =
    record { same = refl; evaluable = c.requires.formulas; value = refl }

pub all_agree-offset_bounds-parts-part-index : goal.all_agree-offset_bounds-parts-part-index
all_agree-offset_bounds-parts-part-index t c =
    search rules

pub all_agree-loop-part-smaller : goal.all_agree-loop-part-smaller
all_agree-loop-part-smaller t c =
    search rules

pub all_agree-eval-requires : goal.all_agree-eval-requires
all_agree-eval-requires t c =
    (search (rules, the_lemmas), (c.requires.fits, first_evaluable_now (protocol_of c.args.protocol.now) c.args.s.now.sizes.items c.loop-part.env c.args.env.now (formulas_of (drop c.loop-part.part-index c.args.parts.now)) (formula_of c.part-item.result) (formulas_of (drop (c.loop-part.part-index + 1) c.args.parts.now)) c.loop-part.invariant.same (formulas_of-drop c.args.parts.now c.loop-part.part-index c.part-item.result c.loop-part-test.true c.part-item.is) c.loop-part.invariant.evaluable))

pub all_agree-returns-clause-unchanged : goal.all_agree-returns-clause-unchanged
all_agree-returns-clause-unchanged t c =
    c.loop-part.invariant.same

pub all_agree-returns-clause-value : goal.all_agree-returns-clause-value
all_agree-returns-clause-value t c =
    all_agree_end (structure_of (protocol_of c.args.protocol.now) c.args.s.now) (environment_of c.args.env.now) (formulas_of (drop c.loop-part.part-index c.args.parts.now)) c.loop-part.even _ (formulas_of-drop_all c.args.parts.now c.loop-part.part-index c.loop-part-test.false) c.loop-part.invariant.value

pub all_hold-returns-then-not-eval-clause-value : goal.all_hold-returns-then-not-eval-clause-value
all_hold-returns-then-not-eval-clause-value t c =
    all_hold_step (structure_of (protocol_of c.args.protocol.now) c.args.s.now) (environment_of c.args.env.now) (formulas_of (drop c.loop-part.part-index c.args.parts.now)) (formula_of c.part-item.result) (formulas_of (drop (c.loop-part.part-index + 1) c.args.parts.now)) false _ (formulas_of-drop c.args.parts.now c.loop-part.part-index c.part-item.result c.loop-part-test.true c.part-item.is) (value_then (structure_of (protocol_of c.args.protocol.now) c.args.s.now) c.loop-part.env c.args.env.now (formula_of c.part-item.result) false c.loop-part.invariant.same c.if-not-eval.ensures.value) c.loop-part.invariant.value

pub all_hold-returns-then-not-eval-clause-unchanged : goal.all_hold-returns-then-not-eval-clause-unchanged
all_hold-returns-then-not-eval-clause-unchanged t c =
    c.eval.ensures.unchanged ∙ c.loop-part.invariant.same

pub some_holds-returns-then-eval-clause-value : goal.some_holds-returns-then-eval-clause-value
some_holds-returns-then-eval-clause-value t c =
    some_holds_step (structure_of (protocol_of c.args.protocol.now) c.args.s.now) (environment_of c.args.env.now) (formulas_of (drop c.loop-part.part-index c.args.parts.now)) (formula_of c.part-item.result) (formulas_of (drop (c.loop-part.part-index + 1) c.args.parts.now)) true _ (formulas_of-drop c.args.parts.now c.loop-part.part-index c.part-item.result c.loop-part-test.true c.part-item.is) (value_then (structure_of (protocol_of c.args.protocol.now) c.args.s.now) c.loop-part.env c.args.env.now (formula_of c.part-item.result) true c.loop-part.invariant.same c.if-eval.ensures.value) c.loop-part.invariant.value

pub some_holds-returns-then-eval-clause-unchanged : goal.some_holds-returns-then-eval-clause-unchanged
some_holds-returns-then-eval-clause-unchanged t c =
    c.eval.ensures.unchanged ∙ c.loop-part.invariant.same

pub all_hold-loop-part-preserved : goal.all_hold-loop-part-preserved
all_hold-loop-part-preserved t c =
    record {
      same = c.eval.ensures.unchanged ∙ c.loop-part.invariant.same;
      evaluable = rest_evaluable (protocol_of c.args.protocol.now) c.args.s.now.sizes.items (environment_of c.args.env.now) (formulas_of (drop c.loop-part.part-index c.args.parts.now)) (formula_of c.part-item.result) (formulas_of (drop (c.loop-part.part-index + 1) c.args.parts.now)) (formulas_of-drop c.args.parts.now c.loop-part.part-index c.part-item.result c.loop-part-test.true c.part-item.is) c.loop-part.invariant.evaluable;
      value = all_hold_step (structure_of (protocol_of c.args.protocol.now) c.args.s.now) (environment_of c.args.env.now) (formulas_of (drop c.loop-part.part-index c.args.parts.now)) (formula_of c.part-item.result) (formulas_of (drop (c.loop-part.part-index + 1) c.args.parts.now)) true _ (formulas_of-drop c.args.parts.now c.loop-part.part-index c.part-item.result c.loop-part-test.true c.part-item.is) (value_then (structure_of (protocol_of c.args.protocol.now) c.args.s.now) c.loop-part.env c.args.env.now (formula_of c.part-item.result) true c.loop-part.invariant.same c.if-not-eval.ensures.value) c.loop-part.invariant.value;
    }

pub some_holds-loop-part-preserved : goal.some_holds-loop-part-preserved
some_holds-loop-part-preserved t c =
    record {
      same = c.eval.ensures.unchanged ∙ c.loop-part.invariant.same;
      evaluable = rest_evaluable (protocol_of c.args.protocol.now) c.args.s.now.sizes.items (environment_of c.args.env.now) (formulas_of (drop c.loop-part.part-index c.args.parts.now)) (formula_of c.part-item.result) (formulas_of (drop (c.loop-part.part-index + 1) c.args.parts.now)) (formulas_of-drop c.args.parts.now c.loop-part.part-index c.part-item.result c.loop-part-test.true c.part-item.is) c.loop-part.invariant.evaluable;
      value = some_holds_step (structure_of (protocol_of c.args.protocol.now) c.args.s.now) (environment_of c.args.env.now) (formulas_of (drop c.loop-part.part-index c.args.parts.now)) (formula_of c.part-item.result) (formulas_of (drop (c.loop-part.part-index + 1) c.args.parts.now)) false _ (formulas_of-drop c.args.parts.now c.loop-part.part-index c.part-item.result c.loop-part-test.true c.part-item.is) (value_then (structure_of (protocol_of c.args.protocol.now) c.args.s.now) c.loop-part.env c.args.env.now (formula_of c.part-item.result) false c.loop-part.invariant.same c.if-eval.ensures.value) c.loop-part.invariant.value;
    }

pub all_agree-loop-part-preserved : goal.all_agree-loop-part-preserved
all_agree-loop-part-preserved t c =
    record {
      same = c.eval.ensures.unchanged ∙ c.loop-part.invariant.same;
      evaluable = rest_evaluable (protocol_of c.args.protocol.now) c.args.s.now.sizes.items (environment_of c.args.env.now) (formulas_of (drop c.loop-part.part-index c.args.parts.now)) (formula_of c.part-item.result) (formulas_of (drop (c.loop-part.part-index + 1) c.args.parts.now)) (formulas_of-drop c.args.parts.now c.loop-part.part-index c.part-item.result c.loop-part-test.true c.part-item.is) c.loop-part.invariant.evaluable;
      value = elim c.if-not-eval.branch [
        | all_agree-then-not-eval w ↦ ap (λ a. agree a (all_agree (structure_of (protocol_of c.args.protocol.now) c.args.s.now) (environment_of c.args.env.now) (formulas_of (drop (c.loop-part.part-index + 1) c.args.parts.now)))) w.even-is ∙ all_agree_step (structure_of (protocol_of c.args.protocol.now) c.args.s.now) (environment_of c.args.env.now) (formulas_of (drop c.loop-part.part-index c.args.parts.now)) (formula_of c.part-item.result) (formulas_of (drop (c.loop-part.part-index + 1) c.args.parts.now)) c.loop-part.even false _ (formulas_of-drop c.args.parts.now c.loop-part.part-index c.part-item.result c.loop-part-test.true c.part-item.is) (value_then (structure_of (protocol_of c.args.protocol.now) c.args.s.now) c.loop-part.env c.args.env.now (formula_of c.part-item.result) false c.loop-part.invariant.same (sym w.if-not-eval.true ∙ c.eval.ensures.value)) c.loop-part.invariant.value
        | all_agree-else-not-eval w ↦ ap (λ a. agree a (all_agree (structure_of (protocol_of c.args.protocol.now) c.args.s.now) (environment_of c.args.env.now) (formulas_of (drop (c.loop-part.part-index + 1) c.args.parts.now)))) w.even-is ∙ all_agree_step (structure_of (protocol_of c.args.protocol.now) c.args.s.now) (environment_of c.args.env.now) (formulas_of (drop c.loop-part.part-index c.args.parts.now)) (formula_of c.part-item.result) (formulas_of (drop (c.loop-part.part-index + 1) c.args.parts.now)) c.loop-part.even true _ (formulas_of-drop c.args.parts.now c.loop-part.part-index c.part-item.result c.loop-part-test.true c.part-item.is) (value_then (structure_of (protocol_of c.args.protocol.now) c.args.s.now) c.loop-part.env c.args.env.now (formula_of c.part-item.result) true c.loop-part.invariant.same (sym w.if-not-eval.false ∙ c.eval.ensures.value)) c.loop-part.invariant.value
      ];
    }

pub eval-eval-requires : goal.eval-eval-requires
eval-eval-requires t c =
    (search (rules, the_lemmas), (c.requires.fits, negation_evaluable (protocol_of c.args.protocol.now) c.args.s.now.sizes.items (environment_of c.args.env.now) (formula_of c.args.formula.now) (formula_of c.deref-in-Not.result.now) (ap formula_of c.in-Not.is ∙ ap (λ f. negation (formula_of f)) (sym c.deref-in-Not.ensures)) c.requires.formula))

pub eval-returns-in-Not-clause-value : goal.eval-returns-in-Not-clause-value
eval-returns-in-Not-clause-value t c =
    negation_value (structure_of (protocol_of c.args.protocol.now) c.args.s.now) (environment_of c.args.env.now) (formula_of c.args.formula.now) (formula_of c.deref-in-Not.result.now) c.eval.result (ap formula_of c.in-Not.is ∙ ap (λ f. negation (formula_of f)) (sym c.deref-in-Not.ensures)) c.eval.ensures.value

pub eval-returns-in-Not-clause-unchanged : goal.eval-returns-in-Not-clause-unchanged
eval-returns-in-Not-clause-unchanged t c =
    c.eval.ensures.unchanged

pub eval-all_hold-requires : goal.eval-all_hold-requires
eval-all_hold-requires t c =
    (search (rules, the_lemmas, c.deref-in-All.ensures.value), (c.requires.fits, conjunction_evaluable (protocol_of c.args.protocol.now) c.args.s.now.sizes.items (environment_of c.args.env.now) (formula_of c.args.formula.now) (formulas_of c.deref-in-All.result.now) (ap formula_of c.in-All.is ∙ (formula_of-All c.in-All.parts ∙ ap (λ fs. conjunction (formulas_of fs)) (sym c.deref-in-All.ensures.value))) c.requires.formula))

pub eval-returns-in-All-clause-value : goal.eval-returns-in-All-clause-value
eval-returns-in-All-clause-value t c =
    value_by (structure_of (protocol_of c.args.protocol.now) c.args.s.now) (environment_of c.args.env.now) (formula_of c.args.formula.now) (conjunction (formulas_of c.deref-in-All.result.now)) c.all_hold.result (ap formula_of c.in-All.is ∙ (formula_of-All c.in-All.parts ∙ ap (λ fs. conjunction (formulas_of fs)) (sym c.deref-in-All.ensures.value))) c.all_hold.ensures.value

pub eval-returns-in-All-clause-unchanged : goal.eval-returns-in-All-clause-unchanged
eval-returns-in-All-clause-unchanged t c =
    c.all_hold.ensures.unchanged

pub eval-some_holds-requires : goal.eval-some_holds-requires
eval-some_holds-requires t c =
    (search (rules, the_lemmas, c.deref-in-Any.ensures.value), (c.requires.fits, disjunction_evaluable (protocol_of c.args.protocol.now) c.args.s.now.sizes.items (environment_of c.args.env.now) (formula_of c.args.formula.now) (formulas_of c.deref-in-Any.result.now) (ap formula_of c.in-Any.is ∙ (formula_of-Any c.in-Any.parts ∙ ap (λ fs. disjunction (formulas_of fs)) (sym c.deref-in-Any.ensures.value))) c.requires.formula))

pub eval-returns-in-Any-clause-value : goal.eval-returns-in-Any-clause-value
eval-returns-in-Any-clause-value t c =
    value_by (structure_of (protocol_of c.args.protocol.now) c.args.s.now) (environment_of c.args.env.now) (formula_of c.args.formula.now) (disjunction (formulas_of c.deref-in-Any.result.now)) c.some_holds.result (ap formula_of c.in-Any.is ∙ (formula_of-Any c.in-Any.parts ∙ ap (λ fs. disjunction (formulas_of fs)) (sym c.deref-in-Any.ensures.value))) c.some_holds.ensures.value

pub eval-returns-in-Any-clause-unchanged : goal.eval-returns-in-Any-clause-unchanged
eval-returns-in-Any-clause-unchanged t c =
    c.some_holds.ensures.unchanged

pub eval-all_agree-requires : goal.eval-all_agree-requires
eval-all_agree-requires t c =
    (search (rules, the_lemmas, c.deref-in-Iff.ensures.value), (c.requires.fits, equivalence_evaluable (protocol_of c.args.protocol.now) c.args.s.now.sizes.items (environment_of c.args.env.now) (formula_of c.args.formula.now) (formulas_of c.deref-in-Iff.result.now) (ap formula_of c.in-Iff.is ∙ (formula_of-Iff c.in-Iff.parts ∙ ap (λ fs. equivalence (formulas_of fs)) (sym c.deref-in-Iff.ensures.value))) c.requires.formula))

pub eval-returns-in-Iff-clause-value : goal.eval-returns-in-Iff-clause-value
eval-returns-in-Iff-clause-value t c =
    value_by (structure_of (protocol_of c.args.protocol.now) c.args.s.now) (environment_of c.args.env.now) (formula_of c.args.formula.now) (equivalence (formulas_of c.deref-in-Iff.result.now)) c.all_agree.result (ap formula_of c.in-Iff.is ∙ (formula_of-Iff c.in-Iff.parts ∙ ap (λ fs. equivalence (formulas_of fs)) (sym c.deref-in-Iff.ensures.value))) c.all_agree.ensures.value

pub eval-returns-in-Iff-clause-unchanged : goal.eval-returns-in-Iff-clause-unchanged
eval-returns-in-Iff-clause-unchanged t c =
    c.all_agree.ensures.unchanged

pub eval-eval-requires-in-Implies : goal.eval-eval-requires-in-Implies
eval-eval-requires-in-Implies t c =
    (search (rules, the_lemmas), (c.requires.fits, left_evaluable (protocol_of c.args.protocol.now) c.args.s.now.sizes.items (environment_of c.args.env.now) (formula_of c.args.formula.now) (formula_of c.deref-in-Implies.result.now) (formula_of c.in-Implies.right.value) (ap formula_of c.in-Implies.is ∙ ap (λ f. implication (formula_of f) (formula_of c.in-Implies.right.value)) (sym c.deref-in-Implies.ensures)) c.requires.formula))

pub eval-eval-requires-else-not-eval : goal.eval-eval-requires-else-not-eval
eval-eval-requires-else-not-eval t c =
    (search (rules, the_lemmas), (c.requires.fits, evaluable_now (protocol_of c.args.protocol.now) c.args.s.now.sizes.items c.eval-in-Implies.new.env c.args.env.now (formula_of c.deref-else-not-eval.result.now) c.eval-in-Implies.ensures.unchanged (right_evaluable (protocol_of c.args.protocol.now) c.args.s.now.sizes.items (environment_of c.args.env.now) (formula_of c.args.formula.now) (formula_of c.deref-in-Implies.result.now) (formula_of c.deref-else-not-eval.result.now) ((ap formula_of c.in-Implies.is ∙ ap (λ f. implication (formula_of f) (formula_of c.in-Implies.right.value)) (sym c.deref-in-Implies.ensures)) ∙ ap (λ f. implication (formula_of c.deref-in-Implies.result.now) (formula_of f)) (sym c.deref-else-not-eval.ensures)) c.requires.formula)))

pub eval-returns-then-not-eval-clause-value : goal.eval-returns-then-not-eval-clause-value
eval-returns-then-not-eval-clause-value t c =
    false_left (structure_of (protocol_of c.args.protocol.now) c.args.s.now) (environment_of c.args.env.now) (formula_of c.args.formula.now) (formula_of c.deref-in-Implies.result.now) (formula_of c.in-Implies.right.value) c.eval-in-Implies.result (ap formula_of c.in-Implies.is ∙ ap (λ f. implication (formula_of f) (formula_of c.in-Implies.right.value)) (sym c.deref-in-Implies.ensures)) c.if-not-eval.true c.eval-in-Implies.ensures.value

pub eval-returns-then-not-eval-clause-unchanged : goal.eval-returns-then-not-eval-clause-unchanged
eval-returns-then-not-eval-clause-unchanged t c =
    c.eval-in-Implies.ensures.unchanged

pub eval-returns-else-not-eval-clause-value : goal.eval-returns-else-not-eval-clause-value
eval-returns-else-not-eval-clause-value t c =
    true_left (structure_of (protocol_of c.args.protocol.now) c.args.s.now) (environment_of c.args.env.now) (formula_of c.args.formula.now) (formula_of c.deref-in-Implies.result.now) (formula_of c.deref-else-not-eval.result.now) c.eval-in-Implies.result c.eval-else-not-eval.result ((ap formula_of c.in-Implies.is ∙ ap (λ f. implication (formula_of f) (formula_of c.in-Implies.right.value)) (sym c.deref-in-Implies.ensures)) ∙ ap (λ f. implication (formula_of c.deref-in-Implies.result.now) (formula_of f)) (sym c.deref-else-not-eval.ensures)) c.if-not-eval.false c.eval-in-Implies.ensures.value (value_then (structure_of (protocol_of c.args.protocol.now) c.args.s.now) c.eval-in-Implies.new.env c.args.env.now (formula_of c.deref-else-not-eval.result.now) c.eval-else-not-eval.result c.eval-in-Implies.ensures.unchanged c.eval-else-not-eval.ensures.value)

pub eval-returns-else-not-eval-clause-unchanged : goal.eval-returns-else-not-eval-clause-unchanged
eval-returns-else-not-eval-clause-unchanged t c =
    c.eval-else-not-eval.ensures.unchanged ∙ c.eval-in-Implies.ensures.unchanged

pub eval-returns-in-Truth-clause-value : goal.eval-returns-in-Truth-clause-value
eval-returns-in-Truth-clause-value t c =
    sym (ap (λ f. value_of (structure_of (protocol_of c.args.protocol.now) c.args.s.now) (environment_of c.args.env.now) (formula_of f)) c.in-Truth.is)

pub eval-returns-in-Truth-clause-unchanged : goal.eval-returns-in-Truth-clause-unchanged
eval-returns-in-Truth-clause-unchanged t c =
    refl

pub eval-relates-requires-clause-fits : goal.eval-relates-requires-clause-fits
eval-relates-requires-clause-fits t c =
    c.requires.fits

pub eval-relates-requires-clause-formula : goal.eval-relates-requires-clause-formula
eval-relates-requires-clause-formula t c =
    evaluable_as (protocol_of c.args.protocol.now) c.args.s.now.sizes.items (environment_of c.args.env.now) (formula_of c.args.formula.now) (relates c.in-Rel.rel (map term_of c.deref.result.now)) (ap formula_of c.in-Rel.is ∙ ap (λ ts. relates c.in-Rel.rel (map term_of ts)) (sym c.deref.ensures.value)) c.requires.formula

pub eval-returns-in-Rel-clause-value : goal.eval-returns-in-Rel-clause-value
eval-returns-in-Rel-clause-value t c =
    value_by (structure_of (protocol_of c.args.protocol.now) c.args.s.now) (environment_of c.args.env.now) (formula_of c.args.formula.now) (relates c.in-Rel.rel (map term_of c.deref.result.now)) c.relates.result (ap formula_of c.in-Rel.is ∙ ap (λ ts. relates c.in-Rel.rel (map term_of ts)) (sym c.deref.ensures.value)) c.relates.ensures

pub eval-returns-in-Rel-clause-unchanged : goal.eval-returns-in-Rel-clause-unchanged
eval-returns-in-Rel-clause-unchanged t c =
    refl

pub eval-is_same-requires-clause-left : goal.eval-is_same-requires-clause-left
eval-is_same-requires-clause-left t c =
    (same_places (protocol_of c.args.protocol.now) c.args.s.now (environment_of c.args.env.now) (formula_of c.args.formula.now) (term_of c.in-Same.left) (term_of c.in-Same.right) (ap formula_of c.in-Same.is) c.requires.fits c.requires.formula).left

pub eval-is_same-requires-clause-right : goal.eval-is_same-requires-clause-right
eval-is_same-requires-clause-right t c =
    (same_places (protocol_of c.args.protocol.now) c.args.s.now (environment_of c.args.env.now) (formula_of c.args.formula.now) (term_of c.in-Same.left) (term_of c.in-Same.right) (ap formula_of c.in-Same.is) c.requires.fits c.requires.formula).right

pub eval-returns-in-Same-clause-value : goal.eval-returns-in-Same-clause-value
eval-returns-in-Same-clause-value t c =
    value_by (structure_of (protocol_of c.args.protocol.now) c.args.s.now) (environment_of c.args.env.now) (formula_of c.args.formula.now) (same (term_of c.in-Same.left) (term_of c.in-Same.right)) c.is_same.result (ap formula_of c.in-Same.is) (c.is_same.ensures (protocol_of c.args.protocol.now))

pub eval-returns-in-Same-clause-unchanged : goal.eval-returns-in-Same-clause-unchanged
eval-returns-in-Same-clause-unchanged t c =
    refl

pub eval-is_less-requires-clause-left : goal.eval-is_less-requires-clause-left
eval-is_less-requires-clause-left t c =
    (less_places (protocol_of c.args.protocol.now) c.args.s.now (environment_of c.args.env.now) (formula_of c.args.formula.now) (term_of c.in-Less.left) (term_of c.in-Less.right) (ap formula_of c.in-Less.is) c.requires.fits c.requires.formula).left

pub eval-is_less-requires-clause-right : goal.eval-is_less-requires-clause-right
eval-is_less-requires-clause-right t c =
    (less_places (protocol_of c.args.protocol.now) c.args.s.now (environment_of c.args.env.now) (formula_of c.args.formula.now) (term_of c.in-Less.left) (term_of c.in-Less.right) (ap formula_of c.in-Less.is) c.requires.fits c.requires.formula).right

pub eval-returns-in-Less-clause-value : goal.eval-returns-in-Less-clause-value
eval-returns-in-Less-clause-value t c =
    value_by (structure_of (protocol_of c.args.protocol.now) c.args.s.now) (environment_of c.args.env.now) (formula_of c.args.formula.now) (less (term_of c.in-Less.left) (term_of c.in-Less.right)) c.is_less.result (ap formula_of c.in-Less.is) (c.is_less.ensures (protocol_of c.args.protocol.now))

pub eval-returns-in-Less-clause-unchanged : goal.eval-returns-in-Less-clause-unchanged
eval-returns-in-Less-clause-unchanged t c =
    refl

pub eval-is_at_most-requires-clause-left : goal.eval-is_at_most-requires-clause-left
eval-is_at_most-requires-clause-left t c =
    (less_or_same_places (protocol_of c.args.protocol.now) c.args.s.now (environment_of c.args.env.now) (formula_of c.args.formula.now) (term_of c.in-LessEq.left) (term_of c.in-LessEq.right) (ap formula_of c.in-LessEq.is) c.requires.fits c.requires.formula).left

pub eval-is_at_most-requires-clause-right : goal.eval-is_at_most-requires-clause-right
eval-is_at_most-requires-clause-right t c =
    (less_or_same_places (protocol_of c.args.protocol.now) c.args.s.now (environment_of c.args.env.now) (formula_of c.args.formula.now) (term_of c.in-LessEq.left) (term_of c.in-LessEq.right) (ap formula_of c.in-LessEq.is) c.requires.fits c.requires.formula).right

pub eval-returns-in-LessEq-clause-value : goal.eval-returns-in-LessEq-clause-value
eval-returns-in-LessEq-clause-value t c =
    value_by (structure_of (protocol_of c.args.protocol.now) c.args.s.now) (environment_of c.args.env.now) (formula_of c.args.formula.now) (less_or_same (term_of c.in-LessEq.left) (term_of c.in-LessEq.right)) c.is_at_most.result (ap formula_of c.in-LessEq.is) (c.is_at_most.ensures (protocol_of c.args.protocol.now))

pub eval-returns-in-LessEq-clause-unchanged : goal.eval-returns-in-LessEq-clause-unchanged
eval-returns-in-LessEq-clause-unchanged t c =
    refl

pub eval-holds_for_all-requires : goal.eval-holds_for_all-requires
eval-holds_for_all-requires t c =
    (search (rules, the_lemmas), (c.requires.fits, evaluable_as (protocol_of c.args.protocol.now) c.args.s.now.sizes.items (environment_of c.args.env.now) (formula_of c.args.formula.now) (universal c.in-Forall.var c.in-Forall.sort (formula_of c.deref-in-Forall.result.now)) (ap formula_of c.in-Forall.is ∙ ap (λ f. universal c.in-Forall.var c.in-Forall.sort (formula_of f)) (sym c.deref-in-Forall.ensures)) c.requires.formula))

pub eval-returns-in-Forall-clause-value : goal.eval-returns-in-Forall-clause-value
eval-returns-in-Forall-clause-value t c =
    value_by (structure_of (protocol_of c.args.protocol.now) c.args.s.now) (environment_of c.args.env.now) (formula_of c.args.formula.now) (universal c.in-Forall.var c.in-Forall.sort (formula_of c.deref-in-Forall.result.now)) c.holds_for_all.result (ap formula_of c.in-Forall.is ∙ ap (λ f. universal c.in-Forall.var c.in-Forall.sort (formula_of f)) (sym c.deref-in-Forall.ensures)) c.holds_for_all.ensures.value

pub eval-returns-in-Forall-clause-unchanged : goal.eval-returns-in-Forall-clause-unchanged
eval-returns-in-Forall-clause-unchanged t c =
    c.holds_for_all.ensures.unchanged

pub eval-holds_for_some-requires : goal.eval-holds_for_some-requires
eval-holds_for_some-requires t c =
    (search (rules, the_lemmas), (c.requires.fits, evaluable_as (protocol_of c.args.protocol.now) c.args.s.now.sizes.items (environment_of c.args.env.now) (formula_of c.args.formula.now) (existential c.in-Exists.var c.in-Exists.sort (formula_of c.deref-in-Exists.result.now)) (ap formula_of c.in-Exists.is ∙ ap (λ f. existential c.in-Exists.var c.in-Exists.sort (formula_of f)) (sym c.deref-in-Exists.ensures)) c.requires.formula))

pub eval-returns-in-Exists-clause-value : goal.eval-returns-in-Exists-clause-value
eval-returns-in-Exists-clause-value t c =
    value_by (structure_of (protocol_of c.args.protocol.now) c.args.s.now) (environment_of c.args.env.now) (formula_of c.args.formula.now) (existential c.in-Exists.var c.in-Exists.sort (formula_of c.deref-in-Exists.result.now)) c.holds_for_some.result (ap formula_of c.in-Exists.is ∙ ap (λ f. existential c.in-Exists.var c.in-Exists.sort (formula_of f)) (sym c.deref-in-Exists.ensures)) c.holds_for_some.ensures.value

pub eval-returns-in-Exists-clause-unchanged : goal.eval-returns-in-Exists-clause-unchanged
eval-returns-in-Exists-clause-unchanged t c =
    c.holds_for_some.ensures.unchanged

pub holds_for_all-index-element-end-requires : goal.holds_for_all-index-element-end-requires
holds_for_all-index-element-end-requires t c =
    let below = (universal_sort (protocol_of c.args.protocol.now) c.args.s.now (environment_of c.args.env.now) c.args.var c.args.sort (formula_of c.args.body.now) c.requires.fits c.requires.formula) in let long = c.args.s.now.sizes.ok.0 in omega arith

pub holds_for_all-loop-element-init : goal.holds_for_all-loop-element-init
holds_for_all-loop-element-init t c =
    record { back = ap (λ b. bound c.args.env.now c.args.var b) c.variable-before.ensures ∙ bound-own c.args.env.now c.args.var; so_far = refl }

pub holds_for_all-eval-requires : goal.holds_for_all-eval-requires
holds_for_all-eval-requires t c =
    (search (rules, the_lemmas), (c.requires.fits, universal_body (protocol_of c.args.protocol.now) c.args.s.now.sizes.items (environment_of c.args.env.now) (environment_of c.bind.new.self) c.args.var c.args.sort c.loop-element.element (formula_of c.args.body.now) (below_size c.args.s.now.sizes.items c.args.sort c.index-element-end.result.now c.loop-element.element (universal_sort (protocol_of c.args.protocol.now) c.args.s.now (environment_of c.args.env.now) c.args.var c.args.sort (formula_of c.args.body.now) c.requires.fits c.requires.formula) c.index-element-end.ensures c.loop-element-test.true) (c.bind.ensures.bound ∙ bind_first c.loop-element.env c.args.env.now c.args.var c.loop-element.element c.variable-before.result c.loop-element.invariant.back) c.requires.formula))

pub holds_for_all-returns-then-not-eval-clause-value : goal.holds_for_all-returns-then-not-eval-clause-value
holds_for_all-returns-then-not-eval-clause-value t c =
    all_fails (get_or c.args.s.now.sizes.items c.args.sort 0) c.loop-element.element (λ a. value_of (structure_of (protocol_of c.args.protocol.now) c.args.s.now) (bind (environment_of c.args.env.now) c.args.var a) (formula_of c.args.body.now)) (below_size c.args.s.now.sizes.items c.args.sort c.index-element-end.result.now c.loop-element.element (universal_sort (protocol_of c.args.protocol.now) c.args.s.now (environment_of c.args.env.now) c.args.var c.args.sort (formula_of c.args.body.now) c.requires.fits c.requires.formula) c.index-element-end.ensures c.loop-element-test.true) (c.if-not-eval.ensures.value ∙ ap (λ a. value_of (structure_of (protocol_of c.args.protocol.now) c.args.s.now) a (formula_of c.args.body.now)) (c.bind.ensures.bound ∙ bind_first c.loop-element.env c.args.env.now c.args.var c.loop-element.element c.variable-before.result c.loop-element.invariant.back))

pub holds_for_all-returns-then-not-eval-clause-unchanged : goal.holds_for_all-returns-then-not-eval-clause-unchanged
holds_for_all-returns-then-not-eval-clause-unchanged t c =
    c.bind-then-not-eval.ensures.tables ∙ (bound-then c.loop-element.env c.eval.new.env c.args.env.now c.args.var c.loop-element.element c.variable-before.result c.loop-element.invariant.back (c.eval.ensures.unchanged ∙ c.bind.ensures.tables))

pub holds_for_all-loop-element-smaller : goal.holds_for_all-loop-element-smaller
holds_for_all-loop-element-smaller t c =
    search rules

pub holds_for_all-loop-element-preserved : goal.holds_for_all-loop-element-preserved
holds_for_all-loop-element-preserved t c =
    record { back = (bound-then c.loop-element.env c.eval.new.env c.args.env.now c.args.var c.loop-element.element c.variable-before.result c.loop-element.invariant.back (c.eval.ensures.unchanged ∙ c.bind.ensures.tables)); so_far = all_more c.loop-element.element (λ a. value_of (structure_of (protocol_of c.args.protocol.now) c.args.s.now) (bind (environment_of c.args.env.now) c.args.var a) (formula_of c.args.body.now)) c.loop-element.invariant.so_far (c.if-not-eval.ensures.value ∙ ap (λ a. value_of (structure_of (protocol_of c.args.protocol.now) c.args.s.now) a (formula_of c.args.body.now)) (c.bind.ensures.bound ∙ bind_first c.loop-element.env c.args.env.now c.args.var c.loop-element.element c.variable-before.result c.loop-element.invariant.back)) }

pub holds_for_all-returns-clause-value : goal.holds_for_all-returns-clause-value
holds_for_all-returns-clause-value t c =
    all_done c.loop-element.element (get_or c.args.s.now.sizes.items c.args.sort 0) (λ a. value_of (structure_of (protocol_of c.args.protocol.now) c.args.s.now) (bind (environment_of c.args.env.now) c.args.var a) (formula_of c.args.body.now)) c.loop-element.invariant.so_far ((let past = c.loop-element-test.false in let within = c.loop-element.auto.element-end in let same_end : c.loop-element.element ≡ c.index-element-end.result.now = omega arith in same_end) ∙ size_read c.args.s.now.sizes.items c.args.sort c.index-element-end.result.now (universal_sort (protocol_of c.args.protocol.now) c.args.s.now (environment_of c.args.env.now) c.args.var c.args.sort (formula_of c.args.body.now) c.requires.fits c.requires.formula) c.index-element-end.ensures)

pub holds_for_all-returns-clause-unchanged : goal.holds_for_all-returns-clause-unchanged
holds_for_all-returns-clause-unchanged t c =
    c.bind-2.ensures.tables ∙ c.loop-element.invariant.back

pub holds_for_some-index-element-end-requires : goal.holds_for_some-index-element-end-requires
holds_for_some-index-element-end-requires t c =
    let below = (existential_sort (protocol_of c.args.protocol.now) c.args.s.now (environment_of c.args.env.now) c.args.var c.args.sort (formula_of c.args.body.now) c.requires.fits c.requires.formula) in let long = c.args.s.now.sizes.ok.0 in omega arith

pub holds_for_some-loop-element-init : goal.holds_for_some-loop-element-init
holds_for_some-loop-element-init t c =
    record { back = ap (λ b. bound c.args.env.now c.args.var b) c.variable-before.ensures ∙ bound-own c.args.env.now c.args.var; so_far = refl }

pub holds_for_some-eval-requires : goal.holds_for_some-eval-requires
holds_for_some-eval-requires t c =
    (search (rules, the_lemmas), (c.requires.fits, existential_body (protocol_of c.args.protocol.now) c.args.s.now.sizes.items (environment_of c.args.env.now) (environment_of c.bind.new.self) c.args.var c.args.sort c.loop-element.element (formula_of c.args.body.now) (below_size c.args.s.now.sizes.items c.args.sort c.index-element-end.result.now c.loop-element.element (existential_sort (protocol_of c.args.protocol.now) c.args.s.now (environment_of c.args.env.now) c.args.var c.args.sort (formula_of c.args.body.now) c.requires.fits c.requires.formula) c.index-element-end.ensures c.loop-element-test.true) (c.bind.ensures.bound ∙ bind_first c.loop-element.env c.args.env.now c.args.var c.loop-element.element c.variable-before.result c.loop-element.invariant.back) c.requires.formula))

pub holds_for_some-returns-then-eval-clause-value : goal.holds_for_some-returns-then-eval-clause-value
holds_for_some-returns-then-eval-clause-value t c =
    some_passes (get_or c.args.s.now.sizes.items c.args.sort 0) c.loop-element.element (λ a. value_of (structure_of (protocol_of c.args.protocol.now) c.args.s.now) (bind (environment_of c.args.env.now) c.args.var a) (formula_of c.args.body.now)) (below_size c.args.s.now.sizes.items c.args.sort c.index-element-end.result.now c.loop-element.element (existential_sort (protocol_of c.args.protocol.now) c.args.s.now (environment_of c.args.env.now) c.args.var c.args.sort (formula_of c.args.body.now) c.requires.fits c.requires.formula) c.index-element-end.ensures c.loop-element-test.true) (c.if-eval.ensures.value ∙ ap (λ a. value_of (structure_of (protocol_of c.args.protocol.now) c.args.s.now) a (formula_of c.args.body.now)) (c.bind.ensures.bound ∙ bind_first c.loop-element.env c.args.env.now c.args.var c.loop-element.element c.variable-before.result c.loop-element.invariant.back))

pub holds_for_some-returns-then-eval-clause-unchanged : goal.holds_for_some-returns-then-eval-clause-unchanged
holds_for_some-returns-then-eval-clause-unchanged t c =
    c.bind-then-eval.ensures.tables ∙ (bound-then c.loop-element.env c.eval.new.env c.args.env.now c.args.var c.loop-element.element c.variable-before.result c.loop-element.invariant.back (c.eval.ensures.unchanged ∙ c.bind.ensures.tables))

pub holds_for_some-loop-element-smaller : goal.holds_for_some-loop-element-smaller
holds_for_some-loop-element-smaller t c =
    search rules

pub holds_for_some-loop-element-preserved : goal.holds_for_some-loop-element-preserved
holds_for_some-loop-element-preserved t c =
    record { back = (bound-then c.loop-element.env c.eval.new.env c.args.env.now c.args.var c.loop-element.element c.variable-before.result c.loop-element.invariant.back (c.eval.ensures.unchanged ∙ c.bind.ensures.tables)); so_far = none_more c.loop-element.element (λ a. value_of (structure_of (protocol_of c.args.protocol.now) c.args.s.now) (bind (environment_of c.args.env.now) c.args.var a) (formula_of c.args.body.now)) c.loop-element.invariant.so_far (c.if-eval.ensures.value ∙ ap (λ a. value_of (structure_of (protocol_of c.args.protocol.now) c.args.s.now) a (formula_of c.args.body.now)) (c.bind.ensures.bound ∙ bind_first c.loop-element.env c.args.env.now c.args.var c.loop-element.element c.variable-before.result c.loop-element.invariant.back)) }

pub holds_for_some-returns-clause-value : goal.holds_for_some-returns-clause-value
holds_for_some-returns-clause-value t c =
    none_done c.loop-element.element (get_or c.args.s.now.sizes.items c.args.sort 0) (λ a. value_of (structure_of (protocol_of c.args.protocol.now) c.args.s.now) (bind (environment_of c.args.env.now) c.args.var a) (formula_of c.args.body.now)) c.loop-element.invariant.so_far ((let past = c.loop-element-test.false in let within = c.loop-element.auto.element-end in let same_end : c.loop-element.element ≡ c.index-element-end.result.now = omega arith in same_end) ∙ size_read c.args.s.now.sizes.items c.args.sort c.index-element-end.result.now (existential_sort (protocol_of c.args.protocol.now) c.args.s.now (environment_of c.args.env.now) c.args.var c.args.sort (formula_of c.args.body.now) c.requires.fits c.requires.formula) c.index-element-end.ensures)

pub holds_for_some-returns-clause-unchanged : goal.holds_for_some-returns-clause-unchanged
holds_for_some-returns-clause-unchanged t c =
    c.bind-2.ensures.tables ∙ c.loop-element.invariant.back
