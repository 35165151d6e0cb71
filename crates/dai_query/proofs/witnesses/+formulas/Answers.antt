use Rattle.std.proofs.Common.{rules, ◌≤◌, length, sym, ap, ◌∙◌, subst, arith}
use Rattle.dai_model.specs.Formula.{conjunction, disjunction, equivalence}
use Rattle.dai_model.specs.Profile.{witnesses, witnesses_of_each}
use Rattle.dai_model.specs.Sizes.{count_of}
use Rattle.dai_logic.specs.declared.protocol.Formula.{the_lemmas}
use Rattle.dai_logic.specs.Trees.{formula_of, formulas_of}
use Rattle.dai_logic.proofs.Trees.{formula_of-All, formula_of-Any, formula_of-Iff, formulas_of-drop, formulas_of-drop_all}
use Rattle.dai_query.proofs.Counting.{count_step, count_end, count_fits, first_few, rest_few, whole_few}
use Rattle.dai_query.proofs.witnesses.+formulas.Goals as goal

pub in_each-loop-part-init : goal.in_each-loop-part-init
in_each-loop-part-init t c =
    record { counted = omega arith; few = c.requires; most = whole_few c.args.sort _ c.requires }

pub in_each-in_formula-count-requires : goal.in_each-in_formula-count-requires
in_each-in_formula-count-requires t c =
    let split = ap (witnesses_of_each c.args.even) (formulas_of-drop c.args.parts.now c.loop-part.part-index c.part-item.result c.loop-part-test.true c.part-item.is) in
    (search (rules, the_lemmas), first_few _ (witnesses c.args.even (formula_of c.part-item.result)) _ split c.loop-part.invariant.few)

pub in_each-overflow_add-count : goal.in_each-overflow_add-count
in_each-overflow_add-count t c =
    let split = ap (witnesses_of_each c.args.even) (formulas_of-drop c.args.parts.now c.loop-part.part-index c.part-item.result c.loop-part-test.true c.part-item.is) in
    let below = count_fits c.args.sort c.loop-part.count c.in_formula-count.result _ _ (witnesses c.args.even (formula_of c.part-item.result)) _ split c.in_formula-count.ensures c.loop-part.invariant.counted c.loop-part.invariant.most in
    omega (arith, below)

pub in_each-loop-part-preserved : goal.in_each-loop-part-preserved
in_each-loop-part-preserved t c =
    let split = ap (witnesses_of_each c.args.even) (formulas_of-drop c.args.parts.now c.loop-part.part-index c.part-item.result c.loop-part-test.true c.part-item.is) in
    record {
      counted = count_step c.args.sort c.loop-part.count c.in_formula-count.result _ _ (witnesses c.args.even (formula_of c.part-item.result)) _ split c.in_formula-count.ensures c.loop-part.invariant.counted;
      few = rest_few _ (witnesses c.args.even (formula_of c.part-item.result)) _ split c.loop-part.invariant.few;
      most = c.loop-part.invariant.most;
    }

pub in_each-returns : goal.in_each-returns
in_each-returns t c =
    count_end c.args.sort c.loop-part.count _ _ (ap (witnesses_of_each c.args.even) (formulas_of-drop_all c.args.parts.now c.loop-part.part-index c.loop-part-test.false)) c.loop-part.invariant.counted

pub in_formula-in_each-requires : goal.in_formula-in_each-requires
in_formula-in_each-requires t c =
    let same = ap formula_of c.in-All.is ∙ (formula_of-All c.in-All.parts ∙ ap (λ fs. conjunction (formulas_of fs)) (sym c.deref-in-All.ensures.value)) in
    (search (rules, the_lemmas, c.deref-in-All.ensures.value), subst (λ f. length (witnesses c.args.even f) ≤ 16) same c.requires)

pub in_formula-in_each-requires-in-Any : goal.in_formula-in_each-requires-in-Any
in_formula-in_each-requires-in-Any t c =
    let same = ap formula_of c.in-Any.is ∙ (formula_of-Any c.in-Any.parts ∙ ap (λ fs. disjunction (formulas_of fs)) (sym c.deref-in-Any.ensures.value)) in
    (search (rules, the_lemmas, c.deref-in-Any.ensures.value), subst (λ f. length (witnesses c.args.even f) ≤ 16) same c.requires)

pub in_formula-in_each-requires-in-Iff : goal.in_formula-in_each-requires-in-Iff
in_formula-in_each-requires-in-Iff t c =
    let same = ap formula_of c.in-Iff.is ∙ (formula_of-Iff c.in-Iff.parts ∙ ap (λ fs. equivalence (formulas_of fs)) (sym c.deref-in-Iff.ensures.value)) in
    (search (rules, the_lemmas, c.deref-in-Iff.ensures.value), subst (λ f. length (witnesses c.args.even f) ≤ 16) same c.requires)

pub in_formula-returns-in-All : goal.in_formula-returns-in-All
in_formula-returns-in-All t c =
    let same = ap formula_of c.in-All.is ∙ (formula_of-All c.in-All.parts ∙ ap (λ fs. conjunction (formulas_of fs)) (sym c.deref-in-All.ensures.value)) in
    c.in_each.ensures ∙ sym (ap (λ f. count_of c.args.sort (witnesses c.args.even f)) same)

pub in_formula-returns-in-Any : goal.in_formula-returns-in-Any
in_formula-returns-in-Any t c =
    let same = ap formula_of c.in-Any.is ∙ (formula_of-Any c.in-Any.parts ∙ ap (λ fs. disjunction (formulas_of fs)) (sym c.deref-in-Any.ensures.value)) in
    c.in_each-in-Any.ensures ∙ sym (ap (λ f. count_of c.args.sort (witnesses c.args.even f)) same)

pub in_formula-returns-in-Iff : goal.in_formula-returns-in-Iff
in_formula-returns-in-Iff t c =
    let same = ap formula_of c.in-Iff.is ∙ (formula_of-Iff c.in-Iff.parts ∙ ap (λ fs. equivalence (formulas_of fs)) (sym c.deref-in-Iff.ensures.value)) in
    c.in_each-in-Iff.ensures ∙ sym (ap (λ f. count_of c.args.sort (witnesses c.args.even f)) same)
