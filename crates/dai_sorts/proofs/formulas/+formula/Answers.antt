use Rattle.std.proofs.Common.{◌+◌, ◌∙◌, ap, sym, drop, refl, rules, subst, length, ◌≤◌}
use Rattle.std.proofs.lemmas.List.{drop_all}
use Rattle.std.proofs.lemmas.Result.{IfOk-weaker, on_ok_weaker}
use Rattle.dai_model.specs.Formula as Model
use Rattle.dai_syntax.specs.declared.tree.Form.{the_lemmas}
use Rattle.dai_syntax.specs.Trees.{formula_of as tree_of, formulas_of as trees_of}
use Rattle.dai_logic.specs.Trees.{formulas_of}
use Rattle.dai_rules.specs.Naming.{Naming, bound_by, at_quantifier, entered, after_formula, after_formulas}
use Rattle.dai_rules.specs.Views.{naming_of}
use Rattle.dai_rules.proofs.Lists.{drop_at}
use Rattle.dai_rules.proofs.WrittenTrees.{tree_of-Compare, tree_of-All, tree_of-Any, tree_of-Same, tree_of-Implies, tree_of-Quant}
use Rattle.dai_sorts.specs.Formulas.{over, formula_in, formulas_in}
use Rattle.dai_sorts.specs.Readers.{scope_of}
use Rattle.dai_sorts.proofs.Walking.{followed, followed-nil, formulas_of-push, formula_of-All, formula_of-Any, formula_of-Iff, few_in, few_left, few_first, bound_behind, outside_within, own_few, few_body}
use Rattle.dai_sorts.proofs.formulas.+formula.Goals as goal

pub formula-formulas-requires : goal.formula-formulas-requires
formula-formulas-requires t c =
    (search (rules, the_lemmas), few_in (naming_of c.args.naming.now) (tree_of c.args.form.now) _ (tree_of-All c.args.form.now c.in-All.parts c.deref-in-All.result.now c.in-All.is c.deref-in-All.ensures.value) c.requires)

pub formula-formulas-requires-in-Any : goal.formula-formulas-requires-in-Any
formula-formulas-requires-in-Any t c =
    (search (rules, the_lemmas), few_in (naming_of c.args.naming.now) (tree_of c.args.form.now) _ (tree_of-Any c.args.form.now c.in-Any.parts c.deref-in-Any.result.now c.in-Any.is c.deref-in-Any.ensures.value) c.requires)

pub formula-formulas-requires-in-Same : goal.formula-formulas-requires-in-Same
formula-formulas-requires-in-Same t c =
    (search (rules, the_lemmas), few_in (naming_of c.args.naming.now) (tree_of c.args.form.now) _ (tree_of-Same c.args.form.now c.in-Same.parts c.deref-in-Same.result.now c.in-Same.is c.deref-in-Same.ensures.value) c.requires)

pub formula-formula-requires-in-Implies : goal.formula-formula-requires-in-Implies
formula-formula-requires-in-Implies t c =
    let l = c.deref-in-Implies.result.now in
    let r = c.in-Implies.right.value in
    (search (rules, the_lemmas), few_left (naming_of c.args.naming.now) (tree_of c.args.form.now) (tree_of l) (tree_of r) (tree_of-Implies c.args.form.now c.in-Implies.left c.in-Implies.right l r c.in-Implies.is c.deref-in-Implies.ensures refl) c.requires)

pub formula-comparison-requires : goal.formula-comparison-requires
formula-comparison-requires t c =
    let tree = tree_of-Compare c.args.form.now c.in-Compare.left c.in-Compare.right c.in-Compare.op c.deref-in-Compare.result.now c.deref-in-Compare-2.result.now c.in-Compare.is c.deref-in-Compare.ensures c.deref-in-Compare-2.ensures in
    few_in (naming_of c.args.naming.now) (tree_of c.args.form.now) _ tree c.requires

pub formula-returns-in-Compare-clause-meant : goal.formula-returns-in-Compare-clause-meant
formula-returns-in-Compare-clause-meant t c =
    let tree = tree_of-Compare c.args.form.now c.in-Compare.left c.in-Compare.right c.in-Compare.op c.deref-in-Compare.result.now c.deref-in-Compare-2.result.now c.in-Compare.is c.deref-in-Compare.ensures c.deref-in-Compare-2.ensures in
    IfOk-weaker c.comparison.result _ _ (λ g h. h ∙ ap (formula_in (scope_of c.args.reader.now) c.args.types.now (naming_of c.args.naming.now)) (sym tree)) c.comparison.ensures.meant

pub formula-returns-in-Compare-clause-named : goal.formula-returns-in-Compare-clause-named
formula-returns-in-Compare-clause-named t c =
    let tree = tree_of-Compare c.args.form.now c.in-Compare.left c.in-Compare.right c.in-Compare.op c.deref-in-Compare.result.now c.deref-in-Compare-2.result.now c.in-Compare.is c.deref-in-Compare.ensures c.deref-in-Compare-2.ensures in
    on_ok_weaker c.comparison.result (λ h. h ∙ ap (after_formula (naming_of c.args.naming.now)) (sym tree)) c.comparison.ensures.named

pub formula-returns-in_ok-formulas-in-All-clause-meant : goal.formula-returns-in_ok-formulas-in-All-clause-meant
formula-returns-in_ok-formulas-in-All-clause-meant t c =
    formula_of-All c.in_ok-formulas-in-All.field-0 ∙ ap Model.conjunction c.in_ok-formulas-in-All.ensures.meant
    ∙ ap (formula_in (scope_of c.args.reader.now) c.args.types.now (naming_of c.args.naming.now)) (sym (tree_of-All c.args.form.now c.in-All.parts c.deref-in-All.result.now c.in-All.is c.deref-in-All.ensures.value))

pub formula-returns-in_ok-formulas-in-All-clause-named : goal.formula-returns-in_ok-formulas-in-All-clause-named
formula-returns-in_ok-formulas-in-All-clause-named t c =
    c.in_ok-formulas-in-All.ensures.named ∙ ap (after_formula (naming_of c.args.naming.now)) (sym (tree_of-All c.args.form.now c.in-All.parts c.deref-in-All.result.now c.in-All.is c.deref-in-All.ensures.value))

pub formula-returns-in_ok-formulas-in-Any-clause-meant : goal.formula-returns-in_ok-formulas-in-Any-clause-meant
formula-returns-in_ok-formulas-in-Any-clause-meant t c =
    formula_of-Any c.in_ok-formulas-in-Any.field-0 ∙ ap Model.disjunction c.in_ok-formulas-in-Any.ensures.meant
    ∙ ap (formula_in (scope_of c.args.reader.now) c.args.types.now (naming_of c.args.naming.now)) (sym (tree_of-Any c.args.form.now c.in-Any.parts c.deref-in-Any.result.now c.in-Any.is c.deref-in-Any.ensures.value))

pub formula-returns-in_ok-formulas-in-Any-clause-named : goal.formula-returns-in_ok-formulas-in-Any-clause-named
formula-returns-in_ok-formulas-in-Any-clause-named t c =
    c.in_ok-formulas-in-Any.ensures.named ∙ ap (after_formula (naming_of c.args.naming.now)) (sym (tree_of-Any c.args.form.now c.in-Any.parts c.deref-in-Any.result.now c.in-Any.is c.deref-in-Any.ensures.value))

pub formula-returns-in_ok-formulas-in-Same-clause-meant : goal.formula-returns-in_ok-formulas-in-Same-clause-meant
formula-returns-in_ok-formulas-in-Same-clause-meant t c =
    formula_of-Iff c.in_ok-formulas-in-Same.field-0 ∙ ap Model.equivalence c.in_ok-formulas-in-Same.ensures.meant
    ∙ ap (formula_in (scope_of c.args.reader.now) c.args.types.now (naming_of c.args.naming.now)) (sym (tree_of-Same c.args.form.now c.in-Same.parts c.deref-in-Same.result.now c.in-Same.is c.deref-in-Same.ensures.value))

pub formula-returns-in_ok-formulas-in-Same-clause-named : goal.formula-returns-in_ok-formulas-in-Same-clause-named
formula-returns-in_ok-formulas-in-Same-clause-named t c =
    c.in_ok-formulas-in-Same.ensures.named ∙ ap (after_formula (naming_of c.args.naming.now)) (sym (tree_of-Same c.args.form.now c.in-Same.parts c.deref-in-Same.result.now c.in-Same.is c.deref-in-Same.ensures.value))

pub formula-leave-requires-clause-within : goal.formula-leave-requires-clause-within
formula-leave-requires-clause-within t c =
    let e = c.in_ok-body-in-Quant.ensures.named ∙ ap (λ m. after_formula m (tree_of c.deref-in-Quant-2.result.now)) c.in_ok-enter-in-Quant.ensures in
    outside_within c.args.naming.now c.formula-in-Quant.new.naming c.deref-in-Quant.result.now (tree_of c.deref-in-Quant-2.result.now) e c.depth-outside.result c.depth-outside.ensures

pub formula-leave-requires-clause-few : goal.formula-leave-requires-clause-few
formula-leave-requires-clause-few t c =
    let f = tree_of c.deref-in-Quant-2.result.now in
    let bs = c.deref-in-Quant.result.now in
    let e = c.in_ok-body-in-Quant.ensures.named ∙ ap (λ m. after_formula m f) c.in_ok-enter-in-Quant.ensures in
    let tree = tree_of-Quant c.args.form.now c.in-Quant.universal c.in-Quant.binders bs c.in-Quant.body c.deref-in-Quant-2.result.now c.in-Quant.at c.in-Quant.is c.deref-in-Quant.ensures.value c.deref-in-Quant-2.ensures in
    own_few c.args.naming.now c.formula-in-Quant.new.naming bs f e c.depth-outside.result c.depth-outside.ensures
    (few_body (naming_of c.args.naming.now) (entered (naming_of c.args.naming.now) bs) (tree_of c.args.form.now) f c.in-Quant.universal bs c.in-Quant.at tree refl c.requires)

pub formula-returns-in_ok-body-in-Quant-clause-meant : goal.formula-returns-in_ok-body-in-Quant-clause-meant
formula-returns-in_ok-body-in-Quant-clause-meant t c =
    let f = tree_of c.deref-in-Quant-2.result.now in
    let bs = c.deref-in-Quant.result.now in
    let n = naming_of c.args.naming.now in
    let scope = scope_of c.args.reader.now in
    let types = c.args.types.now in
    let own = (bound_by (at_quantifier n) bs).own in
    let e = c.in_ok-body-in-Quant.ensures.named ∙ ap (λ m. after_formula m f) c.in_ok-enter-in-Quant.ensures in
    let tree = tree_of-Quant c.args.form.now c.in-Quant.universal c.in-Quant.binders bs c.in-Quant.body c.deref-in-Quant-2.result.now c.in-Quant.at c.in-Quant.is c.deref-in-Quant.ensures.value c.deref-in-Quant-2.ensures in
    let body = c.in_ok-body-in-Quant.ensures.meant ∙ ap (λ m. formula_in scope types m f) c.in_ok-enter-in-Quant.ensures in
    IfOk-weaker c.leave.result _ _ (λ g h. h ∙ ap (over c.in-Quant.universal types own) body ∙ ap (formula_in scope types n) (sym tree))
    (c.leave.ensures.meant own n.bound (bound_behind c.args.naming.now c.formula-in-Quant.new.naming bs f e) c.depth-outside.ensures)

pub formula-returns-in_ok-body-in-Quant-clause-named : goal.formula-returns-in_ok-body-in-Quant-clause-named
formula-returns-in_ok-body-in-Quant-clause-named t c =
    let f = tree_of c.deref-in-Quant-2.result.now in
    let bs = c.deref-in-Quant.result.now in
    let n = naming_of c.args.naming.now in
    let own = (bound_by (at_quantifier n) bs).own in
    let e = c.in_ok-body-in-Quant.ensures.named ∙ ap (λ m. after_formula m f) c.in_ok-enter-in-Quant.ensures in
    let tree = tree_of-Quant c.args.form.now c.in-Quant.universal c.in-Quant.binders bs c.in-Quant.body c.deref-in-Quant-2.result.now c.in-Quant.at c.in-Quant.is c.deref-in-Quant.ensures.value c.deref-in-Quant-2.ensures in
    on_ok_weaker c.leave.result (λ h. h ∙ ap (λ (m : Naming). record m { bound = n.bound }) e ∙ ap (after_formula n) (sym tree))
    (c.leave.ensures.named own n.bound (bound_behind c.args.naming.now c.formula-in-Quant.new.naming bs f e) c.depth-outside.ensures)

pub formulas-formula-requires : goal.formulas-formula-requires
formulas-formula-requires t c =
    let i = c.loop-form.form-index in
    let forms = c.args.forms.now in
    let f = c.form-item.result in
    let n = naming_of c.loop-form.naming in
    let whole = ap (λ fs. after_formulas n (trees_of fs)) (sym (drop_at forms i f c.loop-form-test.true c.form-item.is)) ∙ c.loop-form.invariant.naming in
    (search (rules, the_lemmas), few_first n (tree_of f) (trees_of (drop (i + 1) forms)) (subst (λ (m : Naming). length m.variables ≤ 256) (sym whole) c.requires))

pub formulas-loop-form-preserved : goal.formulas-loop-form-preserved
formulas-loop-form-preserved t c =
    let i = c.loop-form.form-index in
    let forms = c.args.forms.now in
    let f = c.form-item.result in
    let n = naming_of c.loop-form.naming in
    let m = naming_of c.formula.new.naming in
    let scope = scope_of c.args.reader.now in
    let types = c.args.types.now in
    let rest = trees_of (drop (i + 1) forms) in
    let before = formulas_of c.loop-form.parts.items in
    let split = sym (drop_at forms i f c.loop-form-test.true c.form-item.is) in
    let named = c.in_ok-formula.ensures.named in
    record {
      formulas =
          ap (λ fs. followed (formulas_of fs) (formulas_in scope types m rest)) c.in_ok-push.ensures.items
          ∙ formulas_of-push c.loop-form.parts.items c.in_ok-formula.field-0 (formulas_in scope types m rest)
          ∙ ap (λ g. followed before (Model.with_formula g (formulas_in scope types m rest))) c.in_ok-formula.ensures.meant
          ∙ ap (λ k. followed before (Model.with_formula (formula_in scope types n (tree_of f)) (formulas_in scope types k rest))) named
          ∙ ap (λ fs. followed before (formulas_in scope types n (trees_of fs))) split ∙ c.loop-form.invariant.formulas;
      naming = ap (λ k. after_formulas k rest) named ∙ ap (λ fs. after_formulas n (trees_of fs)) split ∙ c.loop-form.invariant.naming;
    }

pub formulas-returns-clause-meant : goal.formulas-returns-clause-meant
formulas-returns-clause-meant t c =
    let none = drop_all c.loop-form.form-index c.args.forms.now c.loop-form-test.false in
    let before = formulas_of c.loop-form.parts.items in
    sym (followed-nil before) ∙ ap (λ fs. followed before (formulas_in (scope_of c.args.reader.now) c.args.types.now (naming_of c.loop-form.naming) (trees_of fs))) (sym none) ∙ c.loop-form.invariant.formulas
