use Rattle.std.proofs.Common.{◌∙◌, ◌≤◌, ap, sym, subst, length}
use Rattle.dai_model.specs.Formula as Model
use Rattle.dai_syntax.specs.Trees.{formula_of as tree_of}
use Rattle.dai_rules.specs.Naming.{Naming, after_terms, after_formula}
use Rattle.dai_rules.specs.Views.{naming_of, context_of}
use Rattle.dai_sorts.specs.Scopes.{terms_in}
use Rattle.dai_sorts.specs.Formulas.{formula_in}
use Rattle.dai_sorts.specs.Readers.{scope_of}
use Rattle.dai_sorts.proofs.Wholes.{update_few, target_few}
use Rattle.dai_sorts.proofs.reader.Reader.update_table.Goals as goal

pub terms-requires : goal.terms-requires
terms-requires c =
    let ctx = context_of c.args.self.now.judge in
    let args = c.args.args.now in
    let named = ap (λ n. after_terms n args) c.new-naming.ensures in
    subst (λ (n : Naming). length n.variables ≤ 256) (sym named) (target_few ctx c.args.name.now args (tree_of c.args.form.now) c.requires.unbroken)

pub formula-requires : goal.formula-requires
formula-requires c =
    let ctx = context_of c.args.self.now.judge in
    let f = tree_of c.args.form.now in
    let args = c.args.args.now in
    let named = ap (λ n. after_formula n f) (c.in_ok-target.ensures.named ∙ ap (λ n. after_terms n args) c.new-naming.ensures) in
    subst (λ (n : Naming). length n.variables ≤ 256) (sym named) (update_few ctx c.args.name.now args f c.requires.unbroken)

pub returns : goal.returns
returns c =
    let scope = scope_of c.args.self.now in
    let f = tree_of c.args.form.now in
    let args = c.args.args.now in
    let types = c.in_ok-types.types.items in
    let named = c.in_ok-target.ensures.named ∙ ap (λ n. after_terms n args) c.new-naming.ensures in
    let target = c.in_ok-target.ensures.meant ∙ ap (λ n. terms_in scope n args) c.new-naming.ensures in
    let body = c.in_ok-body.ensures.meant ∙ ap (λ ts. formula_in scope ts (naming_of c.terms.new.naming) f) c.deref.ensures.value ∙ ap (λ n. formula_in scope types n f) named in
    record {
      types = types;
      typed = c.in_ok-types.ensures;
      same = λ i. Model.update_relation (c.relation.ensures i) (target i) (body i);
    }
