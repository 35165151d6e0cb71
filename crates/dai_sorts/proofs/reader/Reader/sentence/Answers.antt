use Rattle.std.proofs.Common.{◌∙◌, ◌≤◌, ◌<◌, ap, sym, subst, length, true}
use Rattle.std.specs.Prelude.{reverse}
use Rattle.std.specs.List.{All}
use Rattle.std.proofs.lemmas.Result.{IfOk-weaker}
use Rattle.dai_syntax.specs.Trees.{formula_of as tree_of}
use Rattle.dai_logic.specs.Trees.{formula_of}
use Rattle.dai_rules.specs.Naming.{Naming, no_variables, after_formula}
use Rattle.dai_rules.specs.Views.{naming_of, context_of, role_in}
use Rattle.dai_sorts.specs.Formulas.{over, formula_in}
use Rattle.dai_sorts.specs.Readers.{scope_of}
use Rattle.dai_sorts.proofs.Walking.{free_below, below_reversed}
use Rattle.dai_sorts.proofs.Wholes.{sentence_few}
use Rattle.dai_sorts.proofs.reader.Reader.sentence.Goals as goal

pub formula-requires : goal.formula-requires
formula-requires c =
    let ctx = context_of c.args.self.now.judge in
    let f = tree_of c.args.form.now in
    let named = ap (λ n. after_formula n f) c.new-naming.ensures in
    subst (λ (n : Naming). length n.variables ≤ 256) (sym named) (sentence_few ctx (role_in ctx c.args.role) f c.requires)

pub quantified-requires : goal.quantified-requires
quantified-requires c =
    let ctx = context_of c.args.self.now.judge in
    let f = tree_of c.args.form.now in
    let free = c.deref-3.ensures.value ∙ ap (λ (n : Naming). n.free) (c.in_ok-body.ensures.named ∙ ap (λ n. after_formula n f) c.new-naming.ensures) in
    below_reversed c.deref-3.result.now (subst (All (λ v. v < 256)) (sym free) (free_below f (sentence_few ctx (role_in ctx c.args.role) f c.requires)))

pub returns : goal.returns
returns c =
    let ctx = context_of c.args.self.now.judge in
    let scope = scope_of c.args.self.now in
    let f = tree_of c.args.form.now in
    let types = c.in_ok-types.types.items in
    let free = c.deref-3.ensures.value ∙ ap (λ (n : Naming). n.free) (c.in_ok-body.ensures.named ∙ ap (λ n. after_formula n f) c.new-naming.ensures) in
    let body = c.in_ok-body.ensures.meant ∙ ap (λ ts. formula_in scope ts (naming_of c.new-naming.result) f) c.deref.ensures.value ∙ ap (λ n. formula_in scope types n f) c.new-naming.ensures in
    IfOk-weaker c.quantified.result _ _ (λ g h. record {
      types = types;
      typed = c.in_ok-types.ensures;
      same = h ∙ ap (λ ts. over true ts (reverse c.deref-3.result.now) (formula_of c.in_ok-body.body)) c.deref-2.ensures.value
          ∙ ap (λ vs. over true types (reverse vs) (formula_of c.in_ok-body.body)) free ∙ ap (over true types (reverse (after_formula no_variables f).free)) body;
    }) c.quantified.ensures
