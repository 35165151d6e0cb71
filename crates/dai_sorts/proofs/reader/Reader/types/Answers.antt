use Rattle.std.proofs.Common.{◌≡◌, ◌∙◌, ap, sym, subst, length}
use Rattle.std.proofs.lemmas.Result.{IfOk-weaker}
use Rattle.dai_syntax.specs.Trees.{formula_of}
use Rattle.dai_rules.specs.Naming.{no_variables}
use Rattle.dai_rules.specs.Sites.{outermost}
use Rattle.dai_rules.specs.Ranges.{AreUsesWithin}
use Rattle.dai_rules.specs.Views.{View, view_of, context_of, role_in}
use Rattle.dai_rules.proofs.RangeLemmas.{formula_within}
use Rattle.dai_rules.proofs.JudgeSteps.{formula_step}
use Rattle.dai_sorts.specs.Formulas.{AreTypes}
use Rattle.dai_sorts.specs.Readers.{fresh_view}
use Rattle.dai_sorts.specs.Sound.{AreTyped}
use Rattle.dai_sorts.proofs.Wholes.{sentence_typed}
use Rattle.dai_sorts.proofs.reader.Reader.types.Goals as goal

pub types_of-requires-clause-within : goal.types_of-requires-clause-within
types_of-requires-clause-within c =
    let ctx = context_of c.args.self.now.judge in
    let f = formula_of c.args.form.now in
    let role = c.args.role in
    let e : view_of c.formula.new.self ≡ formula_step role outermost f (fresh_view ctx) =
    c.in_ok-formula.ensures ∙ ap (λ force. formula_step role force f (view_of c.in_ok-judge.judge)) c.outermost.ensures ∙ ap (formula_step role outermost f) c.in_ok-judge.ensures in
    subst (λ (v : View). AreUsesWithin (length v.naming.variables) v.uses) (sym e) (formula_within ctx (role_in ctx role) outermost no_variables f).uses

pub types_of-requires-clause-typed : goal.types_of-requires-clause-typed
types_of-requires-clause-typed c =
    let ctx = context_of c.args.self.now.judge in
    let f = formula_of c.args.form.now in
    let role = c.args.role in
    let e : view_of c.formula.new.self ≡ formula_step role outermost f (fresh_view ctx) =
    c.in_ok-formula.ensures ∙ ap (λ force. formula_step role force f (view_of c.in_ok-judge.judge)) c.outermost.ensures ∙ ap (formula_step role outermost f) c.in_ok-judge.ensures in
    subst (λ (v : View). AreTyped (length v.naming.variables) v.uses) (sym e) (sentence_typed ctx (role_in ctx role) f c.requires)

pub returns : goal.returns
returns c =
    let ctx = context_of c.args.self.now.judge in
    let f = formula_of c.args.form.now in
    let role = c.args.role in
    let e : view_of c.formula.new.self ≡ formula_step role outermost f (fresh_view ctx) =
    c.in_ok-formula.ensures ∙ ap (λ force. formula_step role force f (view_of c.in_ok-judge.judge)) c.outermost.ensures ∙ ap (formula_step role outermost f) c.in_ok-judge.ensures in
    IfOk-weaker c.types_of.result _ _ (λ types h. subst (λ (v : View). AreTypes ctx.declarations v.naming.variables v.uses types.items) e h) c.types_of.ensures
