use Rattle.std.proofs.Common.{◌∙◌, ◌∷◌, [], ap, sym, subst, length}
use Rattle.std.proofs.lemmas.Result.{on_ok_weaker}
use Rattle.dai_syntax.specs.Trees.{formula_of}
use Rattle.dai_rules.specs.declared.judge.Role.TheVariants.{Value}
use Rattle.dai_rules.specs.Names.{kind_in}
use Rattle.dai_rules.specs.Naming.{no_variables, after_terms, after_formula}
use Rattle.dai_rules.specs.Sites.{whole_at, update_output, update_role}
use Rattle.dai_rules.specs.Ranges.{AreOrderingsWithin}
use Rattle.dai_rules.specs.Kinds.{kind_value}
use Rattle.dai_rules.specs.Views.{View, view_of, context_of, emptied, given, whole_view}
use Rattle.dai_rules.proofs.RangeLemmas.{update_within}
use Rattle.dai_rules.proofs.ViewLemmas.{judged-append}
use Rattle.dai_rules.proofs.JudgeSteps.{whole_step, update_by}
use Rattle.dai_rules.proofs.judge.Judge.update.Goals as goal

pub whole-requires : goal.whole-requires
whole-requires c =
    let ctx = context_of c.args.self.now in
    let f = formula_of c.args.form.now in
    let e = update_by c.args.args c.args.name.now f c.places.result.now (kind_value c.kind-kind.result) (view_of c.args.self.now) (view_of c.begin.new.self) (view_of c.target.new.self) (view_of c.arguments.new.self) (view_of c.terms.new.self) (view_of c.right.new.self)
    c.begin.ensures c.target.ensures c.arguments.ensures c.in_ok-terms.ensures c.in_ok-right.ensures (c.kind-kind.ensures ∙ ap (λ (v : View). kind_in v.context c.args.name.now.text) c.begin.ensures) c.places.ensures in
    subst (λ (v : View). AreOrderingsWithin (length v.naming.variables) v.orderings) (sym e) (update_within ctx c.args.name.now c.args.args.now f).orderings

pub returns : goal.returns
returns c =
    let v0 = view_of c.args.self.now in
    let ctx = context_of c.args.self.now in
    let f = formula_of c.args.form.now in
    let ts = c.args.args.now in
    let e = update_by c.args.args c.args.name.now f c.places.result.now (kind_value c.kind-kind.result) v0 (view_of c.begin.new.self) (view_of c.target.new.self) (view_of c.arguments.new.self) (view_of c.terms.new.self) (view_of c.right.new.self)
    c.begin.ensures c.target.ensures c.arguments.ensures c.in_ok-terms.ensures c.in_ok-right.ensures (c.kind-kind.ensures ∙ ap (λ (v : View). kind_in v.context c.args.name.now.text) c.begin.ensures) c.places.ensures in
    let after : View = given (emptied v0) (update_output ctx c.args.name.now ts f) (after_formula (after_terms no_variables ts) f) in
    on_ok_weaker c.whole.result (λ h.
    let w = h ∙ ap (whole_step (Value c.args.args)) e in
    record {
      first = ap (λ (v : View). v.first) w ∙ sym (judged-append v0.first (update_output ctx c.args.name.now ts f).sites (whole_at (whole_view (update_role ts) after) ∷ []));
      context = ap (λ (v : View). v.context) w;
      locals = ap (λ (v : View). v.locals) w;
      witnesses = ap (λ (v : View). v.witnesses) w;
    }) c.whole.ensures
