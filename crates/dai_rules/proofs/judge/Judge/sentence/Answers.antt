use Rattle.std.proofs.Common.{◌≡◌, ◌∙◌, ◌∷◌, [], ap, sym, subst, length}
use Rattle.std.proofs.lemmas.Result.{on_ok_weaker}
use Rattle.dai_syntax.specs.Trees.{formula_of}
use Rattle.dai_rules.specs.Naming.{no_variables}
use Rattle.dai_rules.specs.Sites.{outermost, whole_at, sentence_output}
use Rattle.dai_rules.specs.Ranges.{AreOrderingsWithin}
use Rattle.dai_rules.specs.Views.{View, view_of, context_of, role_in, emptied, whole_view}
use Rattle.dai_rules.proofs.RangeLemmas.{formula_within}
use Rattle.dai_rules.proofs.ViewLemmas.{judged-append}
use Rattle.dai_rules.proofs.JudgeSteps.{formula_step, sentence_by}
use Rattle.dai_rules.proofs.judge.Judge.sentence.Goals as goal

pub whole-requires : goal.whole-requires
whole-requires c =
    let ctx = context_of c.args.self.now in
    let f = formula_of c.args.form.now in
    let e : view_of c.formula.new.self ≡ formula_step c.args.role outermost f (emptied (view_of c.args.self.now)) =
    c.in_ok-formula.ensures ∙ ap (λ force. formula_step c.args.role force f (view_of c.begin.new.self)) c.outermost.ensures ∙ ap (formula_step c.args.role outermost f) c.begin.ensures in
    subst (λ (v : View). AreOrderingsWithin (length v.naming.variables) v.orderings) (sym e) (formula_within ctx (role_in ctx c.args.role) outermost no_variables f).orderings

pub returns : goal.returns
returns c =
    let v0 = view_of c.args.self.now in
    let role = c.args.role in
    let f = formula_of c.args.form.now in
    on_ok_weaker c.whole.result (λ h.
    let e = sentence_by role f v0 (view_of c.begin.new.self) (view_of c.formula.new.self) (view_of c.whole.new.self) c.begin.ensures (c.in_ok-formula.ensures ∙ ap (λ force. formula_step role force f (view_of c.begin.new.self)) c.outermost.ensures) h in
    let ctx = context_of c.args.self.now in
    record {
      first = ap (λ (v : View). v.first) e ∙ sym (judged-append v0.first (sentence_output ctx (role_in ctx role) f).sites (whole_at (whole_view (role_in ctx role) (formula_step role outermost f (emptied v0))) ∷ []));
      context = ap (λ (v : View). v.context) e;
      locals = ap (λ (v : View). v.locals) e;
      witnesses = ap (λ (v : View). v.witnesses) e;
    }) c.whole.ensures
