use Rattle.std.proofs.Common.{◌∙◌, ap, sym, subst, map}
use Rattle.std.proofs.lemmas.Result.{on_ok_weaker}
use Rattle.dai_rules.specs.declared.judge.Role.TheVariants.{Axiom}
use Rattle.dai_rules.specs.Labels.{AreSummaries}
use Rattle.dai_rules.specs.Views.{view_of, context_of, use_of, role_in}
use Rattle.dai_rules.proofs.JudgeSteps.{types_by}
use Rattle.dai_rules.proofs.judge.Judge.types.Goals as goal

pub returns : goal.returns
returns c =
    let v = view_of c.args.self.now in
    let labels = c.in_ok-labels.labels.items in
    let uses = c.args.self.now.uses.items in
    let summarized =
    subst (AreSummaries c.deref-5.result.now (map use_of uses)) (sym c.deref-6.ensures.value)
    (subst (λ l. AreSummaries l (map use_of uses) c.in_ok-summaries.summaries.items) (c.deref-2.ensures.value ∙ sym c.deref-5.ensures.value)
    (subst (λ us. AreSummaries c.deref-2.result.now (map use_of us) c.in_ok-summaries.summaries.items) c.deref-3.ensures.value c.in_ok-summaries.ensures)) in
    on_ok_weaker c.judge_orderings.result (λ h. types_by (role_in (context_of c.args.self.now) Axiom) v (view_of c.judge_orderings.new.self) c.judge_variables.new.first labels c.deref-5.result.now c.deref-7.result.now c.count.result
    (map use_of c.deref.result.now) (map (λ x. x.now) c.deref-4.result.now) h (c.judge_variables.ensures (map use_of uses) summarized) (ap (map (λ x. x.now)) c.deref-4.ensures.value) c.deref-5.ensures.value c.deref-7.ensures.value
    c.in_ok-labels.ensures.value c.count.ensures (ap (map use_of) c.deref.ensures.value)) c.judge_orderings.ensures
