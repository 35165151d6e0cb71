use Rattle.std.proofs.Common.{◌≡◌, ◌∙◌, ap}
use Rattle.std.specs.Option.{option_copied}
use Rattle.std.proofs.lemmas.Result.{on_ok_weaker}
use Rattle.dai_rules.specs.Naming.{with_binding, bound_with, own_number}
use Rattle.dai_rules.specs.Views.{View, view_of, naming_of, renamed}
use Rattle.dai_rules.proofs.JudgeSteps.{bound_one_by}
use Rattle.dai_rules.proofs.VariableLemmas.{binding_is, bound_next}
use Rattle.dai_rules.proofs.judge.Judge.bind_one.Goals as goal

pub returns : goal.returns
returns c =
    on_ok_weaker c.witness.result (λ last n b h.
    let old = c.annotated.new.self.naming in
    let binder = c.args.binder.now in
    let named : naming_of old ≡ with_binding n b = ap (λ (v : View). v.naming) c.annotated.ensures ∙ ap (λ (v : View). v.naming) c.bound.ensures ∙ h.named in
    let is = binding_is old c.args.start n b h.begins named in
    let next : naming_of c.bind.new.self ≡ with_binding n (bound_with b binder) =
    bound_next old c.bind.new.self c.args.start n b (bound_with b binder) h.begins named (λ e. c.in_ok-variable.ensures.bound ∙ ap (λ d. bound_with d binder) e) c.in_ok-variable.ensures.outside.0 c.in_ok-variable.ensures.outside.1 in
    bound_one_by c.args.start n b c.args.before.now binder c.args.witness c.in_ok-variable.variable (option_copied c.as_ref.result)
    (view_of c.args.self.now) (view_of c.bound.new.self) (view_of c.annotated.new.self) (renamed (view_of c.annotated.new.self) (naming_of c.bind.new.self)) (view_of c.typed.new.self) (view_of c.witness.new.self)
    c.bound.ensures c.annotated.ensures (ap (renamed (view_of c.annotated.new.self)) next) c.in_ok-typed.ensures last
    (c.in_ok-variable.ensures.number ∙ ap (λ d. own_number d binder) is) c.as_ref.ensures.value) c.witness.ensures
