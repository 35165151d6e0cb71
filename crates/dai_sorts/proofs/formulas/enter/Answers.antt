use Rattle.std.proofs.Common.{◌∙◌, ap, sym, refl}
use Rattle.std.proofs.lemmas.List.{drop_all}
use Rattle.dai_rules.specs.Naming.{at_quantifier, bound_by, bound_with, with_binding}
use Rattle.dai_rules.specs.Views.{naming_of}
use Rattle.dai_rules.proofs.Lists.{drop_at}
use Rattle.dai_rules.proofs.VariableLemmas.{bound_within, bound_next}
use Rattle.dai_sorts.proofs.formulas.enter.Goals as goal

pub loop-binder-init : goal.loop-binder-init
loop-binder-init c = (at_quantifier (naming_of c.args.naming.now), record { begins = c.depth-start.ensures; named = refl; rest = refl })

pub bind-requires : goal.bind-requires
bind-requires c = let h = c.loop-binder.invariant.1 in bound_within c.loop-binder.naming c.depth-start.result (naming_of c.args.naming.now) c.loop-binder.invariant.0 h.begins h.named

pub loop-binder-preserved : goal.loop-binder-preserved
loop-binder-preserved c =
    let i = c.loop-binder.binder-index in
    let n = naming_of c.args.naming.now in
    let b = c.loop-binder.invariant.0 in
    let h = c.loop-binder.invariant.1 in
    let bs = c.args.binders.now in
    let binder = c.binder-item.result in
    let split = drop_at bs i binder c.loop-binder-test.true c.binder-item.is in
    let outside = c.in_ok-bind.ensures.outside in (
      bound_with b binder,
      record {
        begins = h.begins;
        named = bound_next c.loop-binder.naming c.bind.new.self c.depth-start.result n b (bound_with b binder) h.begins h.named (λ e. c.in_ok-bind.ensures.bound ∙ ap (λ k. bound_with k binder) e) outside.0 outside.1;
        rest = sym (ap (bound_by b) split) ∙ h.rest;
      },
    )

pub returns : goal.returns
returns c =
    let n = naming_of c.args.naming.now in
    let h = c.loop-binder.invariant.1 in
    h.named ∙ ap (with_binding n) (ap (bound_by c.loop-binder.invariant.0) (sym (drop_all c.loop-binder.binder-index c.args.binders.now c.loop-binder-test.false)) ∙ h.rest)
