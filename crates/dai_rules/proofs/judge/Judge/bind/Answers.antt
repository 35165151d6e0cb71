use Rattle.std.proofs.Common.{◌+◌, ◌∙◌, ap, sym, take, drop, refl}
use Rattle.dai_rules.specs.Naming.{at_quantifier, entered, bound_by, bound_with, with_binding}
use Rattle.dai_rules.specs.Views.{View, view_of, naming_of}
use Rattle.dai_rules.proofs.Lists.{drop_at, take_at}
use Rattle.dai_rules.proofs.JudgeSteps.{binders_step, binders_next}
use Rattle.dai_rules.proofs.VariableLemmas.{bound_within}
use Rattle.dai_rules.proofs.judge.Judge.bind.Goals as goal

pub loop-number-init : goal.loop-number-init
loop-number-init c = (
  at_quantifier (naming_of c.args.self.now.naming),
  record {
    here = record { begins = c.depth-start.ensures; named = refl };
    rest = refl;
    output = refl;
  },
)

pub bind_one-requires : goal.bind_one-requires
bind_one-requires c = let h = c.loop-number.invariant.1.here in bound_within c.loop-number.self.naming c.depth-start.result (naming_of c.args.self.now.naming) c.loop-number.invariant.0 h.begins h.named

pub loop-number-preserved : goal.loop-number-preserved
loop-number-preserved c =
    let i = c.loop-number.number in
    let n = naming_of c.args.self.now.naming in
    let b = c.loop-number.invariant.0 in
    let h = c.loop-number.invariant.1 in
    let bs = c.args.binders.now in
    let binder = c.index-binders-number.result in
    let v = view_of c.loop-number.self in
    let w = view_of c.bind_one.new.self in
    let split = drop_at bs i binder c.loop-number-test.true c.index-binders-number.is in
    let e = c.in_ok-bind_one.ensures n b h.here in (
      bound_with b binder,
      record {
        here = record { begins = h.here.begins; named = ap (λ (u : View). u.naming) e };
        rest = sym (ap (bound_by b) split) ∙ h.rest;
        output =
            ap (λ before. binders_step c.args.witness (entered n bs) (bound_with b binder) before (drop (i + 1) bs) w) (take_at bs i binder c.loop-number-test.true c.index-binders-number.is)
            ∙ binders_next c.args.witness (entered n bs) (with_binding n (bound_with b binder)) b (take i bs) binder (drop (i + 1) bs) v w e
            ∙ ap (λ rest. binders_step c.args.witness (entered n bs) b (take i bs) rest v) (sym split)
            ∙ h.output;
      },
    )
