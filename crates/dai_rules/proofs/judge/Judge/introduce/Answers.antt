use Rattle.std.proofs.Common.{◌+◌, ◌∙◌, sym, subst, drop, arith}
use Rattle.std.proofs.lemmas.List.{drop_all}
use Rattle.dai_rules.specs.Views.{Introduces}
use Rattle.dai_rules.proofs.Lists.{drop_at}
use Rattle.dai_rules.proofs.CodeSteps.{introduces_next, introduces_none}
use Rattle.dai_rules.proofs.judge.Judge.introduce.Goals as goal

pub loop-binder-preserved : goal.loop-binder-preserved
loop-binder-preserved c =
    let i = c.loop-binder.binder-index in
    let bs = c.args.binders.now in
    let b = c.binder-item.result in
    let old = c.loop-binder.self in
    let mid = c.introduce_one.new.self in
    let h = c.loop-binder.invariant in
    record {
      rest = λ j k. h.rest j (subst (λ rest. Introduces c.loop-binder.left rest old j) (sym (drop_at bs i b c.loop-binder-test.true c.binder-item.is))
          (introduces_next c.loop-binder.left b (drop (i + 1) bs) old mid j c.in_ok-introduce_one.ensures (subst (λ n. Introduces n (drop (i + 1) bs) mid j) c.saturating_sub-left.ensures k)));
      left = c.saturating_sub-left.ensures ∙ (let e = h.left in omega arith);
    }

pub returns-clause-introduced : goal.returns-clause-introduced
returns-clause-introduced c =
    let self = c.loop-binder.self in
    c.loop-binder.invariant.rest self (subst (λ rest. Introduces c.loop-binder.left rest self self) (sym (drop_all c.loop-binder.binder-index c.args.binders.now c.loop-binder-test.false)) (introduces_none c.loop-binder.left self))
