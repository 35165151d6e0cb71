use Rattle.std.proofs.Common.{◌+◌, ◌∙◌, ap, sym, drop}
use Rattle.std.specs.Option.{option_copied}
use Rattle.dai_rules.specs.Views.{view_of}
use Rattle.dai_rules.proofs.Lists.{drop_at, drop_next}
use Rattle.dai_rules.proofs.JudgeSteps.{terms_step, terms_next}
use Rattle.dai_rules.proofs.judge.Judge.terms.Goals as goal

pub loop-number-preserved : goal.loop-number-preserved
loop-number-preserved c =
    let i = c.loop-number.number in
    let ps = c.args.places.now in
    let ts = c.args.terms.now in
    let t = c.index-terms-number.result in
    ap (λ qs. terms_step c.args.role qs (drop (i + 1) ts) (view_of c.term.new.self)) (drop_next ps i)
    ∙ terms_next c.args.role (view_of c.loop-number.self) (view_of c.term.new.self) (drop i ps) (option_copied c.sort_at.result) t (drop (i + 1) ts) c.sort_at.ensures c.in_ok-term.ensures.given
    ∙ ap (λ qs. terms_step c.args.role (drop i ps) qs (view_of c.loop-number.self)) (sym (drop_at ts i t c.loop-number-test.true c.index-terms-number.is))
    ∙ c.loop-number.invariant
