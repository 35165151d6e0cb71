use Rattle.std.proofs.Common.{◌+◌, ◌∙◌, ap, sym, drop, get_or, arith}
use Rattle.dai_rules.specs.Sites.{counted_from}
use Rattle.dai_rules.specs.First.{judged}
use Rattle.dai_rules.proofs.Lists.{drop_from}
use Rattle.dai_rules.proofs.CodeSteps.{counted_next}
use Rattle.dai_rules.proofs.judge_statements.count_all.Goals as goal

pub loop-at-preserved : goal.loop-at-preserved
loop-at-preserved c =
    let i = c.loop-at.at-index in
    let places = c.args.places.now in
    let h = c.loop-at.invariant in
    record {
      first =
          counted_next c.loop-at.first c.loop-at.left (get_or places i 0) (drop (i + 1) places) c.note_if.new.first c.saturating_sub-left.result c.note_if.ensures c.saturating_sub-left.ensures
          ∙ ap (λ ps. judged c.loop-at.first (counted_from c.loop-at.left ps)) (sym (drop_from places i 0 c.loop-at-test.true))
          ∙ h.first;
      left = c.saturating_sub-left.ensures ∙ (let e = h.left in omega arith);
    }
