use Rattle.std.proofs.Common.{◌<◌, length, get_or, set, false, ◌∙◌, arith}
use Rattle.std.proofs.lemmas.List.{length-set}
use Rattle.dai_template.specs.Renamings.{IsSame}
use Rattle.dai_template.proofs.Freed.{freed_here, stays_same, keeps_on, sort_below, all_freed, one_more}
use Rattle.dai_template.proofs.canonical.free_each.Goals as goal

pub bounds-ordered-from : goal.bounds-ordered-from
bounds-ordered-from c = let below = sort_below c.args.vars.now (length c.args.ordered.now) c.loop-var.var-index c.requires.known c.loop-var-test.true in let e = c.from.ensures in omega (arith, below, e)

pub bounds-kept-from : goal.bounds-kept-from
bounds-kept-from c = let below = sort_below c.args.vars.now (length c.args.kept.now) c.loop-var.var-index c.requires.long c.loop-var-test.true in let e = c.from-in-loop-var.ensures in let long = c.loop-var.invariant.long in omega (arith, below, e, long)

pub loop-var-preserved : goal.loop-var-preserved
loop-var-preserved c =
    let kept = c.loop-var.kept in
    let ordered = c.args.ordered.now in
    let s = (get_or c.args.vars.now c.loop-var.var-index (0, 0)).0 in
    let below : s < length kept = let b = sort_below c.args.vars.now (length c.args.kept.now) c.loop-var.var-index c.requires.long c.loop-var-test.true in let long = c.loop-var.invariant.long in omega (arith, b, long) in
    let i = c.from-in-loop-var.result in
    let j = c.from.result in
    let e = c.from-in-loop-var.ensures in
    let f = c.from.ensures in
    record {
      long = length-set kept i (get_or ordered j false) ∙ c.loop-var.invariant.long;
      freed = λ k h. one_more (λ n. IsSame (set kept i (get_or ordered j false)) ordered (get_or c.args.vars.now n (0, 0)).0) c.loop-var.var-index k h
          (λ n l. stays_same kept ordered i j s (get_or c.args.vars.now n (0, 0)).0 e f below (c.loop-var.invariant.freed n l))
          (freed_here kept ordered i j s e f below);
      stays = λ t h. stays_same kept ordered i j s t e f below (c.loop-var.invariant.stays t h);
      keeps = λ t own h. keeps_on kept ordered i j s t e f below own (c.loop-var.invariant.keeps t own h);
    }

pub returns : goal.returns
returns c = record {
  long = c.loop-var.invariant.long;
  freed = all_freed c.args.vars.now c.loop-var.kept c.args.ordered.now c.loop-var.var-index c.loop-var-test.false c.loop-var.invariant.freed;
  stays = c.loop-var.invariant.stays;
  keeps = c.loop-var.invariant.keeps;
}
