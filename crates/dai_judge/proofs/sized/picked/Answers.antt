use Rattle.std.proofs.Common.{get_or}
use Rattle.std.proofs.lemmas.List.{get_or_default}
use Rattle.dai_judge.proofs.Remembered.{picked_more}
use Rattle.dai_judge.proofs.sized.picked.Goals as goal

pub loop-number-preserved : goal.loop-number-preserved
loop-number-preserved c =
    let i = c.loop-number.number-index in
    let n = get_or c.args.numbers.now i 0 in
    picked_more c.args.keys.now c.loop-number.picked.items c.push.new.self.items c.args.numbers.now i n c.index-keys-number.result c.in_ok-copy.field-0 c.loop-number-test.true
    (get_or_default c.args.numbers.now i 0 n c.loop-number-test.true)
    (c.requires i 0 c.loop-number-test.true)
    c.index-keys-number.is c.in_ok-copy.ensures c.in_ok-push.ensures.items c.loop-number.invariant
