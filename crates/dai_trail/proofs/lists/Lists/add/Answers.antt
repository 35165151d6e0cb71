use Rattle.std.proofs.Common.{arith, length, ap}
use Rattle.dai_trail.proofs.FlatLists.{lists_of-append, lists_of-push}
use Rattle.dai_trail.proofs.lists.Lists.add.Goals as goal

pub returns-in_err-push-clause-err : goal.returns-in_err-push-clause-err
returns-in_err-push-clause-err g c =
    let e = lists_of-append c.self.inside.items.items c.args.list.now c.self.inside.spans.items c.self.invariant in
    grind (arith, e, c.self.view_is, c.in_ok-extend_from_slice.ensures.items, c.in_err-push.ensures.items)

pub returns-clause-ok : goal.returns-clause-ok
returns-clause-ok g c =
    rw (c.in_ok-extend_from_slice.ensures.items, c.in_ok-push.ensures.items, ← c.self.view_is)
    (lists_of-push c.self.inside.items.items c.args.list.now c.self.inside.spans.items _ c.self.invariant (omega arith) (omega (arith, ap length c.in_ok-extend_from_slice.ensures.items)))
