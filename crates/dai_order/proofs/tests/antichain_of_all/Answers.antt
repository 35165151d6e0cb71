use Rattle.std.proofs.Common.{sym, subst}
use Rattle.dai_order.specs.Antichains.{AreClauses}
use Rattle.dai_order.proofs.Sampled.{all_clauses}
use Rattle.dai_order.proofs.tests.antichain_of_all.Goals as goal

pub of-requires : goal.of-requires
of-requires c =
    let a = c.in_ok-clauses.ensures in
    record { protocol = a.protocol; bounds = a.bounds; are = subst (AreClauses a.protocol a.bounds c.args.space.now) (sym c.deref.ensures.value) (all_clauses a.protocol a.bounds c.args.space.now c.in_ok-clauses.clauses.items a.is a.all) }

pub returns : goal.returns
returns c =
    let a = c.in_ok-clauses.ensures in
    record { protocol = a.protocol; bounds = a.bounds; is = c.in_ok-of.ensures.antichain a.protocol a.bounds (subst (AreClauses a.protocol a.bounds c.args.space.now) (sym c.deref.ensures.value) (all_clauses a.protocol a.bounds c.args.space.now c.in_ok-clauses.clauses.items a.is a.all)) }
