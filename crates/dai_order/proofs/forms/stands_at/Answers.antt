use Rattle.std.proofs.Common.{sym, ◌∙◌}
use Rattle.dai_order.proofs.Entering.{stands, stands_not}
use Rattle.dai_order.proofs.forms.stands_at.Goals as goal

pub returns-then-place-list-clause-there : goal.returns-then-place-list-clause-there
returns-then-place-list-clause-there c = λ P B h e. stands c.args.space.now c.args.list.now c.args.clause.now c.index-list-place.result c.args.place c.compare.result c.if-place-list.true c.index-list-place.is (c.compare.ensures P B h.space_of) (sym c.is_eq.ensures ∙ e)

pub returns-then-place-list-clause-other : goal.returns-then-place-list-clause-other
returns-then-place-list-clause-other c = λ P B h e. stands_not c.args.space.now c.args.list.now c.args.clause.now c.index-list-place.result c.args.place c.compare.result c.if-place-list.true c.index-list-place.is (c.compare.ensures P B h.space_of) (sym c.is_eq.ensures ∙ e)
