use Rattle.dai_order.proofs.Dropping.{not_listed, stands_there}
use Rattle.dai_order.proofs.parts.is_member.Goals as goal

pub returns-clause-some : goal.returns-clause-some
returns-clause-some c = λ P B h forms e.
    let form = c.canonical-form.ensures P B h in
    stands_there P B c.args.space.now c.args.clause.now c.canonical-form.result c.args.members.now c.place_of-place.result h form (c.stands_at.ensures.there P B form.of_the_space e)

pub returns-clause-none : goal.returns-clause-none
returns-clause-none c = λ P B h forms e.
    let form = c.canonical-form.ensures P B h in
    not_listed P B c.args.space.now c.args.clause.now c.canonical-form.result c.args.members.now c.place_of-place.result h forms form (c.place_of-place.ensures.place P B form.of_the_space forms) (c.stands_at.ensures.other P B form.of_the_space e)
