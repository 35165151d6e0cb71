use Rattle.dai_inquiry.proofs.by_block.ByBlock.place_of.Goals as goal

pub returns-clause-place : goal.returns-clause-place
returns-clause-place c = c.renew.ensures.place c.args.block c.in-Some.ensures
