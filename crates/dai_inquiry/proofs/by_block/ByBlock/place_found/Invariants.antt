use Rattle.dai_inquiry.proofs.by_block.ByBlock.place_found.Given as goal

abbrev pub invariant-loop-place : goal.invariant-loop-place
invariant-loop-place l = Unit {0}
