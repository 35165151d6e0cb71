-- the bounds of the types that were looked at
use Rattle.std.proofs.Common.{◌≡◌, map}
use Rattle.dai_model.specs.Clause.{numbers_below}
use Rattle.dai_model.specs.Sizes.{size_bound}
use Rattle.dai_logic.specs.Protocols.{protocol_of}
use Rattle.dai_query.proofs.sizes.bounds.Given as goal

abbrev pub invariant-loop-sort : goal.invariant-loop-sort
invariant-loop-sort l = l.sizes.items ≡ map (size_bound (protocol_of l.protocol) l.vars) (numbers_below l.sort)
