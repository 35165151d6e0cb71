-- the tuples below the limits so far
use Rattle.std.proofs.Common.{◌≡◌, take}
use Rattle.dai_model.specs.Shapes.{tuples_below}
use Rattle.dai_template.specs.Atoms.{lists_of}
use Rattle.dai_template.proofs.tuples.tuples_below.Given as goal

abbrev pub invariant-loop-limit : goal.invariant-loop-limit
invariant-loop-limit l = lists_of l.tuples.items ≡ tuples_below (take l.limit-index l.limits)
