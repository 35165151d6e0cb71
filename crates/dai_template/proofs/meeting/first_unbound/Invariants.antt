-- the variables so far have elements
use Rattle.std.proofs.Common.{map, take}
use Rattle.std.specs.List.{All}
use Rattle.dai_template.specs.Atoms.{variable_of}
use Rattle.dai_template.specs.Meeting.{IsBound}
use Rattle.dai_template.proofs.meeting.first_unbound.Given as goal

abbrev pub invariant-loop-var : goal.invariant-loop-var
invariant-loop-var l = All (IsBound l.bound) (take l.var-index (map variable_of l.vars))
