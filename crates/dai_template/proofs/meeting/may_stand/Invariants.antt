-- the element may stand beside the elements so far
use Rattle.dai_template.specs.Meeting.{MayStand}
use Rattle.dai_template.proofs.meeting.may_stand.Given as goal

abbrev pub invariant-loop-before : goal.invariant-loop-before
invariant-loop-before l = MayStand l.ordered l.sort l.before l.element l.values
