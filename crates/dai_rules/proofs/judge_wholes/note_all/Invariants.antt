use Rattle.std.proofs.Common.{◌≡◌, drop}
use Rattle.dai_rules.specs.First.{numbered, noting_all}
use Rattle.dai_rules.proofs.judge_wholes.note_all.Given as goal

-- with those to come, all are noted
abbrev pub invariant-loop-at : goal.invariant-loop-at
invariant-loop-at l = noting_all l.first (numbered l.number (drop l.at-index l.places)) ≡ noting_all l.fn.first (numbered l.number l.places)
