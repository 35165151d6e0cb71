use Rattle.std.proofs.Common.{take}
use Rattle.dai_base.proofs.PlaceLemmas.{IsReached}
use Rattle.dai_base.proofs.position.place.Given as goal

abbrev pub invariant-loop-byte : goal.invariant-loop-byte
invariant-loop-byte l = IsReached (take l.byte-index l.byte-items) l.line l.column
