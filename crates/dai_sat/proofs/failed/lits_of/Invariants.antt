use Rattle.std.proofs.Common.{◌≡◌, map, take}
use Rattle.dai_trail.specs.Codes.{lit_of}
use Rattle.dai_sat.proofs.failed.lits_of.Given as goal

abbrev pub invariant-loop-code : goal.invariant-loop-code
invariant-loop-code l = l.lits.items ≡ map lit_of (take l.code-index l.codes)
