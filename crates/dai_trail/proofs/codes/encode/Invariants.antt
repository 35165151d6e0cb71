use Rattle.std.proofs.Common.{◌≡◌, map, take}
use Rattle.dai_trail.specs.Codes.{code_of}
use Rattle.dai_trail.proofs.codes.encode.Given as goal

abbrev pub invariant-loop-lit : goal.invariant-loop-lit
invariant-loop-lit l = l.codes.items ≡ map code_of (take l.lit-index l.lits)
