use Rattle.std.proofs.Common.{drop}
use Rattle.dai_words.proofs.Parts.{IsRead}
use Rattle.dai_words.proofs.bounds.parts.Given as goal

-- the parts so far, and the bytes of the present one
abbrev pub invariant-loop-byte : goal.invariant-loop-byte
invariant-loop-byte l = IsRead l.mark l.text l.parts.items l.part.items (drop l.byte-index l.text)
