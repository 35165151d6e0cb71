use Rattle.std.proofs.Common.{◌≡◌, ℕ, ◌<◌, get_or, true}
use Rattle.dai_lex.specs.Bytes.{is_word_byte}
use Rattle.dai_lex.proofs.bytes.word_len.Given as goal

-- the bytes so far pass the test
abbrev pub invariant-loop-i : goal.invariant-loop-i
invariant-loop-i l = (k : ℕ) → k < l.i → is_word_byte (get_or l.bytes k 0) ≡ true
