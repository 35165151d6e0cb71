-- Where tokens stand.
use Rattle.std.specs.Prelude.{ℕ, ◌≤◌, List, length}
use Rattle.dai_lex.specs.declared.token.Token.{Token}

-- the token's text is a slice of the bytes
abbrev pub LiesIn : List ℕ → Token → Type 0
LiesIn bytes t = (t.start ≤ t.end) × (t.end ≤ length bytes)
