use Rattle.std.proofs.Common.{ℕ, ◌-◌, ◌≤◌, List, ◌++◌, length}
use Rattle.dai_lex.specs.declared.token.Token.{Token}
use Rattle.dai_lex.specs.Tokens.{Reads}
use Rattle.dai_lex.proofs.lexer.lex.Given as goal

-- what reads from here on reads from the start on, after the tokens so far
abbrev pub invariant-loop-at : goal.invariant-loop-at
invariant-loop-at l = record {
  within : l.at ≤ length l.bytes;
  reads : (tokens : List Token) (to : ℕ) → Reads l.bytes l.at tokens to → Reads l.bytes 0 (l.tokens.items ++ tokens) to;
}

abbrev pub decreases-loop-at : goal.decreases-loop-at
decreases-loop-at l = length l.bytes - l.at
