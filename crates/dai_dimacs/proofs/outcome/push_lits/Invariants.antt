use Rattle.std.proofs.Common.{◌≡◌, ◌++◌, drop, string_bytes}
use Rattle.dai_dimacs.specs.Talks.{lit_words}
use Rattle.dai_dimacs.proofs.outcome.push_lits.Given as goal

abbrev pub invariant-loop-lit : goal.invariant-loop-lit
invariant-loop-lit l = string_bytes l.text ++ lit_words (drop l.lit-index l.lits) ≡ string_bytes l.initial.text ++ lit_words l.lits
