use Rattle.std.proofs.Common.{◌≡◌, ◌+◌, ◌++◌, drop, string_bytes}
use Rattle.dai_dimacs.specs.Reports.{value_words}
use Rattle.dai_dimacs.proofs.report.push_values.Given as goal

abbrev pub invariant-loop-var : goal.invariant-loop-var
invariant-loop-var l = string_bytes l.text ++ value_words (l.var + 1) (drop l.var l.bits) ≡ string_bytes l.initial.text ++ value_words 1 l.bits
