use Rattle.std.proofs.Common.{◌≡◌, ◌+◌, ◌*◌, ◌-◌, drop, length}
use Rattle.dai_words.specs.Options.{options_from, nothing_given, number_given}
use Rattle.dai_words.specs.Readings.{texts, given_of}
use Rattle.dai_words.proofs.options.options.Given as goal

-- two words for each setting that is given; the words from here on decide
abbrev pub invariant-loop-at : goal.invariant-loop-at
invariant-loop-at l = record {
  two_each : l.at ≡ 2 + 2 * number_given (given_of l.given);
  left : options_from 3 nothing_given (texts (drop 2 l.words)) ≡ options_from (l.at + 1) (given_of l.given) (texts (drop l.at l.words));
}

abbrev pub decreases-loop-at : goal.decreases-loop-at
decreases-loop-at l = length l.words - l.at
