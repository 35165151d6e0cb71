use Rattle.dai_words.proofs.Ranges.{settings_within}
use Rattle.dai_words.proofs.law.settings_are_within_ranges.Goals as goal

pub returns : goal.returns
returns c = settings_within
