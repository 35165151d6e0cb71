use Rattle.std.proofs.Common.{sym, ◌∙◌}
use Rattle.std.specs.Char.{is_ascii_whitespace}
use Rattle.dai_dimacs.proofs.Cuts.{word_before, word_to_end}
use Rattle.dai_dimacs.proofs.pieces.first_word.Goals as goal

pub returns-in-None-clause-words : goal.returns-in-None-clause-words
returns-in-None-clause-words c =
    let rest = c.in_ok-rest.rest.now in
    c.in_ok-rest.ensures.words ∙ word_to_end is_ascii_whitespace rest c.split_at.result.0.now c.split_at.result.1.now (sym c.in-None.ensures)
    c.in_ok-rest.ensures.starts.0 c.split_at.ensures.front c.split_at.ensures.back

pub returns-in-Some-clause-words : goal.returns-in-Some-clause-words
returns-in-Some-clause-words c =
    let rest = c.in_ok-rest.rest.now in
    c.in_ok-rest.ensures.words ∙ word_before is_ascii_whitespace rest c.in-Some.end c.split_at-in-Some.result.0.now c.split_at-in-Some.result.1.now (sym c.in-Some.ensures)
    c.in_ok-rest.ensures.starts.1 c.split_at-in-Some.ensures.front c.split_at-in-Some.ensures.back
