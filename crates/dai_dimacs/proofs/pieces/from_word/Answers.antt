use Rattle.std.proofs.Common.{sym}
use Rattle.std.specs.Char.{is_ascii_whitespace}
use Rattle.dai_dimacs.proofs.Cuts.{blank_text, blank_upto, begins_at}
use Rattle.dai_dimacs.proofs.pieces.from_word.Goals as goal

pub returns-in-None-clause-words : goal.returns-in-None-clause-words
returns-in-None-clause-words c = blank_text is_ascii_whitespace c.args.text.now (sym c.in-None.ensures)

pub returns-in-Some-clause-words : goal.returns-in-Some-clause-words
returns-in-Some-clause-words c =
    blank_upto is_ascii_whitespace c.args.text.now c.in-Some.start c.split_at.result.1.now (sym c.in-Some.ensures) c.split_at.ensures.back

pub returns-in-Some-clause-starts : goal.returns-in-Some-clause-starts
returns-in-Some-clause-starts c =
    begins_at is_ascii_whitespace c.args.text.now c.in-Some.start c.split_at.result.1.now (sym c.in-Some.ensures) c.split_at.ensures.back
