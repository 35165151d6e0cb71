use Rattle.std.proofs.Common.{◌≡◌, get_or, rules, true, arith}
use Rattle.std.specs.Char.{is_ascii_digit}
use Rattle.dai_lex.specs.Pieces.{IsWord, word, broken}
use Rattle.dai_lex.proofs.PieceLemmas.{digit_word}
use Rattle.dai_lex.proofs.pieces.word_piece.Goals as goal

pub returns-then-digits-len : goal.returns-then-digits-len
returns-then-digits-len c =
    let digit : is_ascii_digit (get_or c.args.bytes.now 0 0) ≡ true = search rules in
    broken (record { begins = c.requires; longest = c.word_len-len.ensures }) digit c.digits_len-digits.ensures c.if-digits-len.true

pub returns-then-is_ascii_digit : goal.returns-then-is_ascii_digit
returns-then-is_ascii_digit c =
    let digit : is_ascii_digit (get_or c.args.bytes.now 0 0) ≡ true = search rules in
    let w : IsWord c.args.bytes.now c.word_len-len.result = record { begins = c.requires; longest = c.word_len-len.ensures } in
    word w (digit_word _ _ _ w digit c.digits_len-digits.ensures (omega arith))
