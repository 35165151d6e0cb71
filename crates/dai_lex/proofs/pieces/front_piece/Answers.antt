use Rattle.std.proofs.Common.{sym, ◌∙◌}
use Rattle.dai_lex.specs.Pieces.{blank, comment, unknown}
use Rattle.dai_lex.proofs.pieces.front_piece.Goals as goal

pub returns-then-is_blank : goal.returns-then-is_blank
returns-then-is_blank c = blank (sym c.is_blank.ensures ∙ c.if-is_blank.true)

pub returns-then-first-eq35 : goal.returns-then-first-eq35
returns-then-first-eq35 c = comment c.if-first-eq35.true c.line_len.ensures

pub returns-in-None : goal.returns-in-None
returns-in-None c = unknown (record {
  some = c.requires;
  no_blank = sym c.is_blank.ensures ∙ c.if-is_blank.false;
  no_comment = c.if-first-eq35.false;
  no_word = sym c.begins_word.ensures ∙ c.if-begins_word.false;
  no_sign = c.in-None.ensures;
})
