use Rattle.dai_lex.proofs.PieceLemmas.{piece_within}
use Rattle.dai_lex.proofs.pieces.next_piece.Goals as goal

pub returns-clause-within : goal.returns-clause-within
returns-clause-within c = piece_within c.args.bytes.now c.front_piece.result c.front_piece.ensures
