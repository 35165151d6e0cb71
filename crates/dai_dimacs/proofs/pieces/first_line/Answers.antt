use Rattle.std.proofs.Common.{◌==◌, sym}
use Rattle.dai_dimacs.proofs.Cuts.{whole, none_at, piece_at}
use Rattle.dai_dimacs.proofs.pieces.first_line.Goals as goal

pub returns-in-None-clause-lines : goal.returns-in-None-clause-lines
returns-in-None-clause-lines c =
    whole (λ byte. byte == 10) c.args.text.now (none_at (λ byte. byte == 10) c.args.text.now (sym c.in-None.ensures))

pub returns-in-Some-clause-lines : goal.returns-in-Some-clause-lines
returns-in-Some-clause-lines c =
    piece_at (λ byte. byte == 10) c.args.text.now c.in-Some.at c.split_at.result.0.now c.split_at-in-Some.result.1.now (sym c.in-Some.ensures)
    c.split_at.ensures.front c.split_at-in-Some.ensures.back
