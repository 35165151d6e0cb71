use Rattle.std.proofs.Common.{ℕ, List, ◌++◌, ◌∙◌, ap}
use Rattle.dai_template.specs.Atoms.{lists_of}
use Rattle.dai_print.proofs.Pieces.{list_at, lists_below, joined_more, gap_more}
use Rattle.dai_print.proofs.joining.add_joined.Goals as goal

pub loop-piece-preserved : goal.loop-piece-preserved
loop-piece-preserved c =
    let below = lists_below c.args.pieces.now c.loop-piece.piece-index c.loop-piece-test.true in
    let is = list_at c.args.pieces.now c.loop-piece.piece-index c.piece-item.result c.loop-piece-test.true c.piece-item.is in
    record {
      text = joined_more c.args.between.now c.loop-piece.gap.now (lists_of c.args.pieces.now) c.loop-piece.piece-index c.piece-item.result.items c.args.text.now.items c.loop-piece.text.items c.extend_from_slice.new.self.items _ below is c.loop-piece.invariant.text c.loop-piece.invariant.gap c.in_ok-extend_from_slice.ensures.items (c.in_ok-extend_from_slice-2.ensures.items ∙ ap (λ (t : List ℕ). c.extend_from_slice.new.self.items ++ t) c.deref.ensures.value);
      gap = gap_more c.args.between.now (lists_of c.args.pieces.now) c.loop-piece.piece-index c.piece-item.result.items below is;
    }
