use Rattle.std.proofs.Common.{◌≡◌, ◌+◌, length, arith, refl}
use Rattle.std.proofs.lemmas.Result.{err_from_is_err_and}
use Rattle.dai_lex.specs.Tokens.{IsBadAt, gap, token}
use Rattle.dai_lex.proofs.Order.{gap_at, token_at, bad_at, within_rest, bad_in_rest, reads_token, placed, reads_so_far}
use Rattle.dai_lex.proofs.lexer.lex.Goals as goal

pub loop-at-preserved-in-Gap : goal.loop-at-preserved-in-Gap
loop-at-preserved-in-Gap c = record {
  within = within_rest c.args.bytes.now c.loop-at.at c.in-Gap.len c.loop-at.invariant.within c.in-Gap.ensures.within.1;
  reads = λ tokens to reads. c.loop-at.invariant.reads tokens to (gap (gap_at c.args.bytes.now c.loop-at.at _ c.in-Gap.ensures.piece) reads);
}

pub loop-at-preserved : goal.loop-at-preserved
loop-at-preserved c = record {
  within = within_rest c.args.bytes.now c.loop-at.at c.in-Token.len c.loop-at.invariant.within c.in-Token.ensures.within.1;
  reads = λ tokens to reads.
      reads_token c.loop-at.tokens.items _ tokens c.push.new.self.items c.in_ok-push-in-Token.ensures.items
      (c.loop-at.invariant.reads _ to (token (token_at c.args.bytes.now c.loop-at.at _ _ c.in-Token.ensures.piece) reads));
}

pub returns-in_err-push-in-Token-clause-bad : goal.returns-in_err-push-in-Token-clause-bad
returns-in_err-push-in-Token-clause-bad c =
    let p = err_from_is_err_and c.from_residual.result c.from_residual.ensures.1 in rw (p.1, p.2) tt

pub returns-in-Bad-clause-bad : goal.returns-in-Bad-clause-bad
returns-in-Bad-clause-bad c =
    let bad : IsBadAt c.args.bytes.now (c.loop-at.at + c.in-Bad.offset) =
    record {
      tokens = c.loop-at.tokens.items;
      reached = c.loop-at.at;
      offset = c.in-Bad.offset;
      reads = reads_so_far c.args.bytes.now c.loop-at.at c.loop-at.tokens.items c.loop-at.invariant.reads;
      bad = bad_at c.args.bytes.now c.loop-at.at c.in-Bad.offset c.in-Bad.ensures.piece;
      place = refl;
    } in
    (bad, bad_in_rest c.args.bytes.now c.loop-at.at c.in-Bad.offset c.in-Bad.ensures.within)

pub returns-clause-tokens : goal.returns-clause-tokens
returns-clause-tokens c =
    let end : c.loop-at.at ≡ length c.args.bytes.now = omega arith in
    rw (← end) (reads_so_far c.args.bytes.now c.loop-at.at c.loop-at.tokens.items c.loop-at.invariant.reads)

pub returns-clause-placed : goal.returns-clause-placed
returns-clause-placed c =
    let end : c.loop-at.at ≡ length c.args.bytes.now = omega arith in
    placed c.args.bytes.now c.loop-at.tokens.items
    (rw (← end) (reads_so_far c.args.bytes.now c.loop-at.at c.loop-at.tokens.items c.loop-at.invariant.reads))
