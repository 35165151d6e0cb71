use Rattle.std.proofs.Common.{◌≡◌, ◌+◌, ◌-◌, take, drop, arith, inl, inr, refl, ap, subst, Err}
use Rattle.dai_base.specs.Sink.{Appends, IsPutOf}
use Rattle.dai_base.specs.declared.sink.PutError.{PutError}
use Rattle.dai_top.proofs.Puts.{put_more, put_part, left_length, rises_from}
use Rattle.dai_top.proofs.console.put_lines.Goals as goal

pub loop-done-preserved : goal.loop-done-preserved
loop-done-preserved g c =
    let done = c.loop-done.done in
    let n = c.line_length.result in
    let left = left_length done c.args.text.now c.loop-done.invariant.within in
    let fits = c.line_length.ensures.within in
    let more = c.loop-done-test.true in
    let before = c.loop-done.invariant.counts in
    let after = c.in-Ok.ensures.faults_stay.0 in
    let same : done + ((done + n) - done) ≡ done + n = omega arith in
    record {
      written = subst (λ m. Appends (g.S.Sink.written c.args.sink.now) (g.S.Sink.written c.put.new.self) (take m c.args.text.now)) same
          (put_more (g.S.Sink.written c.args.sink.now) (g.S.Sink.written c.loop-done.sink) (g.S.Sink.written c.put.new.self) c.args.text.now done ((done + n) - done) c.loop-done.invariant.written c.in-Ok.ensures.written);
      within = omega (arith, left, fits, more);
      counts = omega (arith, before, after);
    }

pub returns-in-Err-Failed : goal.returns-in-Err-Failed
returns-in-Err-Failed g c =
    let done = c.loop-done.done in
    let k = (done + c.line_length.result) - done in
    let P : PutError → Type 0 = λ e. IsPutOf (take k (drop done c.args.text.now)) (g.S.Sink.written c.loop-done.sink) (g.S.Sink.written c.put.new.self) (Err e) in
    let part = subst P c.in-Err-Failed.field-0-is c.in-Err-Failed.ensures.written in
    let rose = c.in-Err-Failed.ensures.failed (ap Err c.in-Err-Failed.field-0-is) in
    inr (inl (
      refl,
      rises_from (g.S.Sink.faults c.args.sink.now) (g.S.Sink.faults c.loop-done.sink) (g.S.Sink.faults c.put.new.self) c.loop-done.invariant.counts rose,
      put_part (g.S.Sink.written c.args.sink.now) (g.S.Sink.written c.loop-done.sink) (g.S.Sink.written c.put.new.self) c.args.text.now done k c.loop-done.invariant.written part,
    ))
