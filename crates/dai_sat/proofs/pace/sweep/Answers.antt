use Rattle.std.proofs.Common.{arith, ◌≡◌, ◌<◌, ◌++◌, ◌∷◌, [], ℕ, List, length, sym, subst}
use Rattle.dai_trail.specs.Trail.{AreImplied}
use Rattle.dai_trail.specs.Marks.{IsImplied}
use Rattle.dai_trail.proofs.Encodings.{learned_implied}
use Rattle.dai_trail.proofs.Turns.{implied_push}
use Rattle.dai_sat.proofs.pace.sweep.Goals as goal

pub loop-number-preserved : goal.loop-number-preserved
loop-number-preserved c =
    let P : List (List ℕ) → Type 0 = λ db. AreImplied c.args.cnf.now db in
    let Q : List ℕ → Type 0 = λ codes. IsImplied c.args.cnf.now codes in
    let e : c.add.new.self ≡ c.loop-number.kept ++ c.list-codes.result.now ∷ [] = c.in_ok-add.ensures.ok in
    let l : c.loop-number.number < length c.args.learned.now = omega arith in
    record {
      marks = c.loop-number.invariant.marks;
      kept = subst P (sym e) (implied_push c.args.cnf.now c.loop-number.kept c.list-codes.result.now c.loop-number.invariant.kept
          (subst Q (sym c.list-codes.ensures) (learned_implied c.args.cnf.now c.args.learned.now c.loop-number.number c.requires.sound.implied l)));
    }
