use Rattle.std.proofs.Common.{◌∙◌, None, Option, ℕ, refl}
use Rattle.dai_trail.proofs.Resolutions.{all_ok, marks_begin}
use Rattle.dai_trail.proofs.analysis.begin.Goals as goal

pub returns-clause-marks : goal.returns-clause-marks
returns-clause-marks c =
    let none : Option ℕ = None in
    all_ok c.mark_clause.result c.mark_clause.ensures.stamps c.mark_clause.ensures.listed c.mark_clause.ensures.more c.mark_clause.ensures.covered
    (λ stamps listed more covered. record {
      stamps = stamps;
      listed = listed;
      refute = marks_begin c.args.cnf.now c.args.trail.now c.mark_clause.new.self c.in-Some.codes.now none refl c.requires.sound.trail c.requires.sound.forced c.in-Some.ensures covered;
    })

pub returns-clause-named : goal.returns-clause-named
returns-clause-named c =
    all_ok c.mark_clause.result c.mark_clause.ensures.stamps c.mark_clause.ensures.listed c.mark_clause.ensures.more c.mark_clause.ensures.covered
    (λ stamps listed more covered. more.named ∙ c.if-not-restart.ensures.unnamed refl)
