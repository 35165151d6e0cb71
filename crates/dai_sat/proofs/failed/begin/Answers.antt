use Rattle.std.proofs.Common.{◌≡◌, ◌++◌, ◌∷◌, [], ap, ◌∙◌, refl}
use Rattle.dai_trail.proofs.Resolutions.{marks_fail}
use Rattle.dai_sat.proofs.failed.begin.Goals as goal

pub returns-clause-marks : goal.returns-clause-marks
returns-clause-marks c = λ t.
    let named : c.cover.new.self.named.items ≡ c.args.code ∷ [] =
    c.in_ok-cover.ensures.more.named ∙ c.in_ok-name.ensures.names.named ∙ ap (λ xs. xs ++ c.args.code ∷ []) (c.if-not-restart.ensures.unnamed refl) in
    record {
      stamps = c.in_ok-cover.ensures.stamps;
      listed = c.in_ok-cover.ensures.listed;
      refute = marks_fail c.args.cnf.now c.args.trail.now c.cover.new.self c.args.code c.requires.sound.trail c.requires.sound.forced named c.in_ok-cover.ensures.covered;
    }
