use Rattle.std.proofs.Common.{◌≡◌, Some, subst, arith}
use Rattle.dai_dimacs.specs.Drafts.{AreRead}
use Rattle.dai_dimacs.proofs.Texts.{ends_early}
use Rattle.dai_dimacs.proofs.read.finish.Goals as goal

pub returns-in_default : goal.returns-in_default
returns-in_default c =
    let d = c.in_ok-draft.draft in
    let is : c.args.draft ≡ Some d = c.in_ok-draft.was in
    λ text h. ends_early text d.cnf d.missing d.clause.items (omega (arith, c.in_default)) (subst (AreRead text) is h)
