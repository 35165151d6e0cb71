use Rattle.std.proofs.Common.{◌≡◌, subst}
use Rattle.dai_model.specs.Subsumption.{IsCanonical}
use Rattle.dai_template.specs.Spaces.{clause_of}
use Rattle.dai_template.proofs.Parts.{added_none, not_none}
use Rattle.dai_template.proofs.Sought.{some_weaker}
use Rattle.dai_template.proofs.space.Space.add_canonical.Goals as goal

pub returns-else-is_none : goal.returns-else-is_none
returns-else-is_none c = λ P B h.
    added_none P B c.args.self.now (λ d. d ≡ clause_of c.args.self.now c.args.clause.now) c.args.clauses.now.items
    (λ d t canonical e. not_none P B c.args.self.now c.args.clause.now c.smaller.result c.is_none.result c.is_none.ensures c.if-is_none.false (some_weaker c.smaller.result _ _ (λ smaller k. k P B h) c.smaller.ensures.smaller) (subst (IsCanonical P B) e canonical))
