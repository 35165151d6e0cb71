use Rattle.std.proofs.Common.{◌≡◌, [], Some, map, sym, ap, ◌∙◌, subst}
use Rattle.dai_model.specs.Sizes.{needed_for_block}
use Rattle.dai_model.specs.Classes.{all_sizes}
use Rattle.dai_cut.specs.Small.{IsTrueAtFirst, bound_counts}
use Rattle.dai_cut.proofs.SmallModel.{enough_length}
use Rattle.dai_logic.specs.Protocols.{protocol_of}
use Rattle.dai_logic.specs.Trees.{formula_of}
use Rattle.dai_logic.proofs.Accepted.{is_accepted}
use Rattle.dai_ground.specs.Answers.{IsAnswerTo}
use Rattle.dai_query.specs.Verdicts.{Decides, IsRefutation}
use Rattle.dai_query.proofs.Verdicts.{first_verdict, inhabited_for_block}
use Rattle.dai_query.proofs.questions.initiation.Goals as goal

pub ask-requires-clause-one_each : goal.ask-requires-clause-one_each
ask-requires-clause-one_each c =
    let P = protocol_of c.args.protocol.now in
    enough_length P (needed_for_block P P.init (bound_counts P (formula_of c.args.goal.now))) c.args.sizes.now c.requires.enough

pub ask-requires-clause-inhabited : goal.ask-requires-clause-inhabited
ask-requires-clause-inhabited c =
    let P = protocol_of c.args.protocol.now in
    inhabited_for_block P P.init (formula_of c.args.goal.now) c.args.sizes.now c.requires.enough

pub returns : goal.returns
returns c =
    let P = protocol_of c.args.protocol.now in
    let f = formula_of c.args.goal.now in
    let answer = c.in_ok-answer.answer in
    let none : map formula_of c.deref.result.now ≡ [] = ap (map formula_of) (c.deref.ensures.value ∙ c.new-premises.ensures.items) in
    subst (Decides (IsTrueAtFirst all_sizes P f) (IsRefutation P (Some P.init) [] f)) (sym c.verdict.ensures)
    (first_verdict P f c.args.sizes.now answer (is_accepted c.args.protocol.now) c.requires.goal c.requires.enough
    (subst (λ fs. IsAnswerTo P (Some P.init) fs f c.args.sizes.now answer) none c.in_ok-answer.ensures))
