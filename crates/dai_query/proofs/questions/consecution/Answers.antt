use Rattle.std.proofs.Common.{Some, map, sym, subst}
use Rattle.dai_model.specs.Sizes.{needed_for_block}
use Rattle.dai_model.specs.Classes.{all_sizes}
use Rattle.dai_cut.specs.Small.{IsTrueAfter, bound_counts}
use Rattle.dai_cut.proofs.SmallModel.{enough_length}
use Rattle.dai_logic.specs.Protocols.{protocol_of}
use Rattle.dai_logic.specs.Trees.{formula_of}
use Rattle.dai_logic.proofs.Accepted.{is_accepted}
use Rattle.dai_query.specs.Verdicts.{Decides, IsRefutation}
use Rattle.dai_query.proofs.Verdicts.{after_verdict, action_at, action_known, inhabited_for_block, closed_claims}
use Rattle.dai_query.proofs.questions.consecution.Goals as goal

pub ask-requires-clause-known : goal.ask-requires-clause-known
ask-requires-clause-known c = action_known (protocol_of c.args.protocol.now) c.args.action c.requires.action

pub ask-requires-clause-premises : goal.ask-requires-clause-premises
ask-requires-clause-premises c = closed_claims (protocol_of c.args.protocol.now) (map formula_of c.args.premises.now) c.requires.premises

pub ask-requires-clause-one_each : goal.ask-requires-clause-one_each
ask-requires-clause-one_each c =
    let P = protocol_of c.args.protocol.now in
    let own = action_at P c.args.action c.requires.action in
    enough_length P (needed_for_block P own.0.block (bound_counts P (formula_of c.args.goal.now))) c.args.sizes.now (c.requires.enough own.0 own.1)

pub ask-requires-clause-inhabited : goal.ask-requires-clause-inhabited
ask-requires-clause-inhabited c =
    let P = protocol_of c.args.protocol.now in
    let own = action_at P c.args.action c.requires.action in
    inhabited_for_block P own.0.block (formula_of c.args.goal.now) c.args.sizes.now (c.requires.enough own.0 own.1)

pub returns : goal.returns
returns c =
    let P = protocol_of c.args.protocol.now in
    let premises = map formula_of c.args.premises.now in
    let f = formula_of c.args.goal.now in
    λ exported is.
    subst (Decides (IsTrueAfter all_sizes P premises exported.block f) (IsRefutation P (Some exported.block) premises f)) (sym c.verdict.ensures)
    (after_verdict P c.args.action exported premises f c.args.sizes.now c.in_ok-answer.answer is (is_accepted c.args.protocol.now) c.requires.premises c.requires.goal (c.requires.enough exported is) c.in_ok-answer.ensures)
