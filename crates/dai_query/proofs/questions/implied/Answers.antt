use Rattle.std.proofs.Common.{None, map, sym, subst}
use Rattle.dai_model.specs.Sizes.{needed_for_implied}
use Rattle.dai_model.specs.Classes.{all_sizes}
use Rattle.dai_cut.specs.Small.{IsTrueGiven, bound_counts}
use Rattle.dai_cut.proofs.SmallModel.{enough_length}
use Rattle.dai_logic.specs.Protocols.{protocol_of}
use Rattle.dai_logic.specs.Trees.{formula_of}
use Rattle.dai_logic.proofs.Accepted.{is_accepted}
use Rattle.dai_query.specs.Verdicts.{Decides, IsRefutation}
use Rattle.dai_query.proofs.Verdicts.{given_verdict, inhabited_for_implied, closed_claims}
use Rattle.dai_query.proofs.questions.implied.Goals as goal

pub ask-requires-clause-premises : goal.ask-requires-clause-premises
ask-requires-clause-premises c = closed_claims (protocol_of c.args.protocol.now) (map formula_of c.args.premises.now) c.requires.premises

pub ask-requires-clause-one_each : goal.ask-requires-clause-one_each
ask-requires-clause-one_each c =
    let P = protocol_of c.args.protocol.now in
    enough_length P (needed_for_implied P (bound_counts P (formula_of c.args.goal.now))) c.args.sizes.now c.requires.enough

pub ask-requires-clause-inhabited : goal.ask-requires-clause-inhabited
ask-requires-clause-inhabited c = inhabited_for_implied (protocol_of c.args.protocol.now) (formula_of c.args.goal.now) c.args.sizes.now c.requires.enough

pub returns : goal.returns
returns c =
    let P = protocol_of c.args.protocol.now in
    let premises = map formula_of c.args.premises.now in
    let f = formula_of c.args.goal.now in
    subst (Decides (IsTrueGiven all_sizes P premises f) (IsRefutation P None premises f)) (sym c.verdict.ensures)
    (given_verdict P premises f c.args.sizes.now c.in_ok-answer.answer (is_accepted c.args.protocol.now) c.requires.premises c.requires.goal c.requires.enough c.in_ok-answer.ensures)
