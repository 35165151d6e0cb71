use Rattle.std.proofs.Common.{ap}
use Rattle.dai_logic.specs.Protocols.{protocol_of}
use Rattle.dai_logic.specs.Trees.{term_of}
use Rattle.dai_ground.proofs.Placed.{individual_answer, parameter_answer, choice_answer}
use Rattle.dai_ground.proofs.candidates.candidates.Goals as goal

pub returns-in-Ind : goal.returns-in-Ind
returns-in-Ind c =
    individual_answer (protocol_of c.args.scene.now.protocol.now) c.args.scene.now.frame.now c.args.scene.now.picture.now c.args.binding.now (term_of c.args.term) c.in-Ind.ind c.row.result.now c.slots_of.result (ap term_of c.in-Ind.is) c.row.ensures c.slots_of.ensures

pub returns-in-Par : goal.returns-in-Par
returns-in-Par c =
    parameter_answer (protocol_of c.args.scene.now.protocol.now) c.args.scene.now.frame.now c.args.scene.now.picture.now c.args.binding.now (term_of c.args.term) c.in-Par.par c.row-in-Par.result.now c.slots_of-in-Par.result (ap term_of c.in-Par.is) c.row-in-Par.ensures c.slots_of-in-Par.ensures

pub returns-in-Loc : goal.returns-in-Loc
returns-in-Loc c =
    choice_answer (protocol_of c.args.scene.now.protocol.now) c.args.scene.now.frame.now c.args.scene.now.picture.now c.args.binding.now (term_of c.args.term) c.in-Loc.loc c.row-in-Loc.result.now c.slots_of-in-Loc.result (ap term_of c.in-Loc.is) c.row-in-Loc.ensures c.slots_of-in-Loc.ensures
