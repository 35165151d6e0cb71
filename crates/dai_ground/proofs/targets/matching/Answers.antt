use Rattle.std.proofs.Common.{map, rules, sym, ◌∙◌, subst}
use Rattle.dai_circuit.specs.Circuits.{AreBitsBelow}
use Rattle.dai_circuit.proofs.Extensions.{extends_self}
use Rattle.dai_logic.specs.Protocols.{protocol_of}
use Rattle.dai_logic.specs.Trees.{term_of, formula_of}
use Rattle.dai_ground.proofs.Reaches.{target_below, matching_finds}
use Rattle.dai_ground.proofs.targets.matching.Goals as goal

pub returns-in_err-bits : goal.returns-in_err-bits
returns-in_err-bits c = record { extends = extends_self c.args.circuit.now; answer = search rules }

pub all-requires : goal.all-requires
all-requires c =
    subst (AreBitsBelow c.args.circuit.now.vars) (sym (c.as_slice.ensures.value ∙ c.in_ok-bits.ensures))
    (target_below (protocol_of c.args.scene.now.protocol.now) c.args.scene.now.frame.now c.args.scene.now.picture.now c.args.circuit.now.vars (map term_of c.args.update.now.target.now) c.args.update.now.sorts.now c.args.tuple.now (formula_of c.args.update.now.body.now) c.requires.update (search (rules, c.requires.tuple)))

pub returns : goal.returns
returns c =
    matching_finds (protocol_of c.args.scene.now.protocol.now) c.args.scene.now.frame.now c.args.scene.now.picture.now (map term_of c.args.update.now.target.now) c.args.update.now.sorts.now c.args.tuple.now (formula_of c.args.update.now.body.now) c.args.circuit.now c.all.new.self c.as_slice.result.now c.all.result c.requires.update (search (rules, c.requires.tuple)) (c.as_slice.ensures.value ∙ c.in_ok-bits.ensures) c.all.ensures
