use Rattle.std.proofs.Common.{◌<◌, length, sym, subst}
use Rattle.dai_logic.specs.Protocols.{protocol_of}
use Rattle.dai_logic.specs.Trees.{term_of}
use Rattle.dai_logic.proofs.Writing.{not_variable}
use Rattle.dai_ground.proofs.Reaches.{target_inside}
use Rattle.dai_ground.proofs.targets.match_bit.Goals as goal

pub bounds-standing_row-slot : goal.bounds-standing_row-slot
bounds-standing_row-slot c =
    subst (λ row. c.args.slot < length row) (sym c.standing_row.ensures)
    (target_inside (protocol_of c.args.scene.now.protocol.now) c.args.scene.now.frame.now c.args.scene.now.picture.now c.requires.0 (term_of c.args.term) c.requires.1 c.args.slot c.requires.2 (not_variable c.args.term c.in_default.not-Var))
