use Rattle.std.proofs.Common.{arith}
use Rattle.std.proofs.lemmas.List.{length-map}
use Rattle.dai_logic.specs.Tables.{structure_of}
use Rattle.dai_template.specs.Atoms.{atom_of}
use Rattle.dai_template.specs.Meeting.{IsValued}
use Rattle.dai_template.proofs.Truth.{literal_is, atom_is}
use Rattle.dai_template.proofs.meeting.is_true.Goals as goal

pub value-requires : goal.value-requires
value-requires c = (c.requires.valued.0, atom_is (λ a. IsValued c.requires.valued.0 c.args.s.now c.args.values.now a) c.args.shape.now.atoms.items c.args.literal c.from.result c.index.result.now c.requires.literal c.from.ensures c.index.ensures c.requires.valued.1)

pub returns : goal.returns
returns c = λ P h.
    let long = length-map c.args.shape.now.atoms.items atom_of in
    let inside = c.requires.literal in
    literal_is (structure_of P c.args.s.now) c.args.values.now c.args.shape.now.atoms.items c.args.literal c.from.result c.index.result.now c.value.result c.from.ensures (omega (arith, long, inside)) c.index.ensures
    (c.value.ensures P (atom_is (λ a. IsValued P c.args.s.now c.args.values.now a) c.args.shape.now.atoms.items c.args.literal c.from.result c.index.result.now c.requires.literal c.from.ensures c.index.ensures h))
