use Rattle.std.proofs.Common.{◌*◌, ◌+◌, ◌%◌, get_or, map, arith}
use Rattle.std.proofs.lemmas.List.{length-map}
use Rattle.dai_template.specs.Atoms.{atom_of}
use Rattle.dai_template.proofs.Truth.{half}
use Rattle.dai_order.proofs.Lessening.{preimage_more, preimage_room, preimage_here, atom_read}
use Rattle.dai_order.proofs.parts.preimages.Goals as goal

pub put-requires : goal.put-requires
put-requires c = preimage_room c.args.types c.args.to.now (map atom_of c.args.from.now.atoms.items) (map atom_of c.args.into.now.atoms.items) c.args.literals.now c.loop-literal.found.items c.loop-literal.literal-index c.loop-literal-test.true c.requires.few c.loop-literal.invariant

pub loop-literal-preserved : goal.loop-literal-preserved
loop-literal-preserved c =
    let k = c.loop-literal.literal-index in
    let l = get_or c.args.literals.now k 0 in
    let atom = atom_read c.args.into.now.atoms.items l c.from.result c.index.result.now c.from.ensures (half c.args.literals.now k c.args.into.now.atoms.items c.requires.inside c.loop-literal-test.true) c.index.ensures in
    let found = c.in_ok-place.ensures.some in
    let long = length-map c.args.from.now.atoms.items atom_of in
    preimage_more c.args.types c.args.to.now (map atom_of c.args.from.now.atoms.items) (map atom_of c.args.into.now.atoms.items) c.args.literals.now c.loop-literal.found.items c.put.new.numbers.items k (2 * c.in_ok-place.place + l % 2) c.loop-literal-test.true c.loop-literal.invariant
    (preimage_here c.args.types c.args.to.now (map atom_of c.args.from.now.atoms.items) (map atom_of c.args.into.now.atoms.items) (atom_of c.index.result.now) c.in_ok-place.place l (let a = found.0 in omega (arith, a, long)) atom found.1)
    c.put.ensures
