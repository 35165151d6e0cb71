use Rattle.std.proofs.Common.{◌≡◌, ◌<◌, ◌*◌, ◌+◌, ◌/◌, ◌%◌, ℕ, List, length, get_or, sym, ap, refl, subst, arith}
use Rattle.dai_model.specs.Clause.{no_atom}
use Rattle.dai_template.specs.Atoms.{atom_of}
use Rattle.dai_order.specs.Sides.{AreStored}
use Rattle.dai_order.specs.Variables.{counts_at, atoms_at}
use Rattle.dai_order.proofs.Larger.{counts_is, atoms_is, read_atom, moved_here, image_as, moved_more, room_for}
use Rattle.dai_order.proofs.variables.moved.Goals as goal

pub place_of_image-image-requires-clause-stored : goal.place_of_image-image-requires-clause-stored
place_of_image-image-requires-clause-stored c =
    let k = c.loop-literal.literal-index in
    let m = get_or c.args.clause.now.lits.items k 0 in
    let same : get_or c.as_slice-literal-items.result.now k 0 ≡ m = ap (λ (ls : List ℕ). get_or ls k 0) c.as_slice-literal-items.ensures.value in
    let below : k < length c.args.clause.now.lits.items = let a = c.loop-literal-test.true in let e = ap length c.as_slice-literal-items.ensures.value in omega (arith, a, e) in
    let inside = c.requires.literals k 0 below in
    let rest : m % 2 < 2 = omega arith in
    let atom = read_atom c.args.space.now c.args.clause.now.shape c.index-from.result.now c.index-atom.result.now c.from.result (get_or c.as_slice-literal-items.result.now k 0) m c.requires.shape c.index-from.ensures c.index-atom.ensures c.from.ensures same inside in
    subst AreStored (sym atom) (c.requires.stored (m / 2) no_atom (omega (arith, inside, rest)))

pub place_of_image-image-requires-clause-among : goal.place_of_image-image-requires-clause-among
place_of_image-image-requires-clause-among c =
    let k = c.loop-literal.literal-index in
    let m = get_or c.args.clause.now.lits.items k 0 in
    let same : get_or c.as_slice-literal-items.result.now k 0 ≡ m = ap (λ (ls : List ℕ). get_or ls k 0) c.as_slice-literal-items.ensures.value in
    let below : k < length c.args.clause.now.lits.items = let a = c.loop-literal-test.true in let e = ap length c.as_slice-literal-items.ensures.value in omega (arith, a, e) in
    let atom = read_atom c.args.space.now c.args.clause.now.shape c.index-from.result.now c.index-atom.result.now c.from.result (get_or c.as_slice-literal-items.result.now k 0) m c.requires.shape c.index-from.ensures c.index-atom.ensures c.from.ensures same (c.requires.literals k 0 below) in
    let into = atoms_is c.args.space.now c.args.larger c.index-into.result.now c.requires.larger_inside c.index-into.ensures in
    let types : c.len.result ≡ length (counts_at c.args.space.now c.args.clause.now.shape) = let a = ap length (counts_is c.args.space.now c.args.clause.now.shape c.index-from.result.now c.requires.shape c.index-from.ensures) in let b = c.len.ensures in omega (arith, a, b) in
    let found = c.requires.images k below in
    (found.0, image_as _ _ c.args.to.now _ _ _ _ found.0 (sym types) (sym into) (sym atom) found.1)

pub put-requires : goal.put-requires
put-requires c =
    let k = c.loop-literal.literal-index in
    let below : k < length c.args.clause.now.lits.items = let a = c.loop-literal-test.true in let e = ap length c.as_slice-literal-items.ensures.value in omega (arith, a, e) in
    room_for (length (counts_at c.args.space.now c.args.clause.now.shape)) c.args.to.now (atoms_at c.args.space.now c.args.clause.now.shape) (atoms_at c.args.space.now c.args.larger) c.args.clause.now.lits.items c.loop-literal.lits.items k below c.requires.few_literals c.loop-literal.invariant

pub loop-literal-preserved : goal.loop-literal-preserved
loop-literal-preserved c =
    let k = c.loop-literal.literal-index in
    let m = get_or c.args.clause.now.lits.items k 0 in
    let same : get_or c.as_slice-literal-items.result.now k 0 ≡ m = ap (λ (ls : List ℕ). get_or ls k 0) c.as_slice-literal-items.ensures.value in
    let below : k < length c.args.clause.now.lits.items = let a = c.loop-literal-test.true in let e = ap length c.as_slice-literal-items.ensures.value in omega (arith, a, e) in
    let atom = read_atom c.args.space.now c.args.clause.now.shape c.index-from.result.now c.index-atom.result.now c.from.result (get_or c.as_slice-literal-items.result.now k 0) m c.requires.shape c.index-from.ensures c.index-atom.ensures c.from.ensures same (c.requires.literals k 0 below) in
    let into = atoms_is c.args.space.now c.args.larger c.index-into.result.now c.requires.larger_inside c.index-into.ensures in
    let types : c.len.result ≡ length (counts_at c.args.space.now c.args.clause.now.shape) = let a = ap length (counts_is c.args.space.now c.args.clause.now.shape c.index-from.result.now c.requires.shape c.index-from.ensures) in let b = c.len.ensures in omega (arith, a, b) in
    let found = image_as _ _ c.args.to.now _ _ _ _ c.place_of_image-image.result types into refl c.place_of_image-image.ensures in
    moved_more (length (counts_at c.args.space.now c.args.clause.now.shape)) c.args.to.now (atoms_at c.args.space.now c.args.clause.now.shape) (atoms_at c.args.space.now c.args.larger) c.args.clause.now.lits.items c.loop-literal.lits.items c.put.new.numbers.items k (2 * c.place_of_image-image.result + get_or c.as_slice-literal-items.result.now k 0 % 2) below c.loop-literal.invariant
    (moved_here (length (counts_at c.args.space.now c.args.clause.now.shape)) c.args.to.now (atoms_at c.args.space.now c.args.clause.now.shape) (atoms_at c.args.space.now c.args.larger) (atom_of c.index-atom.result.now) c.place_of_image-image.result (get_or c.as_slice-literal-items.result.now k 0) m same atom found)
    c.put.ensures
