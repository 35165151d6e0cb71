use Rattle.std.proofs.Common.{◌<◌, length, get_or, map, sym, ap, ◌∙◌, subst, arith}
use Rattle.std.proofs.lemmas.List.{get_or-map}
use Rattle.dai_model.specs.Clause.{no_atom}
use Rattle.dai_model.proofs.Folds.{mapped_at}
use Rattle.dai_template.specs.Atoms.{atom_of}
use Rattle.dai_order.specs.Sides.{AreStored, AtomMayGo}
use Rattle.dai_order.proofs.Larger.{none_more}
use Rattle.dai_order.proofs.parts.preimage.Goals as goal

pub atom_may_go-requires-clause-stored : goal.atom_may_go-requires-clause-stored
atom_may_go-requires-clause-stored c = mapped_at AreStored atom_of c.args.from.now.atoms.items c.loop-place.place c.index.result.now c.requires.stored (let a = c.loop-place-test.true in let b = c.len-place-end.ensures in omega (arith, a, b)) c.index.ensures

pub loop-place-preserved : goal.loop-place-preserved
loop-place-preserved c = λ k below.
    let inside : c.loop-place.place < length c.args.from.now.atoms.items = let a = c.loop-place-test.true in let b = c.len-place-end.ensures in omega (arith, a, b) in
    none_more (λ n. AtomMayGo c.args.types 0 c.args.to.now (get_or (map atom_of c.args.from.now.atoms.items) n no_atom) (atom_of c.args.image.now)) c.loop-place.place k below
    (λ before. c.loop-place.invariant k before)
    (λ may. let yes = c.atom_may_go.ensures.exact (subst (λ a. AtomMayGo c.args.types 0 c.args.to.now a (atom_of c.args.image.now)) (get_or-map atom_of c.args.from.now.atoms.items c.loop-place.place c.index.result.now no_atom inside ∙ ap atom_of (sym c.index.ensures)) may) in let wrong = c.if-atom_may_go.false in let none : ⊥ = cc in none)
