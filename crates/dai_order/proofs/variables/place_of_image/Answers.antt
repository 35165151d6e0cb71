use Rattle.std.proofs.Common.{get_or, map, sym, ap, ◌∙◌, subst}
use Rattle.std.proofs.lemmas.List.{get_or-map}
use Rattle.dai_model.specs.Clause.{no_atom}
use Rattle.dai_template.specs.Atoms.{atom_of}
use Rattle.dai_order.specs.Sides.{AtomMayGo}
use Rattle.dai_order.proofs.Larger.{none_more, not_past}
use Rattle.dai_order.proofs.variables.place_of_image.Goals as goal

pub loop-place-preserved : goal.loop-place-preserved
loop-place-preserved c = λ k below.
    let inside = not_past (λ n. AtomMayGo c.args.types 0 c.args.to.now (atom_of c.args.atom.now) (get_or (map atom_of c.args.shape.now.atoms.items) n no_atom)) c.loop-place.place c.requires.among.0 c.args.shape.now.atoms.items atom_of c.requires.among.1.below c.requires.among.1.is c.loop-place.invariant in
    none_more (λ n. AtomMayGo c.args.types 0 c.args.to.now (atom_of c.args.atom.now) (get_or (map atom_of c.args.shape.now.atoms.items) n no_atom)) c.loop-place.place k below
    (λ before. c.loop-place.invariant k before)
    (λ may. let yes = c.atom_may_go.ensures.exact (subst (λ b. AtomMayGo c.args.types 0 c.args.to.now (atom_of c.args.atom.now) b) (get_or-map atom_of c.args.shape.now.atoms.items c.loop-place.place c.index.result.now no_atom inside ∙ ap atom_of (sym c.index.ensures)) may) in let wrong = c.loop-place-test.true in let none : ⊥ = cc in none)
