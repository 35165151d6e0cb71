use Rattle.std.proofs.Common.{◌≡◌, ℕ, ◌++◌, List, map, take, sym, ◌∙◌, ap, refl, arith, Vec}
use Rattle.std.specs.declared.alloc.Global.{Global}
use Rattle.std.specs.Prelude.{slice_index}
use Rattle.std.specs.List.{zip}
use Rattle.std.proofs.lemmas.List.{take_all, length-map}
use Rattle.dai_model.specs.Clause.{Atom, tuple}
use Rattle.dai_model.specs.Shapes.{tuples_below}
use Rattle.dai_model.proofs.Folds.{pushed_item, map-cong}
use Rattle.dai_model.proofs.Tuples.{variable_at, variables_at, relation_atoms-tuples}
use Rattle.dai_logic.specs.Parts.{relation_of}
use Rattle.dai_template.specs.Atoms.{atom_of, variable_of, lists_of}
use Rattle.dai_template.proofs.Views.{list_at, lists_below}
use Rattle.dai_template.proofs.atoms.add_tuples.Goals as goal

pub loop-tuple-preserved : goal.loop-tuple-preserved
loop-tuple-preserved c =
    pushed_item atom_of (λ t. tuple c.args.number (variables_at c.args.relation.now.args.items t)) (lists_of c.deref-tuple-items.result.now) c.loop-tuple.tuple-index c.tuple-item.result.items (map atom_of c.args.atoms.now.items) c.loop-tuple.atoms.items _ _
    c.in_ok-push.ensures.items
    (lists_below c.deref-tuple-items.result.now c.loop-tuple.tuple-index c.loop-tuple-test.true)
    (list_at c.deref-tuple-items.result.now c.loop-tuple.tuple-index c.tuple-item.result c.loop-tuple-test.true c.tuple-item.is)
    (ap (tuple c.args.number)
    (map-cong variable_of variable_at c.in_ok-vars.vars.items (λ v. refl)
    ∙ ap (map variable_at) (c.in_ok-vars.ensures ∙ (ap (λ (xs : List ℕ). zip xs c.deref-in-loop-tuple-2.result.now) c.deref-in-loop-tuple.ensures.value ∙ ap (zip c.args.relation.now.args.items) c.deref-in-loop-tuple-2.ensures.value))))
    c.loop-tuple.invariant

pub returns : goal.returns
returns c =
    let tuples = lists_of c.deref-tuple-items.result.now in
    let of_tuple : List ℕ → Atom = λ t. tuple c.args.number (variables_at c.args.relation.now.args.items t) in
    let all : take c.loop-tuple.tuple-index tuples ≡ tuples = take_all c.loop-tuple.tuple-index tuples (let e = length-map c.deref-tuple-items.result.now (λ (v : Vec ℕ Global). v.items) in let past = c.loop-tuple-test.false in omega (arith, e, past)) in
    let same : tuples ≡ tuples_below (map (slice_index c.args.counts.now) c.args.relation.now.args.items) =
    ap lists_of c.deref-tuple-items.ensures.value
    ∙ (c.in_ok-tuples.ensures
    ∙ (ap tuples_below (c.deref-2.ensures.value ∙ c.in_ok-limits.ensures)
    ∙ ap (λ (xs : List ℕ). tuples_below (map (slice_index c.args.counts.now) xs)) c.deref.ensures.value)) in
    c.loop-tuple.invariant
    ∙ ap (λ more. map atom_of c.args.atoms.now.items ++ more) (ap (map of_tuple) (all ∙ same) ∙ sym (relation_atoms-tuples c.args.counts.now c.args.number (relation_of c.args.relation.now)))
