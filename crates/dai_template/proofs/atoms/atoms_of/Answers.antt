use Rattle.std.proofs.Common.{◌≡◌, ◌≤◌, ◌<◌, List, [], ◌++◌, get_or, length, map, sym, ◌∙◌, ap, subst, arith}
use Rattle.std.specs.List.{flat_map, enumerate_from}
use Rattle.std.proofs.lemmas.List.{append-nil}
use Rattle.dai_model.specs.Clause.{relation_atoms, individual_atoms}
use Rattle.dai_model.proofs.Folds.{appended_part}
use Rattle.dai_logic.specs.Parts.{relation_of, individual_of}
use Rattle.dai_logic.specs.declared.protocol.RelInfo.{RelInfo}
use Rattle.dai_logic.specs.declared.protocol.IndInfo.{IndInfo}
use Rattle.dai_template.specs.Atoms.{atom_of}
use Rattle.dai_template.proofs.Accepted.{arguments_inside, individual_inside, few_individuals}
use Rattle.dai_template.proofs.Views.{enumerated_at, enumerated_below, enumerated_all}
use Rattle.dai_template.proofs.atoms.atoms_of.Goals as goal

pub add_tuples-requires : goal.add_tuples-requires
add_tuples-requires c =
    let below = subst (λ (xs : List RelInfo). c.loop-number.number < length xs) c.deref-relation-items.ensures.value c.loop-number-test.true in
    let is = subst (λ (xs : List RelInfo). c.relation-item.result ≡ get_or xs c.loop-number.number c.relation-item.result) c.deref-relation-items.ensures.value c.relation-item.is in
    λ k d inside. let here = arguments_inside c.args.protocol.now c.loop-number.number c.relation-item.result k d below is inside in let same = c.requires in omega (arith, here, same)

pub loop-number-preserved : goal.loop-number-preserved
loop-number-preserved c =
    let below = subst (λ (xs : List RelInfo). c.loop-number.number < length xs) c.deref-relation-items.ensures.value c.loop-number-test.true in
    let is = subst (λ (xs : List RelInfo). c.relation-item.result ≡ get_or xs c.loop-number.number c.relation-item.result) c.deref-relation-items.ensures.value c.relation-item.is in
    let rels = c.args.protocol.now.relations.items in
    appended_part (relation_atoms c.args.counts.now) (enumerate_from 0 (map relation_of rels)) c.loop-number.number (c.loop-number.number, relation_of c.relation-item.result) [] (map atom_of c.loop-number.atoms.items) (map atom_of c.add_tuples.new.atoms.items)
    (enumerated_below relation_of rels c.loop-number.number below)
    (enumerated_at relation_of rels c.loop-number.number c.relation-item.result below is)
    c.in_ok-add_tuples.ensures
    c.loop-number.invariant

pub loop-number-2-init : goal.loop-number-2-init
loop-number-2-init c =
    let rels = c.args.protocol.now.relations.items in
    let past = subst (λ (xs : List RelInfo). length xs ≤ c.loop-number.number) c.deref-relation-items.ensures.value c.loop-number-test.false in
    let start = flat_map (relation_atoms c.args.counts.now) (enumerate_from 0 (map relation_of rels)) in
    c.loop-number.invariant ∙ (ap (flat_map (relation_atoms c.args.counts.now)) (enumerated_all relation_of rels c.loop-number.number past) ∙ sym (append-nil start))

pub overflow_cast-number-in-loop-number-2 : goal.overflow_cast-number-in-loop-number-2
overflow_cast-number-in-loop-number-2 c =
    let below = subst (λ (xs : List IndInfo). c.loop-number-2.number < length xs) c.deref-individual-items.ensures.value c.loop-number-2-test.true in
    let few = few_individuals c.args.protocol.now in
    omega (arith, below, few)

pub add_equations-requires : goal.add_equations-requires
add_equations-requires c =
    let below = subst (λ (xs : List IndInfo). c.loop-number-2.number < length xs) c.deref-individual-items.ensures.value c.loop-number-2-test.true in
    let is = subst (λ (xs : List IndInfo). c.individual-item.result ≡ get_or xs c.loop-number-2.number c.individual-item.result) c.deref-individual-items.ensures.value c.individual-item.is in
    let here = individual_inside c.args.protocol.now c.loop-number-2.number c.individual-item.result below is in
    let same = c.requires in
    omega (arith, here, same)

pub loop-number-2-preserved : goal.loop-number-2-preserved
loop-number-2-preserved c =
    let below = subst (λ (xs : List IndInfo). c.loop-number-2.number < length xs) c.deref-individual-items.ensures.value c.loop-number-2-test.true in
    let is = subst (λ (xs : List IndInfo). c.individual-item.result ≡ get_or xs c.loop-number-2.number c.individual-item.result) c.deref-individual-items.ensures.value c.individual-item.is in
    let inds = c.args.protocol.now.individuals.items in
    let start = flat_map (relation_atoms c.args.counts.now) (enumerate_from 0 (map relation_of c.args.protocol.now.relations.items)) in
    appended_part (individual_atoms c.args.counts.now) (enumerate_from 0 (map individual_of inds)) c.loop-number-2.number (c.loop-number-2.number, individual_of c.individual-item.result) start (map atom_of c.loop-number-2.atoms.items) (map atom_of c.add_equations.new.atoms.items)
    (enumerated_below individual_of inds c.loop-number-2.number below)
    (enumerated_at individual_of inds c.loop-number-2.number c.individual-item.result below is)
    c.in_ok-add_equations.ensures
    c.loop-number-2.invariant

pub returns : goal.returns
returns c =
    let inds = c.args.protocol.now.individuals.items in
    let past = subst (λ (xs : List IndInfo). length xs ≤ c.loop-number-2.number) c.deref-individual-items.ensures.value c.loop-number-2-test.false in
    let start = flat_map (relation_atoms c.args.counts.now) (enumerate_from 0 (map relation_of c.args.protocol.now.relations.items)) in
    c.loop-number-2.invariant ∙ ap (λ xs. start ++ flat_map (individual_atoms c.args.counts.now) xs) (enumerated_all individual_of inds c.loop-number-2.number past)
