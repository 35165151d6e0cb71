use Rattle.std.proofs.Common.{◌≡◌, ◌+◌, ◌*◌, ℕ, List, get_or, map, sym, ap, ◌∙◌, subst, arith}
use Rattle.dai_logic.specs.Tables.{tuple_place}
use Rattle.dai_template.specs.Atoms.{variable_of, atom_of}
use Rattle.dai_template.specs.Meeting.{element_in, sorts_of}
use Rattle.dai_template.specs.Renamings.{IsPlaceable}
use Rattle.dai_template.proofs.Renamed.{fours, tuple_moves, equation_moves}
use Rattle.dai_template.proofs.canonical.renamed.Goals as goal

pub place-requires : goal.place-requires
place-requires c = subst (λ (vs : List (ℕ × ℕ)). IsPlaceable c.args.counts.now (fours 8) (map variable_of vs)) (sym c.deref.ensures.value) (tuple_moves c.requires.protocol c.args.counts.now c.requires.atoms c.args.to.now c.args.literal c.in-Tuple.rel (map variable_of c.in-Tuple.vars.items) c.requires.renamed c.requires.inside (sym (ap atom_of c.in-Tuple.is) ∙ c.requires.is)).before

pub place-requires-in-Tuple : goal.place-requires-in-Tuple
place-requires-in-Tuple c = subst (λ (vs : List (ℕ × ℕ)). IsPlaceable c.args.counts.now c.args.to.now (map variable_of vs)) (sym c.deref-in-Tuple.ensures.value) (tuple_moves c.requires.protocol c.args.counts.now c.requires.atoms c.args.to.now c.args.literal c.in-Tuple.rel (map variable_of c.in-Tuple.vars.items) c.requires.renamed c.requires.inside (sym (ap atom_of c.in-Tuple.is) ∙ c.requires.is)).after

pub moved-requires-clause-after : goal.moved-requires-clause-after
moved-requires-clause-after c =
    let first : c.place.result ≡ tuple_place c.args.counts.now (sorts_of (map variable_of c.in-Tuple.vars.items)) (map (element_in (fours 8)) (map variable_of c.in-Tuple.vars.items)) = c.place.ensures ∙ ap (λ (vs : List (ℕ × ℕ)). tuple_place c.args.counts.now (sorts_of (map variable_of vs)) (map (element_in (fours 8)) (map variable_of vs))) c.deref.ensures.value in
    let enough = (tuple_moves c.requires.protocol c.args.counts.now c.requires.atoms c.args.to.now c.args.literal c.in-Tuple.rel (map variable_of c.in-Tuple.vars.items) c.requires.renamed c.requires.inside (sym (ap atom_of c.in-Tuple.is) ∙ c.requires.is)).enough in
    omega (arith, first, enough)

pub moved-requires-clause-few : goal.moved-requires-clause-few
moved-requires-clause-few c =
    let second : c.place-in-Tuple.result ≡ tuple_place c.args.counts.now (sorts_of (map variable_of c.in-Tuple.vars.items)) (map (element_in c.args.to.now) (map variable_of c.in-Tuple.vars.items)) = c.place-in-Tuple.ensures ∙ ap (λ (vs : List (ℕ × ℕ)). tuple_place c.args.counts.now (sorts_of (map variable_of vs)) (map (element_in c.args.to.now) (map variable_of vs))) c.deref-in-Tuple.ensures.value in
    let few = (tuple_moves c.requires.protocol c.args.counts.now c.requires.atoms c.args.to.now c.args.literal c.in-Tuple.rel (map variable_of c.in-Tuple.vars.items) c.requires.renamed c.requires.inside (sym (ap atom_of c.in-Tuple.is) ∙ c.requires.is)).few in
    omega (arith, second, few)

pub overflow_add-new : goal.overflow_add-new
overflow_add-new c = let here = (equation_moves c.requires.protocol c.args.counts.now c.requires.atoms c.args.to.now c.args.literal c.in-IsInd.ind (variable_of c.in-IsInd.var) c.requires.renamed c.requires.inside (sym (ap atom_of c.in-IsInd.is) ∙ c.requires.is)).stored in let a = c.from.ensures in let b = c.from-in-IsInd.ensures in omega (arith, here, a, b)

pub offset_bounds-to-from : goal.offset_bounds-to-from
offset_bounds-to-from c = let here = (equation_moves c.requires.protocol c.args.counts.now c.requires.atoms c.args.to.now c.args.literal c.in-IsInd.ind (variable_of c.in-IsInd.var) c.requires.renamed c.requires.inside (sym (ap atom_of c.in-IsInd.is) ∙ c.requires.is)).stored in let a = c.from.ensures in let b = c.from-in-IsInd.ensures in omega (arith, here, a, b)

pub bounds-to-from : goal.bounds-to-from
bounds-to-from c = let here = (equation_moves c.requires.protocol c.args.counts.now c.requires.atoms c.args.to.now c.args.literal c.in-IsInd.ind (variable_of c.in-IsInd.var) c.requires.renamed c.requires.inside (sym (ap atom_of c.in-IsInd.is) ∙ c.requires.is)).stored in let a = c.from.ensures in let b = c.from-in-IsInd.ensures in let long = c.requires.renamed.begun.long in omega (arith, here, a, b, long)

pub moved-requires-in-IsInd-clause-after : goal.moved-requires-in-IsInd-clause-after
moved-requires-in-IsInd-clause-after c = let enough = (equation_moves c.requires.protocol c.args.counts.now c.requires.atoms c.args.to.now c.args.literal c.in-IsInd.ind (variable_of c.in-IsInd.var) c.requires.renamed c.requires.inside (sym (ap atom_of c.in-IsInd.is) ∙ c.requires.is)).enough in let a = c.from-in-IsInd-2.ensures in omega (arith, enough, a)

pub moved-requires-in-IsInd-clause-few : goal.moved-requires-in-IsInd-clause-few
moved-requires-in-IsInd-clause-few c =
    let few = (equation_moves c.requires.protocol c.args.counts.now c.requires.atoms c.args.to.now c.args.literal c.in-IsInd.ind (variable_of c.in-IsInd.var) c.requires.renamed c.requires.inside (sym (ap atom_of c.in-IsInd.is) ∙ c.requires.is)).few in
    let new : c.from-in-IsInd-3.result ≡ element_in c.args.to.now (variable_of c.in-IsInd.var) = c.from-in-IsInd-3.ensures ∙ ap (λ k. get_or c.args.to.now k 0) (ap (λ n. 4 * n + c.from-in-IsInd.result) c.from.ensures ∙ ap (λ n. 4 * c.in-IsInd.var.0 + n) c.from-in-IsInd.ensures) in
    omega (arith, few, new)

pub returns-in-Tuple : goal.returns-in-Tuple
returns-in-Tuple c = λ P atoms h inside is.
    let first : c.place.result ≡ tuple_place c.args.counts.now (sorts_of (map variable_of c.in-Tuple.vars.items)) (map (element_in (fours 8)) (map variable_of c.in-Tuple.vars.items)) = c.place.ensures ∙ ap (λ (vs : List (ℕ × ℕ)). tuple_place c.args.counts.now (sorts_of (map variable_of vs)) (map (element_in (fours 8)) (map variable_of vs))) c.deref.ensures.value in
    let second : c.place-in-Tuple.result ≡ tuple_place c.args.counts.now (sorts_of (map variable_of c.in-Tuple.vars.items)) (map (element_in c.args.to.now) (map variable_of c.in-Tuple.vars.items)) = c.place-in-Tuple.ensures ∙ ap (λ (vs : List (ℕ × ℕ)). tuple_place c.args.counts.now (sorts_of (map variable_of vs)) (map (element_in c.args.to.now) (map variable_of vs))) c.deref-in-Tuple.ensures.value in
    (tuple_moves P c.args.counts.now atoms c.args.to.now c.args.literal c.in-Tuple.rel (map variable_of c.in-Tuple.vars.items) h inside (sym (ap atom_of c.in-Tuple.is) ∙ is)).is c.moved.result (let moved = c.moved.ensures in omega (arith, moved, first, second))

pub returns-in-IsInd : goal.returns-in-IsInd
returns-in-IsInd c = λ P atoms h inside is.
    let new : c.from-in-IsInd-3.result ≡ element_in c.args.to.now (variable_of c.in-IsInd.var) = c.from-in-IsInd-3.ensures ∙ ap (λ k. get_or c.args.to.now k 0) (ap (λ n. 4 * n + c.from-in-IsInd.result) c.from.ensures ∙ ap (λ n. 4 * c.in-IsInd.var.0 + n) c.from-in-IsInd.ensures) in
    let old = c.from-in-IsInd-2.ensures in
    (equation_moves P c.args.counts.now atoms c.args.to.now c.args.literal c.in-IsInd.ind (variable_of c.in-IsInd.var) h inside (sym (ap atom_of c.in-IsInd.is) ∙ is)).is c.moved-in-IsInd.result (let moved = c.moved-in-IsInd.ensures in omega (arith, moved, new, old))
