use Rattle.std.proofs.Common.{◌≡◌, ◌+◌, ◌++◌, ◌∷◌, ◌<◌, [], ℕ, List, map, length, get_or, refl, sym, ◌∙◌, ap, arith}
use Rattle.std.specs.Prelude.{codes}
use Rattle.std.specs.List.{flat_map, zip}
use Rattle.std.proofs.lemmas.List.{length-map}
use Rattle.dai_model.proofs.Folds.{appended_part}
use Rattle.dai_logic.specs.Parts.{sort_of}
use Rattle.dai_print.specs.Counts.{bound_line, count_line}
use Rattle.dai_print.proofs.Zipped.{zip_at, zip_length, take_whole}
use Rattle.dai_print.proofs.counts.add_bounds.Goals as goal

pub loop-place-preserved : goal.loop-place-preserved
loop-place-preserved c =
    let pairs = zip (map sort_of c.args.sorts.now) c.args.bounds.now in
    let place = c.loop-place.place in
    let each = c.requires in
    let long = length-map c.args.sorts.now sort_of in
    let below : place < length pairs = let k = zip_length (map sort_of c.args.sorts.now) c.args.bounds.now (omega (arith, each, long)) in let t = c.loop-place-test.true in omega (arith, k, long, t) in
    let bound = get_or c.args.bounds.now place 0 in
    let here = zip_at c.args.sorts.now c.args.bounds.now place c.index-sorts-place.result bound c.loop-place-test.true each c.index-sorts-place.is refl in
    let line = c.in_ok-add_bound.ensures ∙ ap (λ (name : List ℕ). c.loop-place.text.items ++ (codes "bound " ++ (name ++ count_line (codes " ") bound))) c.as_bytes.ensures in
    appended_part bound_line pairs place (sort_of c.index-sorts-place.result, bound) c.args.text.now.items c.loop-place.text.items c.add_bound.new.text.items below here line c.loop-place.invariant

pub returns : goal.returns
returns c =
    let pairs = zip (map sort_of c.args.sorts.now) c.args.bounds.now in
    let each = c.requires in
    let long = length-map c.args.sorts.now sort_of in
    let whole = take_whole pairs c.loop-place.place (let k = zip_length (map sort_of c.args.sorts.now) c.args.bounds.now (omega (arith, each, long)) in let t = c.loop-place-test.false in let e = c.loop-place.auto.place-end in omega (arith, k, long, t, e)) in
    c.loop-place.invariant ∙ ap (λ ps. c.args.text.now.items ++ flat_map bound_line ps) whole
