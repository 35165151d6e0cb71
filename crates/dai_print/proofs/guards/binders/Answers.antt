use Rattle.std.proofs.Common.{◌≡◌, ℕ, List, ◌++◌, length, map, sym, ◌∙◌, ap, arith}
use Rattle.std.specs.Prelude.{slice_index}
use Rattle.std.specs.List.{flat_map}
use Rattle.dai_model.specs.Clause.{numbers_below, variables_of}
use Rattle.dai_model.specs.Report.{binder_text}
use Rattle.dai_model.proofs.Folds.{appended_number, map-map, map-flat_map}
use Rattle.dai_logic.specs.Protocols.{protocol_of}
use Rattle.dai_template.specs.Atoms.{lists_of, variable_of}
use Rattle.dai_print.proofs.guards.binders.Goals as goal

pub loop-sort-preserved : goal.loop-sort-preserved
loop-sort-preserved c =
    let P = protocol_of c.args.protocol.now in
    appended_number (λ s. map (binder_text P) (variables_of c.args.counts.now s)) c.loop-sort.sort (lists_of c.loop-sort.pieces.items) (lists_of c.add_binders.new.pieces.items)
    (c.in_ok-add_binders.ensures ∙ ap (λ (bs : List (List ℕ)). lists_of c.loop-sort.pieces.items ++ bs) (sym (map-map (binder_text P) (λ n. variable_of (c.loop-sort.sort, n)) (numbers_below (slice_index c.args.counts.now c.loop-sort.sort)))))
    c.loop-sort.invariant

pub returns : goal.returns
returns c =
    let P = protocol_of c.args.protocol.now in
    let all : c.loop-sort.sort ≡ length c.args.counts.now = let past = c.loop-sort-test.false in let most = c.loop-sort.auto in omega (arith, past, most) in
    c.loop-sort.invariant
    ∙ (ap (λ (n : ℕ). flat_map (λ s. map (binder_text P) (variables_of c.args.counts.now s)) (numbers_below n)) all
    ∙ sym (map-flat_map (binder_text P) (variables_of c.args.counts.now) (numbers_below (length c.args.counts.now))))
