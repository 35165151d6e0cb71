use Rattle.std.proofs.Common.{◌≡◌, ◌<◌, ◌∙◌, List, length, get_or, subst, sym, ap, arith, ⊎_elim}
use Rattle.std.proofs.lemmas.Bool.{false≢true}
use Rattle.std.proofs.lemmas.List.{length-map, get_or-map}
use Rattle.dai_model.specs.Value.{Satisfies}
use Rattle.dai_logic.specs.declared.protocol.Formula.{Formula}
use Rattle.dai_logic.specs.Protocols.{protocol_of}
use Rattle.dai_logic.specs.Trees.{formula_of}
use Rattle.dai_logic.specs.Tables.{structure_of}
use Rattle.dai_logic.proofs.Accepted.{is_protocol}
use Rattle.std.specs.Prelude.{slice_index_or}
use Rattle.dai_table.proofs.Fitting.{closed_item}
use Rattle.dai_table.proofs.Stepping.{next_cases}
use Rattle.dai_table.proofs.table.holds_each.Goals as goal

pub holds-requires-clause-closed : goal.holds-requires-clause-closed
holds-requires-clause-closed c =
    let same = c.deref-axiom-items.ensures.value in
    let below = subst (λ (fs : List Formula). c.loop-axiom.axiom-index < length fs) same c.loop-axiom-test.true in
    let item = subst (λ (fs : List Formula). c.axiom-item.result ≡ get_or fs c.loop-axiom.axiom-index c.axiom-item.result) same c.axiom-item.is in
    closed_item (protocol_of c.args.protocol.now) c.args.protocol.now.axioms.items c.loop-axiom.axiom-index c.axiom-item.result c.axiom-item.result (is_protocol c.args.protocol.now).axioms below item

pub returns-then-not-branch : goal.returns-then-not-branch
returns-then-not-branch c =
    let P = protocol_of c.args.protocol.now in
    let s = structure_of P c.args.s.now in
    let same = c.deref-axiom-items.ensures.value in
    let i = c.loop-axiom.axiom-index in
    let f = c.axiom-item.result in
    let below = subst (λ (fs : List Formula). i < length fs) same c.loop-axiom-test.true in
    let item = subst (λ (fs : List Formula). f ≡ get_or fs i f) same c.axiom-item.is in
    let long = length-map c.args.protocol.now.axioms.items formula_of in
    let here : slice_index_or P.axioms i (formula_of f) ≡ formula_of f = get_or-map formula_of c.args.protocol.now.axioms.items i f (formula_of f) below ∙ ap formula_of (sym item) in
    (λ e. absurd (false≢true e), λ all. absurd (let own = c.in_ok-holds.ensures.1 (subst (Satisfies s) here (all i (formula_of f) (omega (arith, below, long)))) in false≢true (sym c.if-not-branch.true ∙ own)))

pub loop-axiom-preserved : goal.loop-axiom-preserved
loop-axiom-preserved c = λ k d less.
    let P = protocol_of c.args.protocol.now in
    let s = structure_of P c.args.s.now in
    let same = c.deref-axiom-items.ensures.value in
    let i = c.loop-axiom.axiom-index in
    let f = c.axiom-item.result in
    let below = subst (λ (fs : List Formula). i < length fs) same c.loop-axiom-test.true in
    let item = subst (λ (fs : List Formula). f ≡ get_or fs i f) same c.axiom-item.is in
    let here : slice_index_or P.axioms i d ≡ formula_of f = get_or-map formula_of c.args.protocol.now.axioms.items i f d below ∙ ap formula_of (sym item) in
    let own : Satisfies s (formula_of f) = c.in_ok-holds.ensures.0 c.if-not-branch.false in
    ⊎_elim (λ before. c.loop-axiom.invariant k d before) (λ e. subst (λ j. Satisfies s (slice_index_or P.axioms j d)) (sym e) (subst (Satisfies s) (sym here) own)) (next_cases k i less)
