use Rattle.std.proofs.Common.{◌≡◌, ◌∙◌, ◌<◌, List, Some, length, get_or, sym, ap, subst, arith}
use Rattle.std.specs.Prelude.{slice_get}
use Rattle.std.proofs.lemmas.List.{length-map, get_or-map}
use Rattle.std.proofs.lemmas.Option.{slice_get-get_or}
use Rattle.dai_model.specs.Protocol as Model
use Rattle.dai_model.specs.Classes.{Class}
use Rattle.dai_model.specs.WellSorted.{IsWellSorted, closed_scope}
use Rattle.dai_logic.specs.declared.protocol.Invariant.{Invariant}
use Rattle.dai_logic.specs.Protocols.{protocol_of, invariant_of}
use Rattle.dai_logic.specs.Trees.{formula_of}
use Rattle.dai_logic.proofs.Accepted.{is_protocol}
use Rattle.dai_template.specs.Lists.{clauses_of}
use Rattle.dai_weaken.specs.Judging.{Follows}
use Rattle.dai_weaken.specs.Missing.{AddsMissing}
use Rattle.dai_weaken.proofs.Lacking.{missing_next, missing_all}
use Rattle.dai_weaken.proofs.following.missing.Goals as goal

pub add_missing-requires-clause-closed : goal.add_missing-requires-clause-closed
add_missing-requires-clause-closed g c =
    let P = protocol_of c.args.protocol.now in
    let fs = c.args.protocol.now.invariants.items in
    let n = c.loop-number.number in
    let f = c.invariant-item.result in
    let below = subst (λ (xs : List Invariant). n < length xs) c.deref-invariant-items.ensures.value c.loop-number-test.true in
    let item = subst (λ (xs : List Invariant). f ≡ get_or xs n f) c.deref-invariant-items.ensures.value c.invariant-item.is in
    let long = length-map fs invariant_of in
    let at = get_or-map invariant_of fs n f (invariant_of f) below ∙ ap invariant_of (sym item) in
    subst (λ (i : Model.Invariant). IsWellSorted P closed_scope i.body) at ((is_protocol c.args.protocol.now).invariants n (invariant_of f) (omega (arith, long, below)))

pub loop-number-preserved : goal.loop-number-preserved
loop-number-preserved g c =
    let P = protocol_of c.args.protocol.now in
    let C = g.J.Judge.class c.args.judge.now in
    let space = c.args.space.now in
    let kept = c.args.kept.now.clauses.items in
    let fs = c.args.protocol.now.invariants.items in
    let n = c.loop-number.number in
    let f = c.invariant-item.result in
    let known = c.loop-number.invariant in
    let below = subst (λ (xs : List Invariant). n < length xs) c.deref-invariant-items.ensures.value c.loop-number-test.true in
    let item = subst (λ (xs : List Invariant). f ≡ get_or xs n f) c.deref-invariant-items.ensures.value c.invariant-item.is in
    let long = length-map fs invariant_of in
    let at = get_or-map invariant_of fs n f (invariant_of f) below ∙ ap invariant_of (sym item) in
    let is : slice_get P.invariants n ≡ Some (invariant_of f) = slice_get-get_or P.invariants n (invariant_of f) (omega (arith, long, below)) ∙ ap Some at in
    let adds = subst (λ (D : Class). AddsMissing (Follows D P (clauses_of space kept) (formula_of f.body)) n c.loop-number.numbers.items c.add_missing.new.numbers.items) known.same (c.in_ok-add_missing.ensures.added (clauses_of space kept) known.premises) in
    record {
      judge = c.in_ok-add_missing.ensures.judge;
      same = c.in_ok-add_missing.ensures.same ∙ known.same;
      premises = c.in_ok-add_missing.ensures.premises c.in_ok-premises.premises (clauses_of space kept) known.premises;
      missing = λ B answered. missing_next C P B space kept answered n (invariant_of f) c.loop-number.numbers.items c.add_missing.new.numbers.items is adds (known.missing B answered);
    }

pub returns-clause-missing : goal.returns-clause-missing
returns-clause-missing g c = λ B answered.
    let fs = c.args.protocol.now.invariants.items in
    let long = length-map fs invariant_of in
    let listed = ap (λ (xs : List Invariant). length xs) c.deref-invariant-items.ensures.value in
    let end = c.loop-number-test.false in
    missing_all (g.J.Judge.class c.args.judge.now) (protocol_of c.args.protocol.now) B c.args.space.now c.args.kept.now.clauses.items answered c.loop-number.number c.loop-number.numbers.items (omega (arith, long, listed, end)) (c.loop-number.invariant.missing B answered)
