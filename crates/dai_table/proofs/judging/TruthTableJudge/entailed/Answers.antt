use Rattle.std.proofs.Common.{inl, inr, [], ◌≡◌, ◌∙◌, ◌<◌, Bool, true, false, refl, sym, ap, subst, length, arith, ⊎_elim}
use Rattle.std.specs.Prelude.{slice_index_or, ◌⊎◌}
use Rattle.std.proofs.lemmas.Bool.{false≢true}
use Rattle.std.proofs.lemmas.List.{length-map, get_or_default}
use Rattle.dai_model.specs.Value.{Satisfies}
use Rattle.dai_logic.specs.Protocols.{protocol_of}
use Rattle.dai_logic.specs.Trees.{formula_of}
use Rattle.dai_table.specs.Flags.{state}
use Rattle.dai_table.specs.Steps.{flags_in, lists_in, state_at}
use Rattle.dai_table.proofs.Valued.{items}
use Rattle.dai_table.proofs.Stepping.{next_cases}
use Rattle.dai_table.proofs.Judged.{flags_at, state_structure, follows}
use Rattle.dai_table.proofs.judging.TruthTableJudge.entailed.Goals as goal

bool_cases : (b : Bool) → (b ≡ true) ⊎ (b ≡ false)
bool_cases true = inl refl
bool_cases false = inr refl

pub satisfies_if-requires-clause-long : goal.satisfies_if-requires-clause-long
satisfies_if-requires-clause-long c =
    let table = c.requires.judge in
    let ss = c.deref-flags-items.result.now in
    let i = c.loop-number.number in
    let at = flags_at ss i c.flags-item.result c.deref.result.now c.loop-number-test.true c.flags-item.is c.deref.ensures.value in
    let states = ap flags_in c.deref-flags-items.ensures.value in
    let many = length-map ss items in
    let below = c.loop-number-test.true in
    let inside : i < length (flags_in c.args.self.now.states.items) = (let e = ap length states in omega (arith, many, below, e)) in
    ap length (at ∙ ap (λ fs. slice_index_or fs i []) states) ∙ table.states_of.are_states i inside

pub returns-then-not-branch-clause-answer : goal.returns-then-not-branch-clause-answer
returns-then-not-branch-clause-answer c = λ I prepared. (
  λ e. absurd (false≢true e),
  λ all.
      let P = protocol_of c.args.protocol.now in
      let f = formula_of c.args.formula.now in
      let table = c.requires.judge in
      let ss = c.deref-flags-items.result.now in
      let i = c.loop-number.number in
      let own_states = flags_in c.args.self.now.states.items in
      let at = flags_at ss i c.flags-item.result c.deref.result.now c.loop-number-test.true c.flags-item.is c.deref.ensures.value in
      let states = ap flags_in c.deref-flags-items.ensures.value in
      let many = length-map ss items in
      let below = c.loop-number-test.true in
      let inside : i < length own_states = (let e = ap length states in omega (arith, many, below, e)) in
      let here : state P c.deref.result.now ≡ state_at P own_states i = ap (state P) (at ∙ ap (λ fs. slice_index_or fs i []) states) in
      let long = prepared.long in
      let flag : slice_index_or c.args.premises.now.met.items i false ≡ c.index.result.now = get_or_default c.args.premises.now.met.items i false c.index.result.now (omega (arith, long, inside)) ∙ sym c.index.ensures in
      let asked : c.index.result.now ≡ true = ⊎_elim (λ yes_. yes_) (λ not_. absurd (false≢true (sym c.if-not-branch.true ∙ c.in_ok-satisfies_if.ensures.other not_))) (bool_cases c.index.result.now) in
      let holds : Satisfies (state P c.deref.result.now) f =
      subst (λ s. Satisfies s f) (sym here) (all (state_at P own_states i) tt (state_structure P table.protocol table.flags (slice_index_or own_states i [])) (table.states_of.axioms i inside) ((prepared.exact i inside).0 (flag ∙ asked))) in
      absurd (false≢true (sym c.if-not-branch.true ∙ (c.in_ok-satisfies_if.ensures.asked asked).1 holds)),
)

pub loop-number-preserved : goal.loop-number-preserved
loop-number-preserved c = λ k less met.
    let P = protocol_of c.args.protocol.now in
    let f = formula_of c.args.formula.now in
    let table = c.requires.judge in
    let ss = c.deref-flags-items.result.now in
    let i = c.loop-number.number in
    let own_states = flags_in c.args.self.now.states.items in
    let at = flags_at ss i c.flags-item.result c.deref.result.now c.loop-number-test.true c.flags-item.is c.deref.ensures.value in
    let states = ap flags_in c.deref-flags-items.ensures.value in
    let many = length-map ss items in
    let below = c.loop-number-test.true in
    let inside : i < length own_states = (let e = ap length states in omega (arith, many, below, e)) in
    let here : state P c.deref.result.now ≡ state_at P own_states i = ap (state P) (at ∙ ap (λ fs. slice_index_or fs i []) states) in
    let long = c.requires.premises.1.long in
    let flag : slice_index_or c.args.premises.now.met.items i false ≡ c.index.result.now = get_or_default c.args.premises.now.met.items i false c.index.result.now (omega (arith, long, inside)) ∙ sym c.index.ensures in
    ⊎_elim (λ before. c.loop-number.invariant k before met)
    (λ e.
    let asked : c.index.result.now ≡ true = sym flag ∙ ap (λ j. slice_index_or c.args.premises.now.met.items j false) (sym e) ∙ met in
    subst (λ j. Satisfies (state_at P own_states j) f) (sym e) (subst (λ s. Satisfies s f) here ((c.in_ok-satisfies_if.ensures.asked asked).0 c.if-not-branch.false)))
    (next_cases k i less)

pub returns-clause-answer : goal.returns-clause-answer
returns-clause-answer c = λ I prepared. (
  λ e.
      let P = protocol_of c.args.protocol.now in
      let t = c.args.self.now in
      let ss = c.deref-flags-items.result.now in
      let many = length-map ss items in
      let same = ap length (ap flags_in c.deref-flags-items.ensures.value) in
      let end = c.loop-number-test.false in
      follows P (flags_in t.states.items) t.init.items (lists_in t.actions.items) c.requires.judge c.args.premises.now.met.items I (formula_of c.args.formula.now) prepared (λ k below met. c.loop-number.invariant k (omega (arith, many, same, end, below)) met),
  λ all. refl,
)
