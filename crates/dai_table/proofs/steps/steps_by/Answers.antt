use Rattle.std.proofs.Common.{◌≡◌, ◌∙◌, ℕ, [], ap, sym, subst, length, arith}
use Rattle.std.specs.Prelude.{slice_index_or}
use Rattle.std.proofs.lemmas.List.{get_or-map, length-map}
use Rattle.dai_logic.specs.Protocols.{protocol_of}
use Rattle.dai_table.specs.Steps.{AreSteps, flags_in}
use Rattle.dai_table.proofs.Valued.{items}
use Rattle.dai_table.proofs.Stepping.{steps_next}
use Rattle.dai_table.proofs.steps.steps_by.Goals as goal

pub add_step-requires-clause-state : goal.add_step-requires-clause-state
add_step-requires-clause-state c =
    let states = c.args.states.now in
    let n = c.loop-from.from in
    let v = c.index-states-from.result in
    let below = c.loop-from-test.true in
    let long = length-map states items in
    let is : slice_index_or (flags_in states) n [] ≡ v.items = get_or-map items states n v [] below ∙ ap items (sym c.index-states-from.is) in
    ap length (c.deref.ensures.value ∙ sym is) ∙ c.requires.states n (omega (arith, below, long))

pub loop-from-preserved : goal.loop-from-preserved
loop-from-preserved c = λ b named.
    let states = c.args.states.now in
    let n = c.loop-from.from in
    let v = c.index-states-from.result in
    let is : slice_index_or (flags_in states) n [] ≡ v.items = get_or-map items states n v [] c.loop-from-test.true ∙ ap items (sym c.index-states-from.is) in
    steps_next (protocol_of c.args.protocol.now) b (flags_in states) n c.deref.result.now c.loop-from.steps.items (is ∙ sym c.deref.ensures.value) (c.loop-from.invariant b named) c.add_step.new.steps.items (c.in_ok-add_step.ensures b named)

pub returns : goal.returns
returns c = λ b named.
    let end = c.loop-from-test.false in
    let within = c.loop-from.auto.from-end in
    let all : c.loop-from.from ≡ length c.args.states.now = omega (arith, end, within) in
    subst (λ (n : ℕ). AreSteps (protocol_of c.args.protocol.now) b (flags_in c.args.states.now) n c.loop-from.steps.items) all (c.loop-from.invariant b named)
