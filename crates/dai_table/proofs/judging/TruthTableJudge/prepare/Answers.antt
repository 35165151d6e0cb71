use Rattle.std.proofs.Common.{[], ◌≡◌, ◌∙◌, ◌<◌, ◌↔◌, ℕ, true, false, ap, subst, length, arith}
use Rattle.std.specs.Prelude.{slice_index_or}
use Rattle.std.proofs.lemmas.List.{length-map}
use Rattle.dai_logic.specs.Protocols.{protocol_of}
use Rattle.dai_table.specs.Steps.{flags_in}
use Rattle.dai_table.specs.Answers.{MeetEach}
use Rattle.dai_table.proofs.Valued.{items}
use Rattle.dai_table.proofs.Literals.{within}
use Rattle.dai_table.proofs.Judged.{flags_at, known_next, prepared_all}
use Rattle.dai_table.proofs.judging.TruthTableJudge.prepare.Goals as goal

pub meets_each-requires : goal.meets_each-requires
meets_each-requires c = λ m there.
    let P = protocol_of c.args.protocol.now in
    let table = c.requires.judge in
    let ss = c.deref-flags-items.result.now in
    let i = c.loop-flags.flags-index in
    let at = flags_at ss i c.flags-item.result c.deref.result.now c.loop-flags-test.true c.flags-item.is c.deref.ensures.value in
    let states = ap flags_in c.deref-flags-items.ensures.value in
    let many = length-map ss items in
    let below = c.loop-flags-test.true in
    let inside : i < length (flags_in c.args.self.now.states.items) = (let e = ap length states in omega (arith, many, below, e)) in
    let long = ap length (at ∙ ap (λ fs. slice_index_or fs i []) states) ∙ table.states_of.are_states i inside in
    within P table.protocol table.flags c.requires.clauses.bounds c.args.space.now m (c.requires.clauses.each m there) (length c.deref.result.now) long

pub loop-flags-preserved : goal.loop-flags-preserved
loop-flags-preserved c =
    let ss = c.deref-flags-items.result.now in
    let i = c.loop-flags.flags-index in
    let known = c.loop-flags.invariant in
    let long = known.long in
    let pushed = c.in_ok-push.ensures.len in
    let at = flags_at ss i c.flags-item.result c.deref.result.now c.loop-flags-test.true c.flags-item.is c.deref.ensures.value in
    record {
      long = omega (arith, pushed, long);
      exact = known_next (flags_in ss) c.args.clauses.now c.loop-flags.met.items c.push.new.self.items i c.meets_each.result c.deref.result.now long c.in_ok-push.ensures.items at c.meets_each.ensures known.exact;
    }

pub returns-clause-premises : goal.returns-clause-premises
returns-clause-premises c =
    let P = protocol_of c.args.protocol.now in
    let table = c.requires.judge in
    let ss = c.deref-flags-items.result.now in
    let i = c.loop-flags.flags-index in
    let states = ap flags_in c.deref-flags-items.ensures.value in
    let many = length-map ss items in
    let end = c.loop-flags-test.false in
    let most = c.loop-flags.auto.flags-index-end in
    let same = ap length states in
    let own : (k : ℕ) → k < i → (slice_index_or c.loop-flags.met.items k false ≡ true) ↔ MeetEach (slice_index_or (flags_in c.args.self.now.states.items) k []) c.args.clauses.now =
    subst (λ fs. (k : ℕ) → k < i → (slice_index_or c.loop-flags.met.items k false ≡ true) ↔ MeetEach (slice_index_or fs k []) c.args.clauses.now) states c.loop-flags.invariant.exact in
    prepared_all P c.requires.clauses.bounds c.args.space.now (flags_in c.args.self.now.states.items) c.args.clauses.now c.loop-flags.met.items i table.protocol table.flags table.states_of.are_states c.requires.clauses.each c.loop-flags.invariant.long (omega (arith, many, end, most, same)) own
