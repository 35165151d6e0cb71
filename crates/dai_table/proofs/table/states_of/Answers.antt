use Rattle.std.proofs.Common.{◌≡◌, ◌+◌, ◌∷◌, ◌∙◌, List, Bool, length, drop, ap, sym, subst, arith}
use Rattle.std.specs.List.{Contains}
use Rattle.std.proofs.lemmas.List.{length-map, get_or-map, drop_more, drop_all}
use Rattle.dai_logic.specs.Protocols.{protocol_of, relation_of}
use Rattle.dai_table.specs.Flags.{valuations}
use Rattle.dai_table.specs.Steps.{AreStatesSoFar, AddsState, flags_in}
use Rattle.dai_table.proofs.Valued.{items}
use Rattle.dai_table.proofs.Tabling.{valuations_long, valuations_all, one_so_far, all_so_far}
use Rattle.dai_table.proofs.table.states_of.Goals as goal

pub add_state-requires-clause-long : goal.add_state-requires-clause-long
add_state-requires-clause-long c =
    let xs = c.deref-flags-items.result.now in
    let i = c.loop-flags.flags-index in
    let v = c.flags-item.result in
    let many = length-map xs items in
    let below = c.loop-flags-test.true in
    let there : Contains (flags_in xs) v.items = (i, omega (arith, many, below), get_or-map items xs i v v.items below ∙ ap items (sym c.flags-item.is)) in
    let listed : Contains (valuations c.len.result) v.items = subst (λ l. Contains l v.items) (ap flags_in c.deref-flags-items.ensures.value ∙ c.in_ok-all.ensures) there in
    let long = valuations_long c.len.result v.items listed in
    let count = c.len.ensures in
    let relations = length-map c.args.protocol.now.relations.items relation_of in
    ap length c.deref.ensures.value ∙ long ∙ omega (arith, count, relations)

pub loop-flags-preserved : goal.loop-flags-preserved
loop-flags-preserved c =
    let P = protocol_of c.args.protocol.now in
    let xs = c.deref-flags-items.result.now in
    let i = c.loop-flags.flags-index in
    let v = c.flags-item.result in
    let many = length-map xs items in
    let below = c.loop-flags-test.true in
    let there : Contains (flags_in xs) v.items = (i, omega (arith, many, below), get_or-map items xs i v v.items below ∙ ap items (sym c.flags-item.is)) in
    let listed : Contains (valuations c.len.result) v.items = subst (λ l. Contains l v.items) (ap flags_in c.deref-flags-items.ensures.value ∙ c.in_ok-all.ensures) there in
    let long = valuations_long c.len.result v.items listed in
    let count = c.len.ensures in
    let relations = length-map c.args.protocol.now.relations.items relation_of in
    let rest = flags_in (drop (i + 1) xs) in
    let at : flags_in (drop i xs) ≡ v.items ∷ rest = ap flags_in (drop_more xs i v below) ∙ ap (λ w. items w ∷ rest) (sym c.flags-item.is) in
    let known : AreStatesSoFar P (flags_in xs) (v.items ∷ rest) (flags_in c.loop-flags.states.items) = subst (λ r. AreStatesSoFar P (flags_in xs) r (flags_in c.loop-flags.states.items)) at c.loop-flags.invariant in
    let adds = subst (λ w. AddsState P w (flags_in c.loop-flags.states.items) (flags_in c.add_state.new.states.items)) c.deref.ensures.value c.in_ok-add_state.ensures in
    one_so_far P (flags_in xs) v.items rest (flags_in c.loop-flags.states.items) (flags_in c.add_state.new.states.items) (long ∙ omega (arith, count, relations)) adds known

pub returns : goal.returns
returns c =
    let P = protocol_of c.args.protocol.now in
    let xs = c.deref-flags-items.result.now in
    let i = c.loop-flags.flags-index in
    let states = flags_in c.loop-flags.states.items in
    let count = c.len.ensures in
    let relations = length-map c.args.protocol.now.relations.items relation_of in
    let every : (v : List Bool) → length v ≡ length P.relations → Contains (flags_in xs) v =
    λ v long. subst (λ l. Contains l v) (sym (ap flags_in c.deref-flags-items.ensures.value ∙ c.in_ok-all.ensures)) (valuations_all c.len.result v (omega (arith, long, count, relations))) in
    all_so_far P (flags_in xs) states every (subst (λ r. AreStatesSoFar P (flags_in xs) (flags_in r) states) (drop_all i xs c.loop-flags-test.false) c.loop-flags.invariant)
