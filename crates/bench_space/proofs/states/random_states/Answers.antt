use Rattle.std.proofs.Common.{◌≡◌, ℕ, List, length, sym, ◌∙◌, ap, subst, arith}
use Rattle.std.specs.Prelude.{replicate}
use Rattle.std.specs.List.{All}
use Rattle.std.proofs.lemmas.List.{length-map}
use Rattle.std.proofs.lemmas.List.Elements.{All-push}
use Rattle.dai_model.specs.Protocol.{Relation}
use Rattle.dai_logic.specs.Parts.{sort_of, individual_of}
use Rattle.dai_logic.specs.Protocols.{protocol_of}
use Rattle.dai_logic.specs.Strides.{rows_of}
use Rattle.dai_logic.specs.Tables.{Fits, tables_of}
use Rattle.dai_logic.proofs.Accepted.{is_accepted}
use Rattle.bench_space.proofs.Fitting.{numbered, all_fit}
use Rattle.bench_space.proofs.states.random_states.Goals as goal

pub of-requires : goal.of-requires
of-requires c =
    let p = c.args.protocol.now in
    let count : c.len.result ≡ length (protocol_of p).sorts = let k = length-map p.sorts.items sort_of in let l = c.len.ensures in omega (arith, k, l, p.sorts.ok.0) in
    numbered (protocol_of p) c.deref.result.now (is_accepted p) (c.deref.ensures.value ∙ (c.in_ok-sizes.ensures.items_if_clones_equal (λ y h. h) ∙ ap (λ (n : ℕ). replicate n 4) count))

pub random_state-requires : goal.random_state-requires
random_state-requires c =
    let p = c.args.protocol.now in
    let e = ap (λ (rows : List (List ℕ)). length rows) c.in_ok-layout.ensures.sorts in
    let k = length-map (protocol_of p).relations (λ (R : Relation). R.arguments) in
    let few = (is_accepted p).profile.few_relations in
    omega (arith, e, k, few)

pub loop-preserved : goal.loop-preserved
loop-preserved c =
    let p = c.args.protocol.now in
    let made = c.in_ok-made.made in
    let layout = c.in_ok-layout.layout in
    let count : c.len.result ≡ length (protocol_of p).sorts = let k = length-map p.sorts.items sort_of in let l = c.len.ensures in omega (arith, k, l, p.sorts.ok.0) in
    let four = c.in_ok-layout.ensures.sizes ∙ (c.deref.ensures.value ∙ (c.in_ok-sizes.ensures.items_if_clones_equal (λ y h. h) ∙ ap (λ (n : ℕ). replicate n 4) count)) in
    let plain : length (protocol_of p).individuals ≡ 0 = let k = length-map p.individuals.items individual_of in let none = c.requires in omega (arith, k, none, p.individuals.ok.0) in
    let fit = all_fit (protocol_of p) made.sizes.items layout.sizes.items (rows_of layout.sorts) (tables_of made) made.values.items c.in_ok-made.ensures.sizes four c.in_ok-layout.ensures.sorts c.in_ok-made.ensures.tables c.in_ok-made.ensures.values plain in
    subst (All (Fits (protocol_of p))) (sym c.in_ok-push.ensures.items) (All-push (Fits (protocol_of p)) c.loop.states.items made c.loop.invariant fit)
