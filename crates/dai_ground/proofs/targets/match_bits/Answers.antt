use Rattle.std.proofs.Common.{◌<◌, ◌≤◌, ◌∷◌, ◌++◌, [], get_or, length, map, ap, sym, ◌∙◌, subst, arith, rules}
use Rattle.std.proofs.lemmas.List.{take_all, length-map, get_or-map}
use Rattle.dai_logic.specs.declared.protocol.Term.TheVariants.{Var}
use Rattle.dai_logic.specs.Protocols.{protocol_of}
use Rattle.dai_logic.specs.Trees.{term_of, formula_of}
use Rattle.dai_ground.specs.Updating.{IsTargetTerm, match_bit, match_bits}
use Rattle.dai_ground.proofs.Reaches.{target_length, target_term, match_more}
use Rattle.dai_ground.proofs.targets.match_bits.Goals as goal

pub bounds-tuple-place : goal.bounds-tuple-place
bounds-tuple-place c =
    let P = protocol_of c.args.scene.now.protocol.now in
    let ts = map term_of c.args.update.now.target.now in
    let long = target_length P c.args.scene.now.frame.now c.args.scene.now.picture.now c.requires.update.0 ts c.args.update.now.sorts.now c.args.tuple.now (formula_of c.args.update.now.body.now) c.requires.update.1 (search (rules, c.requires.tuple)) in
    let many = length-map c.args.update.now.target.now term_of in
    let l = c.loop-place-test.true in
    omega arith

pub match_bit-requires : goal.match_bit-requires
match_bit-requires c =
    let P = protocol_of c.args.scene.now.protocol.now in
    let frame = c.args.scene.now.frame.now in
    let picture = c.args.scene.now.picture.now in
    let target = c.args.update.now.target.now in
    let ts = map term_of target in
    let sorts = c.args.update.now.sorts.now in
    let k = c.loop-place.place in
    let many = length-map target term_of in
    let below : k < length ts = (let l = c.loop-place-test.true in omega arith) in
    let h = target_term P frame picture c.requires.update.0 ts sorts c.args.tuple.now (formula_of c.args.update.now.body.now) k (term_of (Var 0)) c.requires.update.1 (search (rules, c.requires.tuple)) below in
    (c.requires.update.0, get_or sorts k 0, subst (λ t. IsTargetTerm P frame picture c.requires.update.0 t (get_or sorts k 0) (get_or c.args.tuple.now k 0)) (get_or-map term_of target k (Var 0) (term_of (Var 0)) c.loop-place-test.true) h)

pub loop-place-preserved : goal.loop-place-preserved
loop-place-preserved c =
    let P = protocol_of c.args.scene.now.protocol.now in
    let frame = c.args.scene.now.frame.now in
    let picture = c.args.scene.now.picture.now in
    let target = c.args.update.now.target.now in
    let ts = map term_of target in
    let es = c.args.tuple.now in
    let k = c.loop-place.place in
    let many = length-map target term_of in
    let long = target_length P frame picture c.requires.update.0 ts c.args.update.now.sorts.now es (formula_of c.args.update.now.body.now) c.requires.update.1 (search (rules, c.requires.tuple)) in
    let below : k < length ts = (let l = c.loop-place-test.true in omega arith) in
    c.in_ok-push.ensures.items
    ∙ ((λ i. c.loop-place.invariant i ++ (c.match_bit.ensures ∙ ap (λ t. match_bit frame picture t (get_or es k 0)) (sym (get_or-map term_of target k (Var 0) (term_of (Var 0)) c.loop-place-test.true))) i ∷ [])
    ∙ sym (match_more frame picture ts es k (term_of (Var 0)) long below))

pub returns : goal.returns
returns c =
    let P = protocol_of c.args.scene.now.protocol.now in
    let frame = c.args.scene.now.frame.now in
    let picture = c.args.scene.now.picture.now in
    let target = c.args.update.now.target.now in
    let ts = map term_of target in
    let es = c.args.tuple.now in
    let k = c.loop-place.place in
    let many = length-map target term_of in
    let long = target_length P frame picture c.requires.update.0 ts c.args.update.now.sorts.now es (formula_of c.args.update.now.body.now) c.requires.update.1 (search (rules, c.requires.tuple)) in
    let past : length ts ≤ k = (let l = c.loop-place-test.false in omega arith) in
    c.loop-place.invariant ∙ (λ i. match_bits frame picture (take_all k ts past i) (take_all k es (omega arith) i))
