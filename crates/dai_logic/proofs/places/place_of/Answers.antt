use Rattle.std.proofs.Common.{◌≡◌, ◌<◌, ℕ, List, length, get_or, map, sym, ap, ◌∙◌, refl, subst, arith}
use Rattle.std.proofs.lemmas.List.{length-map, get_or-map}
use Rattle.dai_model.specs.Structure as Structures
use Rattle.dai_model.specs.Value.{Environment, value_of_term}
use Rattle.dai_logic.specs.declared.protocol.Term.{Term}
use Rattle.dai_logic.specs.declared.protocol.Term.TheVariants.{Var}
use Rattle.dai_logic.specs.Trees.{term_of}
use Rattle.dai_logic.specs.Protocols.{protocol_of}
use Rattle.dai_logic.specs.Environments.{environment_of}
use Rattle.dai_logic.specs.Tables.{structure_of, HasPlace}
use Rattle.dai_logic.proofs.Tuples.{relates_tuple, walked_here, term_place, sort_at}
use Rattle.dai_logic.proofs.places.place_of.Goals as goal

mapped_below : {X Y : Type 0} (f : X → Y) (xs : List X) (k : ℕ) → k < length xs → k < length (map f xs)
mapped_below f xs k below = let long = length-map xs f in omega arith

element_at : (S : Structures.Structure) (env : Environment) (args : List Term) (k : ℕ) (d : Term) (e : ℕ) → k < length args → e ≡ value_of_term S env (term_of (get_or args k d)) → e ≡ get_or (map (value_of_term S env) (map term_of args)) k 0
element_at S env args k d e below is =
    is ∙ (ap (value_of_term S env) (sym (get_or-map term_of args k d (term_of d) below)) ∙ sym (get_or-map (value_of_term S env) (map term_of args) k (term_of d) 0 (mapped_below term_of args k below)))

pub loop-number-init : goal.loop-number-init
loop-number-init c = record { tuple = (relates_tuple (protocol_of c.args.protocol.now) c.args.s.now (environment_of c.args.env.now) c.args.rel (map term_of c.args.args.now) c.sorts_of-sorts.result.now c.requires.fits c.requires.formula c.sorts_of-sorts.ensures).tuple; number = omega arith }

pub overflow_mul-place : goal.overflow_mul-place
overflow_mul-place c = record { fits = ((walked_here (protocol_of c.args.protocol.now) c.args.s.now (environment_of c.args.env.now) c.args.rel (map term_of c.args.args.now) c.sorts_of-sorts.result.now c.loop-number.number c.loop-number.place (relates_tuple (protocol_of c.args.protocol.now) c.args.s.now (environment_of c.args.env.now) c.args.rel (map term_of c.args.args.now) c.sorts_of-sorts.result.now c.requires.fits c.requires.formula c.sorts_of-sorts.ensures) (mapped_below term_of c.args.args.now c.loop-number.number c.loop-number-test.true) c.loop-number.invariant).step c.index-size.result.now (get_or (map (value_of_term (structure_of (protocol_of c.args.protocol.now) c.args.s.now) (environment_of c.args.env.now)) (map term_of c.args.args.now)) c.loop-number.number 0) c.index-size.ensures refl).product }

pub element_of-requires : goal.element_of-requires
element_of-requires c =
    let here = get_or-map term_of c.args.args.now c.loop-number.number (Var 0) (term_of (Var 0)) c.loop-number-test.true in
    let h = c.requires.formula in
    subst (λ t. HasPlace c.args.s.now (environment_of c.args.env.now) t) here
    (term_place (protocol_of c.args.protocol.now) h.scope c.args.s.now (environment_of c.args.env.now) (get_or (map term_of c.args.args.now) c.loop-number.number (term_of (Var 0))) (get_or h.sorted.0.arguments c.loop-number.number 0) c.requires.fits h.gives (sort_at (protocol_of c.args.protocol.now) h.scope (map term_of c.args.args.now) h.sorted.0.arguments c.loop-number.number (term_of (Var 0)) h.sorted.2 (mapped_below term_of c.args.args.now c.loop-number.number c.loop-number-test.true)))

pub overflow_add-place : goal.overflow_add-place
overflow_add-place c = record { fits = ((walked_here (protocol_of c.args.protocol.now) c.args.s.now (environment_of c.args.env.now) c.args.rel (map term_of c.args.args.now) c.sorts_of-sorts.result.now c.loop-number.number c.loop-number.place (relates_tuple (protocol_of c.args.protocol.now) c.args.s.now (environment_of c.args.env.now) c.args.rel (map term_of c.args.args.now) c.sorts_of-sorts.result.now c.requires.fits c.requires.formula c.sorts_of-sorts.ensures) (mapped_below term_of c.args.args.now c.loop-number.number c.loop-number-test.true) c.loop-number.invariant).step c.index-size.result.now c.element_of.result c.index-size.ensures (element_at (structure_of (protocol_of c.args.protocol.now) c.args.s.now) (environment_of c.args.env.now) c.args.args.now c.loop-number.number (Var 0) c.element_of.result c.loop-number-test.true (c.element_of.ensures (protocol_of c.args.protocol.now)))).sum }

pub loop-number-preserved : goal.loop-number-preserved
loop-number-preserved c = ((walked_here (protocol_of c.args.protocol.now) c.args.s.now (environment_of c.args.env.now) c.args.rel (map term_of c.args.args.now) c.sorts_of-sorts.result.now c.loop-number.number c.loop-number.place (relates_tuple (protocol_of c.args.protocol.now) c.args.s.now (environment_of c.args.env.now) c.args.rel (map term_of c.args.args.now) c.sorts_of-sorts.result.now c.requires.fits c.requires.formula c.sorts_of-sorts.ensures) (mapped_below term_of c.args.args.now c.loop-number.number c.loop-number-test.true) c.loop-number.invariant).step c.index-size.result.now c.element_of.result c.index-size.ensures (element_at (structure_of (protocol_of c.args.protocol.now) c.args.s.now) (environment_of c.args.env.now) c.args.args.now c.loop-number.number (Var 0) c.element_of.result c.loop-number-test.true (c.element_of.ensures (protocol_of c.args.protocol.now)))).next
