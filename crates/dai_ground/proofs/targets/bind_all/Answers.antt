use Rattle.std.proofs.Common.{◌+◌, ◌<◌, ◌∷◌, drop, length, map, ap, sym, ◌∙◌, arith}
use Rattle.std.proofs.lemmas.List.{drop_more, length-map, get_or-map}
use Rattle.dai_logic.specs.declared.protocol.Term.{Term as Tree}
use Rattle.dai_logic.specs.declared.protocol.Term.TheVariants.{Var}
use Rattle.dai_logic.specs.Trees.{term_of}
use Rattle.dai_model.specs.Execution.{bind_target}
use Rattle.dai_ground.specs.Grounding.{environment}
use Rattle.dai_ground.proofs.targets.bind_all.Goals as goal

pub loop-place-preserved : goal.loop-place-preserved
loop-place-preserved c =
    let k = c.loop-place.place in
    let target = c.args.target.now in
    let ts = map term_of target in
    let es = c.args.tuple.now in
    let d : Tree = Var 0 in
    let long = length-map target term_of in
    let below : k < length ts = (let l = c.loop-place-test.true in omega arith) in
    let inside : k < length es = (let l = c.loop-place-test.true in let e = c.requires.each in omega arith) in
    record {
      long = c.bind_term.ensures.long;
      rest = λ arguments choices.
          c.bind_term.ensures.bound arguments choices (drop (k + 1) ts) (drop (k + 1) es)
          ∙ ((λ i. bind_target (environment c.loop-place.binding arguments choices) (sym (drop_more ts k (term_of d) below ∙ ap (λ t. t ∷ drop (k + 1) ts) (get_or-map term_of target k d (term_of d) c.loop-place-test.true)) i) (sym (drop_more es k 0 inside) i))
          ∙ c.loop-place.invariant.rest arguments choices);
    }
