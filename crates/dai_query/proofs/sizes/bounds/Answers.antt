use Rattle.std.proofs.Common.{◌≡◌, ◌+◌, ℕ, suc, List, [], ◌∷◌, ◌++◌, map, sym, ◌∙◌, ap, arith}
use Rattle.std.proofs.lemmas.List.{map_push}
use Rattle.dai_model.specs.Clause.{numbers_below}
use Rattle.dai_model.specs.Sizes.{size_bound}
use Rattle.dai_logic.specs.Protocols.{protocol_of}
use Rattle.dai_query.proofs.sizes.bounds.Goals as goal

pub loop-sort-preserved : goal.loop-sort-preserved
loop-sort-preserved c =
    let bound_of = size_bound (protocol_of c.args.protocol.now) c.args.vars.now in
    let next : suc c.loop-sort.sort ≡ c.loop-sort.sort + 1 = omega arith in
    c.in_ok-push.ensures.items
    ∙ (ap (λ (xs : List ℕ). xs ++ c.bound.result ∷ []) c.loop-sort.invariant
    ∙ (ap (λ (b : ℕ). map bound_of (numbers_below c.loop-sort.sort) ++ b ∷ []) c.bound.ensures
    ∙ (sym (map_push bound_of (numbers_below c.loop-sort.sort) c.loop-sort.sort)
    ∙ ap (λ (n : ℕ). map bound_of (numbers_below n)) next)))
