use Rattle.std.proofs.Common.{◌≡◌, ◌+◌, ◌∙◌, suc, ap, arith, map}
use Rattle.std.specs.List.{flat_map}
use Rattle.dai_table.specs.Flags.{valuations, with_either}
use Rattle.dai_table.proofs.Valued.{items}
use Rattle.dai_table.proofs.states.valuations.Goals as goal

pub loop-flag-preserved : goal.loop-flag-preserved
loop-flag-preserved c =
    let n = c.loop-flag._flag in
    let e : suc n ≡ n + 1 = omega arith in
    let next : flat_map with_either (valuations n) ≡ valuations (n + 1) = ap valuations e in
    c.in_ok-all.ensures ∙ ap (λ ts. flat_map with_either (map items ts)) c.deref.ensures.value ∙ ap (flat_map with_either) c.loop-flag.invariant ∙ next
