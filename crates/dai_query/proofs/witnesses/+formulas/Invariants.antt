-- what was counted and what the rest has is what all have
use Rattle.std.proofs.Common.{◌≡◌, ◌≤◌, ◌+◌, length, drop}
use Rattle.dai_model.specs.Profile.{witnesses_of_each}
use Rattle.dai_model.specs.Sizes.{count_of}
use Rattle.dai_logic.specs.Trees.{formulas_of}
use Rattle.dai_query.proofs.witnesses.+formulas.Given as goal

abbrev pub invariant-in_each-loop-part : goal.invariant-in_each-loop-part
invariant-in_each-loop-part l =
    let rest = witnesses_of_each l.even (formulas_of (drop l.part-index l.parts)) in
    let all = witnesses_of_each l.even (formulas_of l.parts) in
    record {
      counted : l.count + count_of l.sort rest ≡ count_of l.sort all;
      few : length rest ≤ 16;
      most : count_of l.sort all ≤ 16;
    }
