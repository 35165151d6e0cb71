-- what was counted and what the rest has is what all have
use Rattle.std.proofs.Common.{◌≡◌, ◌≤◌, ◌+◌, length, drop}
use Rattle.dai_model.specs.Profile.{requirements_in, witnesses_in}
use Rattle.dai_model.specs.Sizes.{count_of}
use Rattle.dai_logic.specs.Trees.{statements_of}
use Rattle.dai_query.proofs.witnesses.+statements.Given as goal

abbrev pub invariant-in_code-loop-step : goal.invariant-in_code-loop-step
invariant-in_code-loop-step l =
    let rest = witnesses_in (requirements_in (statements_of (drop l.step-index l.steps))) in
    let all = witnesses_in (requirements_in (statements_of l.steps)) in
    record {
      counted : l.count + count_of l.sort rest ≡ count_of l.sort all;
      few : length rest ≤ 16;
      most : count_of l.sort all ≤ 16;
    }
