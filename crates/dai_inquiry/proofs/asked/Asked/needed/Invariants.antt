-- the premises of the core so far
use Rattle.std.proofs.Common.{ℕ, ◌<◌}
use Rattle.std.specs.List.{All}
use Rattle.dai_inquiry.specs.declared.truths.Pick.{Pick}
use Rattle.dai_inquiry.specs.Asked.{IsCovered}
use Rattle.dai_inquiry.proofs.asked.Asked.needed.Given as goal

abbrev pub invariant-loop-place : goal.invariant-loop-place
invariant-loop-place l = record {
  inside : (n : ℕ) → All (λ (pick : Pick). pick.number < n) l.self.premises.items → All (λ k. k < n) l.numbers.items;
  covered : (i : ℕ) → i < l.place → IsCovered l.self.premises.items l.core l.numbers.items i;
}
