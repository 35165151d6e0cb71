use Rattle.std.proofs.Common.{◌≡◌, ◌≤◌, ℕ, false, length, slice_index_or}
use Rattle.dai_model.specs.Protocol.{Protocol}
use Rattle.dai_logic.specs.Tables.{Fits}
use Rattle.dai_weaken.specs.Questions.{ArePremises}
use Rattle.dai_weaken.specs.Strikes.{AreStruckBelow}
use Rattle.dai_weaken.proofs.rounds.struck_by.Given as goal

-- so it is with the members so far; the flags of the others are as they were
abbrev pub invariant-loop-place : goal.invariant-loop-place
invariant-loop-place l = record {
  long : length l.struck.items ≡ length l.members;
  rest : (k : ℕ) → l.place ≤ k → slice_index_or l.struck.items k false ≡ slice_index_or l.fn.struck.items k false;
  struck : (P : Protocol) → ArePremises P l.space l.members → Fits P l.state → AreStruckBelow P l.space l.state l.members l.fn.struck.items l.struck.items l.place l.clauses.items;
}
