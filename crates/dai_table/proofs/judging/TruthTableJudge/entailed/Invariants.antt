use Rattle.std.proofs.Common.{◌≡◌, ◌<◌, ℕ, true, false}
use Rattle.std.specs.Prelude.{slice_index_or}
use Rattle.dai_model.specs.Value.{Satisfies}
use Rattle.dai_logic.specs.Protocols.{protocol_of}
use Rattle.dai_logic.specs.Trees.{formula_of}
use Rattle.dai_table.specs.Steps.{flags_in, state_at}
use Rattle.dai_table.proofs.judging.TruthTableJudge.entailed.Given as goal

-- each state so far that meets the premises satisfies the formula
abbrev pub invariant-loop-number : goal.invariant-loop-number
invariant-loop-number l = (k : ℕ) → k < l.number → slice_index_or l.premises.met.items k false ≡ true → Satisfies (state_at (protocol_of l.protocol) (flags_in l.fn.self.states.items) k) (formula_of l.formula)
