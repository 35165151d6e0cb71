use Rattle.std.proofs.Common.{◌<◌, ℕ}
use Rattle.dai_model.specs.Formula.{Formula}
use Rattle.dai_model.specs.Value.{Satisfies}
use Rattle.dai_logic.specs.Protocols.{protocol_of}
use Rattle.dai_logic.specs.Tables.{structure_of}
use Rattle.std.specs.Prelude.{slice_index_or}
use Rattle.dai_table.proofs.table.holds_each.Given as goal

-- each axiom so far is true
abbrev pub invariant-loop-axiom : goal.invariant-loop-axiom
invariant-loop-axiom l = (k : ℕ) (d : Formula) → k < l.axiom-index → Satisfies (structure_of (protocol_of l.protocol) l.s) (slice_index_or (protocol_of l.protocol).axioms k d)
