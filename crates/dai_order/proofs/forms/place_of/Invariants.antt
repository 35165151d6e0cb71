-- the clauses below the one place come before this one, and those from the other place on don't
use Rattle.std.proofs.Common.{◌≢◌, ◌<◌, ◌≤◌, ◌-◌, ℕ, length, get_or}
use Rattle.std.specs.declared.cmp.Ordering.TheVariants.{Less}
use Rattle.dai_model.specs.Protocol.{Protocol}
use Rattle.dai_model.specs.Template.{Bounds}
use Rattle.dai_model.specs.Subsumption.{print_order}
use Rattle.dai_template.specs.declared.clause.Clause.{Clause}
use Rattle.dai_template.specs.Spaces.{IsClauseOf, clause_of}
use Rattle.dai_template.specs.Lists.{Comes}
use Rattle.dai_order.specs.Forms.{AreForms}
use Rattle.dai_order.proofs.forms.place_of.Given as goal

abbrev pub invariant-loop-low : goal.invariant-loop-low
invariant-loop-low l = record {
  ordered : l.low ≤ l.high;
  inside : l.high ≤ length l.list;
  before : (P : Protocol) (B : Bounds) → IsClauseOf P B l.space l.clause → AreForms P B l.space l.list → (k : ℕ) (d : Clause) → k < l.low → Comes l.space (get_or l.list k d) l.clause;
  after : (P : Protocol) (B : Bounds) → IsClauseOf P B l.space l.clause → AreForms P B l.space l.list → (k : ℕ) (d : Clause) → l.high ≤ k → k < length l.list → print_order (clause_of l.space (get_or l.list k d)) (clause_of l.space l.clause) ≢ Less;
}

abbrev pub decreases-loop-low : goal.decreases-loop-low
decreases-loop-low l = l.high - l.low
