use Rattle.std.proofs.Common.{◌≢◌, ◌<◌, ℕ, get_or}
use Rattle.std.specs.declared.cmp.Ordering.TheVariants.{Equal}
use Rattle.dai_model.specs.Protocol.{Protocol}
use Rattle.dai_model.specs.Template.{Bounds}
use Rattle.dai_model.specs.Subsumption.{print_order}
use Rattle.dai_template.specs.declared.clause.Clause.{Clause}
use Rattle.dai_template.specs.Spaces.{IsSpaceOf, clause_of}
use Rattle.dai_weaken.proofs.descent.place_in.Given as goal

-- it is none of those so far
abbrev pub invariant-loop-place : goal.invariant-loop-place
invariant-loop-place l = (P : Protocol) (B : Bounds) → IsSpaceOf P B l.space → (k : ℕ) (d : Clause) → k < l.place → print_order (clause_of l.space (get_or l.clauses k d)) (clause_of l.space l.clause) ≢ Equal
