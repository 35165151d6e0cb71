use Rattle.std.specs.Prelude.{◌<◌, ◌≤◌, ℕ, Bool, length}
use Rattle.dai_sat.specs.declared.answer.Answer.{Answer}
use Rattle.dai_sat.specs.declared.answer.Answer.TheVariants.{Model, Unsat}
use Rattle.dai_sat.specs.declared.least.Step.{Step}
use Rattle.dai_sat.specs.declared.least.Step.TheVariants as step
use Rattle.dai_sat.specs.declared.step.Move.{Move}
use Rattle.dai_sat.specs.declared.step.Move.TheVariants as move
use Rattle.dai_trail.specs.declared.trail.Trail.{Trail}
use Rattle.dai_trail.specs.Formula.{Formula, IsLeastModelOf, IsUnsatisfiable, IsContradiction}
use Rattle.dai_trail.specs.Trail.{IsFullModel, IsOpenIn, value_in, rank_of}

-- a model is the least one by the preferences, and none is answered only where there is none
abbrev pub IsAnswerTo : Formula → (ℕ → Bool → Type 0) → Answer → Type 0
IsAnswerTo formula prefers (Model bits) = IsLeastModelOf prefers formula bits.items
IsAnswerTo formula prefers Unsat = IsUnsatisfiable formula

-- what is known after a step: the rank fell, or the first free variable, a model, or that there is none
abbrev pub IsStepOf : Formula → Trail → Trail → Step → Type 0
IsStepOf formula old new step.Again = rank_of new < rank_of old
IsStepOf formula old new (step.Decide var) = (rank_of new ≤ rank_of old) × IsOpenIn new var × ((u : ℕ) → u < var → value_in new u < 2)
IsStepOf formula old new (step.Found bits) = ((u : ℕ) → u < length new.values.items → value_in new u < 2) × IsFullModel formula new bits.items
IsStepOf formula old new step.Unsat = IsContradiction formula

-- what is known after a move: the rank fell, or nothing follows any more, or that there is no model
abbrev pub IsMoveOf : Formula → Trail → Trail → Move → Type 0
IsMoveOf formula old new move.Again = rank_of new < rank_of old
IsMoveOf formula old new move.Quiet = rank_of new ≤ rank_of old
IsMoveOf formula old new move.Unsat = IsContradiction formula
