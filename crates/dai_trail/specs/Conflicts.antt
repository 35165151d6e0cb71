use Rattle.std.specs.Prelude.{◌≡◌, ◌<◌, []}
use Rattle.dai_trail.specs.declared.propagation.Look.{Look}
use Rattle.dai_trail.specs.declared.propagation.Look.TheVariants.{Stays, Moved, Conflict}
use Rattle.dai_trail.specs.declared.analysis.Resolved.{Resolved}
use Rattle.dai_trail.specs.declared.analysis.Resolved.TheVariants.{Stuck, Refuted, At}
use Rattle.dai_trail.specs.declared.trail.Trail.{Trail}
use Rattle.dai_trail.specs.declared.marks.Marks.{Marks}
use Rattle.dai_trail.specs.Formula.{Formula, IsContradiction}
use Rattle.dai_trail.specs.Trail.{IsRefuted}
use Rattle.dai_trail.specs.Marks.{AreMarks}

-- where the look at a clause found a conflict, no model makes each literal of the trail true
abbrev pub RefutesOnConflict : Formula → Trail → Look → Type 0
RefutesOnConflict formula t (Stays code) = Unit {0}
RefutesOnConflict formula t Moved = Unit {0}
RefutesOnConflict formula t (Conflict name) = IsRefuted formula t

-- what is left of a conflict: nothing is known, or there is no model, or the marks refute the trail
abbrev pub IsResolution : Formula → Trail → Marks → Resolved → Type 0
IsResolution formula t m Stuck = Unit {0}
IsResolution formula t m Refuted = IsContradiction formula
IsResolution formula t m (At place) = (place < t.len) × AreMarks formula t m × (m.named.items ≡ [])
