use Rattle.std.specs.Prelude.{◌≤◌, ℕ, List, map, slice_range}
use Rattle.std.specs.List.{All}
use Rattle.dai_trail.specs.declared.lists.Span.{Span}

-- the parts of a flat list that the spans name
abbrev pub lists_of : {T : Type 0} → List T → List Span → List (List T)
lists_of items spans = map (λ s. slice_range items s.start s.end) spans

-- each span lies within a flat list of this length
abbrev pub AreWithin : ℕ → List Span → Type 0
AreWithin len spans = All (λ s. (s.start ≤ s.end) × (s.end ≤ len)) spans
