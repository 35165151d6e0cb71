use Rattle.std.proofs.Common.{◌≡◌, ℕ, ◌<◌, length}
use Rattle.dai_rules.specs.Views.{context_of, view_of}
use Rattle.dai_sorts.proofs.Wholes.{IsTypedAt}
use Rattle.dai_sorts.proofs.types.types_of.Given as goal

-- each variable so far has its type
abbrev pub invariant-loop-label : goal.invariant-loop-label
invariant-loop-label l = record {
  count : length l.types.items ≡ l.label-index;
  each : (v : ℕ) → v < l.label-index → IsTypedAt (context_of l.reader.judge).declarations (view_of l.judge).uses l.types.items v;
}
