use Rattle.std.proofs.Common.{◌≡◌, ℕ, Vec, true, map, take}
use Rattle.std.specs.declared.alloc.Global.{Global}
use Rattle.dai_words.specs.Bounds.{bound_in, names_of, are_apart}
use Rattle.dai_words.proofs.bounds.are_apart.Given as goal

-- the names so far stand apart, and are the keys
abbrev pub invariant-loop-part : goal.invariant-loop-part
invariant-loop-part l = record {
  apart : are_apart (names_of (map bound_in (take l.part-index l.parts))) ≡ true;
  keys : map (λ (key : Vec ℕ Global). key.items) l.names.keys ≡ names_of (map bound_in (take l.part-index l.parts));
}
