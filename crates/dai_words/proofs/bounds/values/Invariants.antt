use Rattle.std.proofs.Common.{◌≡◌, true, map, take}
use Rattle.dai_words.specs.Bounds.{bound_in, are_small}
use Rattle.dai_words.proofs.bounds.values.Given as goal

-- the bounds so far are small
abbrev pub invariant-loop-part : goal.invariant-loop-part
invariant-loop-part l = record {
  bounds : l.bounds.items ≡ map bound_in (take l.part-index l.parts);
  small : are_small (map bound_in (take l.part-index l.parts)) ≡ true;
}
