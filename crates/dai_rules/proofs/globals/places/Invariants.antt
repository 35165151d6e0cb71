use Rattle.std.proofs.Common.{map, take}
use Rattle.dai_syntax.specs.Trees.{declaration_of}
use Rattle.dai_rules.specs.Tables.{ArePlaces}
use Rattle.dai_rules.proofs.globals.places.Given as goal

-- the first declarations among those so far
abbrev pub invariant-loop-place : goal.invariant-loop-place
invariant-loop-place l = ArePlaces (map declaration_of (take l.place l.decls)) l.places.entries
