use Rattle.std.proofs.Common.{◌≡◌, ℕ, ◌||◌, List, map, drop}
use Rattle.std.specs.List.{filter_map}
use Rattle.dai_syntax.specs.Trees.{declaration_of}
use Rattle.dai_rules.specs.Names.{is_among}
use Rattle.dai_rules.specs.Tables.{texts_of}
use Rattle.dai_sorts.specs.Protocols.{exported_name}
use Rattle.dai_sorts.proofs.draft.exported.Given as goal

-- what is there, with what the declarations to come export, is what there is to be
abbrev pub invariant-loop-decl : goal.invariant-loop-decl
invariant-loop-decl l = (x : List ℕ) → (is_among x (texts_of l.names.keys) || is_among x (filter_map exported_name (map declaration_of (drop l.decl-index l.decls)))) ≡ is_among x (filter_map exported_name (map declaration_of l.decls))
