use Rattle.std.proofs.Common.{◌≡◌, [], map, drop, take}
use Rattle.dai_syntax.specs.Trees.{declaration_of}
use Rattle.dai_rules.specs.Views.{context_of}
use Rattle.dai_sorts.specs.Readers.{scope_of}
use Rattle.dai_sorts.specs.Drafts.{drafted}
use Rattle.dai_sorts.proofs.Drafting.{IsDrafted}
use Rattle.dai_sorts.proofs.checker.read_each.Given as goal

-- the draft is that of the declarations so far, and no rule is broken in those to come
abbrev pub invariant-loop-here : goal.invariant-loop-here
invariant-loop-here l = record {
  declarations : (context_of l.reader.judge).declarations ≡ map declaration_of l.decls;
  inside : (context_of l.reader.judge).inside ≡ [];
  terms : (scope_of l.reader).terms ≡ [];
  drafted : IsDrafted (map declaration_of l.decls) l.here (map declaration_of (take l.here l.decls)) (map declaration_of (drop l.here l.decls)) (drafted l.draft);
}
