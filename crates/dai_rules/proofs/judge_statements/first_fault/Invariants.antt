use Rattle.std.proofs.Common.{◌≡◌, ℕ, List, [], None, map, drop}
use Rattle.dai_syntax.specs.Trees.{declaration_of}
use Rattle.dai_rules.specs.Sites.{sites_from, sites_of}
use Rattle.dai_rules.specs.First.{judged}
use Rattle.dai_rules.specs.Tables.{AreNames}
use Rattle.dai_rules.specs.Views.{context_of}
use Rattle.dai_rules.specs.Rooms.{file_room_of}
use Rattle.dai_rules.proofs.judge_statements.first_fault.Given as goal

-- with the declarations to come, all are judged
abbrev pub invariant-loop-here : goal.invariant-loop-here
invariant-loop-here l =
    (locals : List (List ℕ)) × record {
      names : AreNames locals l.judge.locals.keys;
      declarations : (context_of l.judge).declarations ≡ map declaration_of l.decls;
      inside : (context_of l.judge).inside ≡ [];
      first : judged l.judge.first (sites_from (map declaration_of l.decls) l.here (file_room_of l.room) locals (map declaration_of (drop l.here l.decls))) ≡ judged None (sites_of (map declaration_of l.decls));
    }
