use Rattle.std.proofs.Common.{drop}
use Rattle.dai_syntax.specs.Trees.{statements_of}
use Rattle.dai_rules.specs.declared.judge.Judge.{Judge}
use Rattle.dai_rules.specs.declared.judge_statements.Room.{Room}
use Rattle.dai_rules.specs.Sites.{statements_sites, room_after_each, locals_in}
use Rattle.dai_rules.specs.Views.{context_of}
use Rattle.dai_rules.specs.Rooms.{room_of, JudgesCode}
use Rattle.dai_rules.proofs.judge.Judge.+statement.Given as goal

-- who judges the statements to come judges them all
abbrev pub invariant-statements-loop-stat : goal.invariant-statements-loop-stat
invariant-statements-loop-stat l =
    (r : Room) (j : Judge)
    → JudgesCode (statements_sites (context_of l.self) (room_of l.room) (statements_of (drop l.stat-index l.stats))) (room_after_each (context_of l.self) (room_of l.room) (statements_of (drop l.stat-index l.stats))) (locals_in (statements_of (drop l.stat-index l.stats))) r l.self j
    → JudgesCode (statements_sites (context_of l.fn.self) (room_of l.fn.room) (statements_of l.stats)) (room_after_each (context_of l.fn.self) (room_of l.fn.room) (statements_of l.stats)) (locals_in (statements_of l.stats)) r l.fn.self j
