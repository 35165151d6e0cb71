use Rattle.std.proofs.Common.{◌≡◌, ℕ, ◌||◌, List, drop}
use Rattle.dai_syntax.specs.Trees.{statements_of}
use Rattle.dai_rules.specs.Names.{is_among}
use Rattle.dai_rules.specs.Sites.{targets_in}
use Rattle.dai_rules.specs.Tables.{texts_of}
use Rattle.dai_rules.proofs.globals.+add_targets.Given as goal

-- what is there, with the targets of the statements to come, is what there is to be
abbrev pub invariant-add_targets-loop-stat : goal.invariant-add_targets-loop-stat
invariant-add_targets-loop-stat l = (x : List ℕ) → (is_among x (texts_of l.names.keys) || is_among x (targets_in (statements_of (drop l.stat-index l.stats)))) ≡ (is_among x (texts_of l.fn.names.keys) || is_among x (targets_in (statements_of l.stats)))
