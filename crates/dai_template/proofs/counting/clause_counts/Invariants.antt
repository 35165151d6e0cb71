-- the counts with fewer literals, and those with one literal more over fewer atoms
use Rattle.std.proofs.Common.{◌≡◌, ◌+◌, map}
use Rattle.dai_model.specs.Clause.{numbers_below}
use Rattle.dai_model.specs.Shapes.{clause_count}
use Rattle.dai_template.proofs.counting.clause_counts.Given as goal

abbrev pub invariant-loop-literals : goal.invariant-loop-literals
invariant-loop-literals l = l.counts.items ≡ map (clause_count l._literals) (numbers_below 65)

abbrev pub invariant-loop-fewer : goal.invariant-loop-fewer
invariant-loop-fewer l = record {
  clauses : l.clauses ≡ clause_count (l._literals + 1) l.fewer-index;
  more : l.more.items ≡ map (clause_count (l._literals + 1)) (numbers_below l.fewer-index);
}
