-- the lists so far, and the list with each number so far at its end
use Rattle.std.proofs.Common.{◌≡◌, ◌++◌, ◌∷◌, [], map}
use Rattle.dai_model.specs.Clause.{numbers_below}
use Rattle.dai_template.specs.Atoms.{lists_of}
use Rattle.dai_template.proofs.tuples.add_ends.Given as goal

abbrev pub invariant-loop-end : goal.invariant-loop-end
invariant-loop-end l = lists_of l.longer.items ≡ lists_of l.initial.longer.items ++ map (λ n. l.list ++ n ∷ []) (numbers_below l.end)
