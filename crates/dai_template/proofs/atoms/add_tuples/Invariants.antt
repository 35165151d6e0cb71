-- the atoms before, and those of the tuples so far
use Rattle.std.proofs.Common.{◌≡◌, ◌++◌, map, take}
use Rattle.dai_model.specs.Clause.{tuple}
use Rattle.dai_model.proofs.Tuples.{variables_at}
use Rattle.dai_template.specs.Atoms.{atom_of, lists_of}
use Rattle.dai_template.proofs.atoms.add_tuples.Given as goal

abbrev pub invariant-loop-tuple : goal.invariant-loop-tuple
invariant-loop-tuple l = map atom_of l.atoms.items ≡ map atom_of l.initial.atoms.items ++ map (λ t. tuple l.number (variables_at l.relation.args.items t)) (take l.tuple-index (lists_of l.tuple-items))
