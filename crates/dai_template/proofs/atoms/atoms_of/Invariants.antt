-- the atoms of the relations so far, and then those of the individuals so far
use Rattle.std.proofs.Common.{◌≡◌, ◌++◌, [], map, take}
use Rattle.std.specs.List.{flat_map, enumerate_from}
use Rattle.dai_model.specs.Clause.{relation_atoms, individual_atoms}
use Rattle.dai_logic.specs.Parts.{relation_of, individual_of}
use Rattle.dai_template.specs.Atoms.{atom_of}
use Rattle.dai_template.proofs.atoms.atoms_of.Given as goal

abbrev pub invariant-loop-number : goal.invariant-loop-number
invariant-loop-number l = map atom_of l.atoms.items ≡ [] ++ flat_map (relation_atoms l.counts) (take l.number (enumerate_from 0 (map relation_of l.protocol.relations.items)))

abbrev pub invariant-loop-number-2 : goal.invariant-loop-number-2
invariant-loop-number-2 l = map atom_of l.atoms.items ≡ flat_map (relation_atoms l.counts) (enumerate_from 0 (map relation_of l.protocol.relations.items)) ++ flat_map (individual_atoms l.counts) (take l.number (enumerate_from 0 (map individual_of l.protocol.individuals.items)))
