-- the texts of the literals so far
use Rattle.std.proofs.Common.{◌≡◌, map, take}
use Rattle.dai_model.specs.Clause.{literal_among}
use Rattle.dai_model.specs.Report.{literal_text}
use Rattle.dai_logic.specs.Protocols.{protocol_of}
use Rattle.dai_template.specs.Atoms.{lists_of, atom_of}
use Rattle.dai_print.proofs.clauses.literal_texts.Given as goal

abbrev pub invariant-loop-literal : goal.invariant-loop-literal
invariant-loop-literal l = lists_of l.pieces.items ≡ map (λ k. literal_text (protocol_of l.protocol) (literal_among (map atom_of l.atoms) k)) (take l.literal-index l.lits)
