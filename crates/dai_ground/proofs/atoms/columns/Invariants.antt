use Rattle.std.proofs.Common.{ℕ, List, map, take}
use Rattle.dai_logic.specs.Protocols.{protocol_of}
use Rattle.dai_logic.specs.Trees.{term_of}
use Rattle.dai_ground.specs.Grounding.{AreTermsIn}
use Rattle.dai_ground.specs.Atoms.{AreColumns, columns_of}
use Rattle.dai_ground.proofs.atoms.columns.Given as goal

abbrev pub invariant-loop-term : goal.invariant-loop-term
invariant-loop-term l =
    (count : ℕ) (sorts : List ℕ) → AreTermsIn (protocol_of l.scene.protocol.now) l.scene.frame.now l.scene.picture.now count l.binding (map term_of l.terms) sorts → AreColumns (protocol_of l.scene.protocol.now) l.scene.frame.now l.scene.picture.now count l.binding (take l.term-index (map term_of l.terms)) sorts (columns_of l.columns.items)
