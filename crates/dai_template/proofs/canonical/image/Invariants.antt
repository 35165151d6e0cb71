-- the literals to come, put in order, complete the image
use Rattle.std.proofs.Common.{◌≡◌, length, map, drop}
use Rattle.dai_model.specs.Protocol.{Protocol}
use Rattle.dai_template.specs.Atoms.{atom_of}
use Rattle.dai_template.specs.Renamings.{IsRenamed, renamed_literal, renamed_literals, put_all_in_order}
use Rattle.dai_template.proofs.canonical.image.Given as goal

abbrev pub invariant-loop-literal : goal.invariant-loop-literal
invariant-loop-literal l = record {
  long : length l.image.items ≡ l.literal-index;
  rest : (P : Protocol) → IsRenamed P l.shape.counts.items (map atom_of l.shape.atoms.items) l.to → put_all_in_order (map (renamed_literal P l.shape.counts.items l.to) (drop l.literal-index l.literals)) l.image.items ≡ renamed_literals P l.shape.counts.items l.to l.literals;
}
