-- What is asked of a protocol with its bounds: each given name is a type, and the counts are within their limits. The
-- first that fails is told.
use Rattle.std.specs.Prelude.{ℕ, Option, Some, None, nat_lt, if◌then◌else◌}
use Rattle.dai_base.specs.declared.fault.Fault.{Fault}
use Rattle.dai_base.specs.declared.fault.Fault.TheVariants.{Words, Limit}
use Rattle.dai_base.specs.declared.fault.LimitKind.TheVariants.{Atoms, Templates, Ground, Moves}
use Rattle.dai_model.specs.Protocol.{Protocol}
use Rattle.dai_model.specs.Template.{Bounds}
use Rattle.dai_model.specs.Limits.{atom_count, ground_atoms, move_count}
use Rattle.dai_model.specs.Shapes.{template_count}
use Rattle.dai_template.specs.Spaces.{most_atoms, most_templates}
use Rattle.dai_words.specs.Words.{Choices}
use Rattle.dai_top.specs.Bounds.{bounds_of, names_unknown}

abbrev pub most_ground : ℕ
most_ground = 50000

abbrev pub most_moves : ℕ
most_moves = 65536

-- the first count above its limit, with the size of each type of a run
abbrev pub limit_fault : Protocol → Bounds → ℕ → Option Fault
limit_fault P B size =
    if nat_lt most_atoms (atom_count P B) then Some (Limit 40 Atoms (atom_count P B)) else
    (if nat_lt most_templates (template_count P B) then Some (Limit 40 Templates (template_count P B)) else
    (if nat_lt most_ground (ground_atoms P B.variables size) then Some (Limit 41 Ground (ground_atoms P B.variables size)) else
    (if nat_lt most_moves (move_count P size) then Some (Limit 43 Moves (move_count P size)) else None)))

abbrev pub fault_of : Choices → Protocol → Option Fault
fault_of c P = if names_unknown P c then Some (Words 3 c.variables_word) else limit_fault P (bounds_of P c) c.size
