-- Over which structures something is claimed: over those of all sizes, or over those up to a size for each type.
-- Inductive, greatest, answer, entailed and report are said once, over such a class.
use Rattle.std.specs.Prelude.{◌≡◌, ℕ, ◌≤◌, List, length}
use Rattle.std.specs.List.{AllZip}
use Rattle.dai_model.specs.Protocol.{Protocol}
use Rattle.dai_model.specs.Structure.{Structure}

pub data Class : Type 0 where
  all_sizes : Class
  up_to : List ℕ → Class

abbrev pub Belongs : Class → Structure → Type 0
Belongs all_sizes s = Unit {0}
Belongs (up_to sizes) s = AllZip (λ size most. size ≤ most) s.sizes sizes

-- the class gives each type of the protocol a size, or none a size
abbrev pub IsClassOf : Protocol → Class → Type 0
IsClassOf P all_sizes = Unit {0}
IsClassOf P (up_to sizes) = length sizes ≡ length P.sorts
