-- A list of clauses that stands for the greatest inductive set.
use Rattle.std.specs.Prelude.{List}
use Rattle.dai_model.specs.Protocol.{Protocol}
use Rattle.dai_model.specs.Clause.{Clause}
use Rattle.dai_model.specs.Template.{Bounds}
use Rattle.dai_model.specs.Classes.{Class}
use Rattle.dai_model.specs.Inductive.{IsInGreatest}
use Rattle.dai_order.specs.Antichains.{StandsFor}

-- it stands for each clause of the greatest inductive set
abbrev pub StandsForGreatest : Class → Protocol → Bounds → List Clause → Type 0
StandsForGreatest C P B clauses = (c : Clause) → IsInGreatest C P B c → StandsFor P clauses c
