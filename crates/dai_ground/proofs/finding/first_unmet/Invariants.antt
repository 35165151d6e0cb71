use Rattle.std.proofs.Common.{◌≡◌, map, take}
use Rattle.std.specs.List.{All}
use Rattle.dai_model.specs.Value.{Satisfies}
use Rattle.dai_logic.specs.Protocols.{protocol_of}
use Rattle.dai_logic.specs.Tables.{structure_of}
use Rattle.dai_logic.specs.Trees.{formula_of}
use Rattle.dai_ground.proofs.finding.first_unmet.Given as goal

abbrev pub invariant-loop-number : goal.invariant-loop-number
invariant-loop-number l = record {
  same : l.env ≡ l.initial.env;
  all : All (Satisfies (structure_of (protocol_of l.protocol) l.s)) (take l.number (map formula_of l.formulas));
}
