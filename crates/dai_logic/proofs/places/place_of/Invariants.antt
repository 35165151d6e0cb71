use Rattle.std.proofs.Common.{map, drop}
use Rattle.dai_model.specs.Value.{value_of_term}
use Rattle.dai_logic.specs.Trees.{term_of}
use Rattle.dai_logic.specs.Protocols.{protocol_of}
use Rattle.dai_logic.specs.Tables.{structure_of, tuple_place}
use Rattle.dai_logic.specs.Environments.{environment_of}
use Rattle.dai_logic.proofs.Tuples.{IsRead}
use Rattle.dai_logic.proofs.places.place_of.Given as goal

-- the rest of the tuple completes the place
abbrev pub invariant-loop-number : goal.invariant-loop-number
invariant-loop-number l =
    let sizes = l.s.sizes.items in
    let es = map (value_of_term (structure_of (protocol_of l.protocol) l.s) (environment_of l.env)) (map term_of l.args) in
    IsRead sizes (drop l.number l.sorts) (drop l.number es) (tuple_place sizes l.sorts es) l.place
