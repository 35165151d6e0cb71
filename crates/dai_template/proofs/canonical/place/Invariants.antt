-- the rest of the tuple completes the place
use Rattle.std.proofs.Common.{map, drop}
use Rattle.dai_logic.specs.Tables.{tuple_place}
use Rattle.dai_logic.proofs.Tuples.{IsRead}
use Rattle.dai_template.specs.Atoms.{variable_of}
use Rattle.dai_template.specs.Meeting.{element_in, sorts_of}
use Rattle.dai_template.proofs.canonical.place.Given as goal

abbrev pub invariant-loop-var : goal.invariant-loop-var
invariant-loop-var l =
    let sorts = sorts_of (map variable_of l.vars) in
    let es = map (element_in l.to) (map variable_of l.vars) in
    IsRead l.counts (drop l.var-index sorts) (drop l.var-index es) (tuple_place l.counts sorts es) l.place
