use Rattle.std.proofs.Common.{◌≡◌, ◌+◌, true, [], get_or, drop}
use Rattle.dai_model.specs.Structure.{is_tuple}
use Rattle.dai_logic.specs.Counts.{tuple_place}
use Rattle.dai_logic.specs.Strides.{rows_of}
use Rattle.dai_logic.proofs.layout.Layout.place.Given as goal

-- the place of the rest completes the sum
abbrev pub invariant-loop-argument : goal.invariant-loop-argument
invariant-loop-argument l =
    let sizes = l.self.sizes.items in
    let sorts = get_or (rows_of l.self.sorts) l.rel [] in
    record {
      tuple : is_tuple sizes (drop l.argument sorts) (drop l.argument l.tuple) ≡ true;
      number : l.place + tuple_place sizes (drop l.argument sorts) (drop l.argument l.tuple) ≡ tuple_place sizes sorts l.tuple;
    }
