use Rattle.std.proofs.Common.{◌≡◌, ◌++◌, ◌<◌, [], get_or, take, drop}
use Rattle.dai_logic.specs.Counts.{tuple_count, tuple_at}
use Rattle.dai_logic.specs.Strides.{rows_of}
use Rattle.dai_logic.proofs.layout.Layout.read.Given as goal

-- the tuple at what is left completes what is written
abbrev pub invariant-loop-argument : goal.invariant-loop-argument
invariant-loop-argument l =
    let sizes = l.self.sizes.items in
    let sorts = get_or (rows_of l.self.sorts) l.rel [] in
    record {
      inside : l.rest < tuple_count sizes (drop l.argument sorts);
      written : take l.argument l.tuple ++ tuple_at sizes (drop l.argument sorts) l.rest ≡ tuple_at sizes sorts l.place;
    }
