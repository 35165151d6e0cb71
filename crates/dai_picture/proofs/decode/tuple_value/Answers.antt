use Rattle.std.proofs.Common.{rules, ◌≡◌, ◌<◌, true, ℕ, List, length, sym, subst}
use Rattle.dai_model.specs.Structure.{is_tuple}
use Rattle.dai_picture.specs.Decoding.{sorts_at}
use Rattle.dai_picture.proofs.Values.{nested_tuple, nested_place}
use Rattle.dai_picture.proofs.decode.tuple_value.Goals as goal

pub place-slot-requires-clause-tuple : goal.place-slot-requires-clause-tuple
place-slot-requires-clause-tuple c =
    subst (λ (es : List ℕ). is_tuple c.args.wide.now.sizes.items (sorts_at c.args.wide.now c.args.rel) es ≡ true) (sym c.read.ensures) (nested_tuple c.args.small.now c.args.wide.now c.args.rel c.args.place c.requires.nested c.requires.inside)

pub offset_bounds-row-slot : goal.offset_bounds-row-slot
offset_bounds-row-slot c =
    let here : c.place-slot.result < length c.args.row.now = nested_place c.args.small.now c.args.wide.now c.args.rel c.args.place c.place-slot.result (length c.args.row.now) c.read.new.tuple c.requires.nested c.requires.inside c.read.ensures c.place-slot.ensures c.requires.long in
    search rules

pub bounds-row-slot : goal.bounds-row-slot
bounds-row-slot c = nested_place c.args.small.now c.args.wide.now c.args.rel c.args.place c.place-slot.result (length c.args.row.now) c.read.new.tuple c.requires.nested c.requires.inside c.read.ensures c.place-slot.ensures c.requires.long
