use Rattle.std.proofs.Common.{◌≡◌, ◌<◌, ◌^◌, ℕ, List, length, get_or, ap, sym, ◌∙◌, subst, arith}
use Rattle.std.specs.List.{All}
use Rattle.dai_logic.specs.Protocols.{protocol_of, arguments_in}
use Rattle.dai_logic.specs.Strides.{AreNumbered}
use Rattle.dai_logic.specs.Tables.{bits_of}
use Rattle.dai_picture.specs.Pictures.{rows_of}
use Rattle.dai_picture.proofs.Declared.{sorts_in}
use Rattle.dai_picture.proofs.DecodedWorld.{AreDecoded, rows_short, marks_short, sizes_are, fewer, numbered, nested, are_tables, tables_made, structure_is, fitting, marks_are}
use Rattle.dai_picture.proofs.decode.decode_over.Goals as goal

pub counts-requires : goal.counts-requires
counts-requires c =
    let h = c.requires.shown in
    let fr = c.args.frame.now in
    let small : (k : ℕ) → get_or fr.slots.items k 0 < 2 ^ 16 = λ k. let s = (c.type_inv.slots k).fits in let e = ap (λ xs. get_or xs k 0) c.requires.slots in omega arith in
    rows_short (length c.args.model.now) fr.slots.items (rows_of fr.used) h.frame.used small

pub marks-requires : goal.marks-requires
marks-requires c =
    let h = c.requires.shown in
    let fr = c.args.frame.now in
    let small : (k : ℕ) → get_or fr.slots.items k 0 < 2 ^ 16 = λ k. let s = (c.type_inv.slots k).fits in let e = ap (λ xs. get_or xs k 0) c.requires.slots in omega arith in
    marks_short (length c.args.model.now) fr.slots.items (sorts_in (protocol_of c.args.protocol.now)) (rows_of c.args.picture.now.values) h.picture.values small

pub marks-requires-2 : goal.marks-requires-2
marks-requires-2 c =
    let h = c.requires.shown in
    let fr = c.args.frame.now in
    let small : (k : ℕ) → get_or fr.slots.items k 0 < 2 ^ 16 = λ k. let s = (c.type_inv.slots k).fits in let e = ap (λ xs. get_or xs k 0) c.requires.slots in omega arith in
    marks_short (length c.args.model.now) fr.slots.items h.parameters (rows_of fr.arguments) h.frame.named small

pub marks-requires-3 : goal.marks-requires-3
marks-requires-3 c =
    let h = c.requires.shown in
    let fr = c.args.frame.now in
    let small : (k : ℕ) → get_or fr.slots.items k 0 < 2 ^ 16 = λ k. let s = (c.type_inv.slots k).fits in let e = ap (λ xs. get_or xs k 0) c.requires.slots in omega arith in
    marks_short (length c.args.model.now) fr.slots.items h.locals (rows_of fr.choices) h.frame.chosen small

pub of-requires : goal.of-requires
of-requires c =
    let h = c.requires.shown in
    let P = protocol_of c.args.protocol.now in
    let fr = c.args.frame.now in
    let pi = c.args.picture.now in
    let bits = c.args.model.now in
    let n = length bits in
    let s = h.world.structure in
    let same : c.in_ok-sizes.sizes.items ≡ s.sizes = sizes_are P h.parameters h.locals n fr pi bits s c.in_ok-sizes.sizes.items h.frame h.shown.structure c.in_ok-sizes.ensures in
    subst (λ (sizes : List ℕ). All (AreNumbered sizes) (arguments_in P)) (sym (c.as_slice.ensures.value ∙ same))
    (numbered c.args.protocol.now fr.slots.items s.sizes n pi h.picture h.shown.structure.structure.one_size_each h.shown.structure.structure.inhabited (fewer P h.parameters h.locals n fr pi bits s h.frame h.shown.structure))

pub of-requires-2 : goal.of-requires-2
of-requires-2 c =
    let h = c.requires.shown in
    let P = protocol_of c.args.protocol.now in
    let fr = c.args.frame.now in
    let pi = c.args.picture.now in
    let bits = c.args.model.now in
    let n = length bits in
    let s = h.world.structure in
    subst (λ (sizes : List ℕ). All (AreNumbered sizes) (arguments_in P)) (sym c.requires.slots)
    (numbered c.args.protocol.now fr.slots.items fr.slots.items n pi h.picture h.frame.one_each h.frame.inhabited (λ sort. omega arith))

pub tables-requires-clause-nested : goal.tables-requires-clause-nested
tables-requires-clause-nested c =
    let h = c.requires.shown in
    let P = protocol_of c.args.protocol.now in
    let fr = c.args.frame.now in
    let pi = c.args.picture.now in
    let bits = c.args.model.now in
    let n = length bits in
    let s = h.world.structure in
    let same : c.in_ok-sizes.sizes.items ≡ s.sizes = sizes_are P h.parameters h.locals n fr pi bits s c.in_ok-sizes.sizes.items h.frame h.shown.structure c.in_ok-sizes.ensures in
    nested P c.in_ok-small.small c.in_ok-wide.wide s.sizes fr.slots.items c.in_ok-small.ensures.sorts c.in_ok-wide.ensures.sorts (c.in_ok-small.ensures.sizes ∙ (c.as_slice.ensures.value ∙ same)) (c.in_ok-wide.ensures.sizes ∙ c.requires.slots) (fewer P h.parameters h.locals n fr pi bits s h.frame h.shown.structure)

pub tables-requires-clause-rows : goal.tables-requires-clause-rows
tables-requires-clause-rows c =
    are_tables c.args.protocol.now c.in_ok-wide.wide c.args.frame.now.slots.items (length c.args.model.now) c.args.picture.now c.requires.shown.picture c.in_ok-wide.ensures.sorts (c.in_ok-wide.ensures.sizes ∙ c.requires.slots)

pub returns-clause-fits : goal.returns-clause-fits
returns-clause-fits c =
    let h = c.requires.shown in
    let P = protocol_of c.args.protocol.now in
    let fr = c.args.frame.now in
    let pi = c.args.picture.now in
    let bits = c.args.model.now in
    let n = length bits in
    let s = h.world.structure in
    let tabled = c.in_ok-tables.ensures ∙ tables_made bits c.in_ok-small.small c.in_ok-wide.wide (rows_of pi.tables) c.in_ok-sizes.sizes.items fr.slots.items (arguments_in P) (c.in_ok-small.ensures.sizes ∙ c.as_slice.ensures.value) (c.in_ok-wide.ensures.sizes ∙ c.requires.slots) c.in_ok-small.ensures.sorts in
    let d : AreDecoded P fr.slots.items fr pi bits c.in_ok-sizes.sizes.items c.in_ok-values.values.items (bits_of c.in_ok-tables.tables) = record { counted = c.in_ok-sizes.ensures; marked = c.in_ok-values.ensures; tabled = tabled } in
    fitting P h.parameters h.locals n fr pi bits s c.in_ok-sizes.sizes.items c.in_ok-values.values.items (bits_of c.in_ok-tables.tables) h.frame h.picture h.shown.structure d

pub returns-clause-structure : goal.returns-clause-structure
returns-clause-structure c =
    let h = c.requires.shown in
    let P = protocol_of c.args.protocol.now in
    let fr = c.args.frame.now in
    let pi = c.args.picture.now in
    let bits = c.args.model.now in
    let n = length bits in
    let s = h.world.structure in
    let tabled = c.in_ok-tables.ensures ∙ tables_made bits c.in_ok-small.small c.in_ok-wide.wide (rows_of pi.tables) c.in_ok-sizes.sizes.items fr.slots.items (arguments_in P) (c.in_ok-small.ensures.sizes ∙ c.as_slice.ensures.value) (c.in_ok-wide.ensures.sizes ∙ c.requires.slots) c.in_ok-small.ensures.sorts in
    let d : AreDecoded P fr.slots.items fr pi bits c.in_ok-sizes.sizes.items c.in_ok-values.values.items (bits_of c.in_ok-tables.tables) = record { counted = c.in_ok-sizes.ensures; marked = c.in_ok-values.ensures; tabled = tabled } in
    λ w shown. structure_is P h.parameters h.locals n fr pi bits w.structure c.in_ok-sizes.sizes.items c.in_ok-values.values.items (bits_of c.in_ok-tables.tables) h.frame h.picture shown.structure d

pub returns-clause-arguments : goal.returns-clause-arguments
returns-clause-arguments c = λ w shown. marks_are c.args.model.now (rows_of c.args.frame.now.arguments) c.in_ok-args.args.items w.arguments c.in_ok-args.ensures shown.names.named

pub returns-clause-choices : goal.returns-clause-choices
returns-clause-choices c = λ w shown. marks_are c.args.model.now (rows_of c.args.frame.now.choices) c.in_ok-choices.choices.items w.choices c.in_ok-choices.ensures shown.names.chosen
