use Rattle.std.proofs.Common.{◌+◌, ◌<◌, [], false, get_or, length, map, ap, sym, ◌∙◌, subst, arith, rules}
use Rattle.std.proofs.lemmas.List.{length_push, get_or_default}
use Rattle.dai_circuit.specs.declared.bit.Bit.{Bit}
use Rattle.dai_circuit.specs.declared.bit.Bit.TheVariants.{Known}
use Rattle.dai_circuit.proofs.Extensions.{extends_self}
use Rattle.dai_logic.specs.Counts.{tuple_count}
use Rattle.dai_logic.specs.Strides.{rows_of}
use Rattle.dai_logic.specs.Protocols.{protocol_of}
use Rattle.dai_logic.specs.Trees.{term_of, formula_of}
use Rattle.dai_ground.specs.Updating.{IsUpdatedTable}
use Rattle.dai_ground.proofs.Findings.{extends_after}
use Rattle.dai_ground.proofs.TableBits.{updated_none, updated_more, updated_as, read_tuple}
use Rattle.dai_ground.proofs.updates.new_table.Goals as goal

pub loop-place-init : goal.loop-place-init
loop-place-init c =
    record {
      extends = extends_self c.args.circuit.now;
      long = ap length c.in_ok-table.ensures.items;
      updated = subst (IsUpdatedTable (protocol_of c.args.scene.now.protocol.now) c.args.scene.now.frame.now c.args.scene.now.picture.now (map term_of c.args.update.now.target.now) c.args.update.now.sorts.now (formula_of c.args.update.now.body.now) c.args.old.now c.args.circuit.now) (sym c.in_ok-table.ensures.items) (updated_none (protocol_of c.args.scene.now.protocol.now) c.args.scene.now.frame.now c.args.scene.now.picture.now (map term_of c.args.update.now.target.now) c.args.update.now.sorts.now (formula_of c.args.update.now.body.now) c.args.old.now c.args.circuit.now);
    }

pub updated_bit-requires-clause-tuple : goal.updated_bit-requires-clause-tuple
updated_bit-requires-clause-tuple c =
    let slots = c.args.scene.now.frame.now.slots.items in
    let inside : c.loop-place.place < tuple_count slots c.args.update.now.sorts.now = (let l = c.loop-place-test.true in let e = c.requires.old.long in omega arith) in
    let read = read_tuple slots c.args.update.now.sorts.now (get_or (rows_of c.args.layout.now.sorts) c.args.rel []) c.args.layout.now.sizes.items c.as_slice.result.now c.loop-place.place c.requires.layout.sizes c.requires.layout.types inside (c.as_slice.ensures.value ∙ c.in_ok-tuple.ensures) in
    search (rules, read.1)

pub returns-in_err-bit-clause-extends : goal.returns-in_err-bit-clause-extends
returns-in_err-bit-clause-extends c = extends_after c.args.circuit.now c.loop-place.circuit c.updated_bit.new.circuit c.loop-place.invariant.extends c.updated_bit.ensures.extends

pub returns-in_err-push-clause-extends : goal.returns-in_err-push-clause-extends
returns-in_err-push-clause-extends c = extends_after c.args.circuit.now c.loop-place.circuit c.updated_bit.new.circuit c.loop-place.invariant.extends c.updated_bit.ensures.extends

pub loop-place-preserved : goal.loop-place-preserved
loop-place-preserved c =
    let P = protocol_of c.args.scene.now.protocol.now in
    let frame = c.args.scene.now.frame.now in
    let picture = c.args.scene.now.picture.now in
    let ts = map term_of c.args.update.now.target.now in
    let sorts = c.args.update.now.sorts.now in
    let f = formula_of c.args.update.now.body.now in
    let slots = frame.slots.items in
    let k = c.loop-place.place in
    let d : Bit = Known false in
    let inside : k < tuple_count slots sorts = (let l = c.loop-place-test.true in let e = c.requires.old.long in omega arith) in
    let read = read_tuple slots sorts (get_or (rows_of c.args.layout.now.sorts) c.args.rel []) c.args.layout.now.sizes.items c.as_slice.result.now k c.requires.layout.sizes c.requires.layout.types inside (c.as_slice.ensures.value ∙ c.in_ok-tuple.ensures) in
    let own = updated_as P frame picture ts sorts c.as_slice.result.now f c.args.old.now (get_or c.args.old.now k d) c.updated_bit.new.circuit k c.in_ok-bit.bit read.0 (get_or_default c.args.old.now k d (Known false) c.loop-place-test.true) c.in_ok-bit.ensures.answer in
    record {
      extends = extends_after c.args.circuit.now c.loop-place.circuit c.updated_bit.new.circuit c.loop-place.invariant.extends c.updated_bit.ensures.extends;
      long = ap length c.in_ok-push.ensures.items ∙ (length_push c.loop-place.table.items c.in_ok-bit.bit ∙ ap (λ n. n + 1) c.loop-place.invariant.long);
      updated = subst (IsUpdatedTable P frame picture ts sorts f c.args.old.now c.updated_bit.new.circuit) (sym c.in_ok-push.ensures.items) (updated_more P frame picture ts sorts f c.args.old.now c.loop-place.circuit c.updated_bit.new.circuit c.loop-place.table.items c.in_ok-bit.bit k c.updated_bit.ensures.extends c.loop-place.invariant.long c.loop-place.invariant.updated own);
    }
