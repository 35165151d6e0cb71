use Rattle.std.proofs.Common.{◌+◌, ◌++◌, ◌∙◌, sym, ap, arith, map, drop}
use Rattle.std.proofs.lemmas.List.{drop_all}
use Rattle.dai_table.proofs.Valued.{append_nil, items, item_alone, value_alone, next_flag, state_is}
use Rattle.dai_table.specs.Flags.{alone}
use Rattle.dai_table.proofs.states.flags_of.Goals as goal

pub index-requires : goal.index-requires
index-requires c =
    let one = item_alone c.requires.0 c.args.s.now c.requires.1 c.deref-table-items.result.now c.deref-table-items.ensures.value c.loop-table.table-index c.table-item.result c.loop-table-test.true c.table-item.is in
    omega (arith, one)

pub loop-table-preserved : goal.loop-table-preserved
loop-table-preserved c = λ P h.
    let ts = c.deref-table-items.result.now in
    let i = c.loop-table.table-index in
    let t = c.table-item.result in
    let b = c.index.result.now in
    let one = item_alone P c.args.s.now h ts c.deref-table-items.ensures.value i t c.loop-table-test.true c.table-item.is in
    let same = value_alone t b one c.index.ensures in
    ap (λ fs. map alone fs ++ map items (drop (i + 1) ts)) c.in_ok-push.ensures.items ∙ next_flag c.loop-table.flags.items ts i t b c.loop-table-test.true c.table-item.is same ∙ c.loop-table.invariant P h

pub returns-clause-state : goal.returns-clause-state
returns-clause-state c = λ P h.
    let ts = c.deref-table-items.result.now in
    let i = c.loop-table.table-index in
    let end = ap (λ xs. map alone c.loop-table.flags.items ++ map items xs) (drop_all i ts c.loop-table-test.false) in
    state_is P c.args.s.now c.loop-table.flags.items h (sym (append_nil (map alone c.loop-table.flags.items)) ∙ sym end ∙ c.loop-table.invariant P h ∙ ap (map items) c.deref-table-items.ensures.value)
