use Rattle.std.proofs.Common.{rules, ◌≡◌, ◌+◌, ◌*◌, ◌<◌, ◌∷◌, [], ℕ, List, false, get_or, take, drop, length, sym, ◌∙◌, subst, arith, Ok}
use Rattle.std.proofs.lemmas.List.{take_all, drop_all, length-map}
use Rattle.dai_circuit.specs.declared.bit.Bit.{Bit}
use Rattle.dai_circuit.specs.declared.bit.Bit.TheVariants.{Known}
use Rattle.dai_circuit.proofs.Extensions.{extends_self}
use Rattle.dai_ground.specs.declared.candidates.Candidate.{Candidate}
use Rattle.dai_ground.specs.Atoms.{columns_of, IsLookedUp}
use Rattle.dai_ground.specs.Findings.{HaveValues, Finds}
use Rattle.dai_ground.proofs.Findings.{extends_after, have_kept, finds_after}
use Rattle.dai_ground.proofs.Lookups.{AreLookedUp, not_last, lookup_kept, looked_up_none, looked_up_more, one_looked_up, looked_up_finds, end_room, end_finds}
use Rattle.dai_ground.proofs.lookup.+look_up.Goals as goal

pub returns-then-number-lookup : goal.returns-then-number-lookup
returns-then-number-lookup t c =
    let d : Bit = Known false in
    let many = length-map c.args.lookup.now.columns.now (λ column. column.items) in
    let none : drop c.args.number (columns_of c.args.lookup.now.columns.now) ≡ [] = drop_all c.args.number (columns_of c.args.lookup.now.columns.now) (let e = c.if-number-lookup.true in omega arith) in
    subst (λ b. Finds (IsLookedUp c.args.lookup.now.slots.now (drop c.args.number c.args.lookup.now.sorts.now) c.args.lookup.now.table.now (drop c.args.number (columns_of c.args.lookup.now.columns.now)) c.args.first) c.args.circuit.now c.args.circuit.now (Ok b)) (sym c.bit_of.ensures)
    (end_finds c.args.lookup.now.slots.now (drop c.args.number c.args.lookup.now.sorts.now) c.args.lookup.now.table.now (drop c.args.number (columns_of c.args.lookup.now.columns.now)) c.args.first c.args.circuit.now d none c.requires.lookup)

pub bit_of-requires : goal.bit_of-requires
bit_of-requires t c =
    let many = length-map c.args.lookup.now.columns.now (λ column. column.items) in
    let none : drop c.args.number (columns_of c.args.lookup.now.columns.now) ≡ [] = drop_all c.args.number (columns_of c.args.lookup.now.columns.now) (let e = c.if-number-lookup.true in omega arith) in
    end_room c.args.circuit.now.vars c.args.lookup.now.slots.now (drop c.args.number c.args.lookup.now.sorts.now) c.args.lookup.now.table.now (drop c.args.number (columns_of c.args.lookup.now.columns.now)) c.args.first none c.requires.lookup

pub bounds-lookup-number : goal.bounds-lookup-number
bounds-lookup-number t c =
    (not_last c.args.circuit.now.vars c.args.lookup.now.slots.now c.args.lookup.now.sorts.now c.args.lookup.now.table.now c.args.lookup.now.columns.now c.args.first c.args.number c.requires.number c.if-number-lookup.false c.requires.lookup).inside

pub bounds-lookup-lookup : goal.bounds-lookup-lookup
bounds-lookup-lookup t c =
    (not_last c.args.circuit.now.vars c.args.lookup.now.slots.now c.args.lookup.now.sorts.now c.args.lookup.now.table.now c.args.lookup.now.columns.now c.args.first c.args.number c.requires.number c.if-number-lookup.false c.requires.lookup).known

pub loop-candidate-init : goal.loop-candidate-init
loop-candidate-init t c =
    let slots = c.args.lookup.now.slots.now in
    let sorts = drop (c.args.number + 1) c.args.lookup.now.sorts.now in
    let columns = drop (c.args.number + 1) (columns_of c.args.lookup.now.columns.now) in
    let size = get_or slots (get_or c.args.lookup.now.sorts.now c.args.number 0) 0 in
    record {
      extends = extends_self c.args.circuit.now;
      parts = subst (HaveValues (AreLookedUp slots sorts c.args.lookup.now.table.now [] columns c.args.first size) c.args.circuit.now) (sym c.new-parts.ensures.items) (looked_up_none slots sorts c.args.lookup.now.table.now [] columns c.args.first size c.args.circuit.now);
    }

pub overflow_mul-place : goal.overflow_mul-place
overflow_mul-place t c =
    record { fits = (not_last c.args.circuit.now.vars c.args.lookup.now.slots.now c.args.lookup.now.sorts.now c.args.lookup.now.table.now c.args.lookup.now.columns.now c.args.first c.args.number c.requires.number c.if-number-lookup.false c.requires.lookup).short }

pub overflow_add-place : goal.overflow_add-place
overflow_add-place t c =
    let d : Candidate = record { slot = 0; bit = Known false } in
    let n = not_last c.args.circuit.now.vars c.args.lookup.now.slots.now c.args.lookup.now.sorts.now c.args.lookup.now.table.now c.args.lookup.now.columns.now c.args.first c.args.number c.requires.number c.if-number-lookup.false c.requires.lookup in
    let column = c.column_at-column.result.now in
    let inside = subst (λ (cs : List Candidate). (k : ℕ) (e : Candidate) → k < length cs → (get_or cs k e).slot < get_or c.args.lookup.now.slots.now (get_or c.args.lookup.now.sorts.now c.args.number 0) 0) (sym c.column_at-column.ensures) n.column.inside in
    record { fits = n.shorter (get_or column c.loop-candidate.candidate-index d).slot (inside c.loop-candidate.candidate-index d c.loop-candidate-test.true) }

pub look_up-requires : goal.look_up-requires
look_up-requires t c =
    let d : Candidate = record { slot = 0; bit = Known false } in
    let old = c.args.circuit.now in
    let now = c.loop-candidate.circuit in
    let n = not_last old.vars c.args.lookup.now.slots.now c.args.lookup.now.sorts.now c.args.lookup.now.table.now c.args.lookup.now.columns.now c.args.first c.args.number c.requires.number c.if-number-lookup.false c.requires.lookup in
    let column = c.column_at-column.result.now in
    let inside = subst (λ (cs : List Candidate). (k : ℕ) (e : Candidate) → k < length cs → (get_or cs k e).slot < get_or c.args.lookup.now.slots.now (get_or c.args.lookup.now.sorts.now c.args.number 0) 0) (sym c.column_at-column.ensures) n.column.inside in
    let slot = (get_or column c.loop-candidate.candidate-index d).slot in
    let below : c.args.number < length c.args.lookup.now.columns.now = (let le = c.requires.number in let ne = c.if-number-lookup.false in omega arith) in
    let place = c.args.first * get_or c.args.lookup.now.slots.now (get_or c.args.lookup.now.sorts.now c.args.number 0) 0 + slot in
    let kept = lookup_kept old.vars now.vars c.args.lookup.now.slots.now (drop (c.args.number + 1) c.args.lookup.now.sorts.now) c.args.lookup.now.table.now (drop (c.args.number + 1) (columns_of c.args.lookup.now.columns.now)) place c.loop-candidate.invariant.extends.grows (n.later slot (inside c.loop-candidate.candidate-index d c.loop-candidate-test.true)) in
    (omega arith, (omega arith, kept))

pub returns-in_err-all : goal.returns-in_err-all
returns-in_err-all t c =
    let first = extends_after c.args.circuit.now c.loop-candidate.circuit c.look_up.new.circuit c.loop-candidate.invariant.extends c.look_up.ensures.extends in
    record { extends = extends_after c.args.circuit.now c.look_up.new.circuit c.all.new.self first c.all.ensures.extends; answer = search rules }

pub returns-in_err-push : goal.returns-in_err-push
returns-in_err-push t c =
    let first = extends_after c.args.circuit.now c.loop-candidate.circuit c.look_up.new.circuit c.loop-candidate.invariant.extends c.look_up.ensures.extends in
    record { extends = extends_after c.args.circuit.now c.look_up.new.circuit c.all.new.self first c.all.ensures.extends; answer = search rules }

pub loop-candidate-preserved : goal.loop-candidate-preserved
loop-candidate-preserved t c =
    let d : Candidate = record { slot = 0; bit = Known false } in
    let old = c.args.circuit.now in
    let now = c.loop-candidate.circuit in
    let mid = c.look_up.new.circuit in
    let new = c.all.new.self in
    let slots = c.args.lookup.now.slots.now in
    let sorts = drop (c.args.number + 1) c.args.lookup.now.sorts.now in
    let table = c.args.lookup.now.table.now in
    let columns = drop (c.args.number + 1) (columns_of c.args.lookup.now.columns.now) in
    let size = get_or slots (get_or c.args.lookup.now.sorts.now c.args.number 0) 0 in
    let column = c.column_at-column.result.now in
    let i = c.loop-candidate.candidate-index in
    let one = extends_after now mid new c.look_up.ensures.extends c.all.ensures.extends in
    let bit = one_looked_up slots sorts table (get_or column i d) columns c.args.first size mid new c.in_ok-found.found c.in_ok-all.field-0 c.in_ok-found.ensures.answer c.all.ensures.extends c.in_ok-all.ensures.answer in
    let kept = have_kept (AreLookedUp slots sorts table (take i column) columns c.args.first size) now new c.loop-candidate.parts.items one c.loop-candidate.invariant.parts in
    record {
      extends = extends_after old now new c.loop-candidate.invariant.extends one;
      parts = subst (HaveValues (AreLookedUp slots sorts table (take (i + 1) column) columns c.args.first size) new) (sym c.in_ok-push.ensures.items) (looked_up_more slots sorts table column columns c.args.first size i d new c.loop-candidate.parts.items c.in_ok-all.field-0 c.loop-candidate-test.true kept bit);
    }

pub returns : goal.returns
returns t c =
    let slots = c.args.lookup.now.slots.now in
    let sort = get_or c.args.lookup.now.sorts.now c.args.number 0 in
    let sorts = drop (c.args.number + 1) c.args.lookup.now.sorts.now in
    let table = c.args.lookup.now.table.now in
    let columns = drop (c.args.number + 1) (columns_of c.args.lookup.now.columns.now) in
    let size = get_or slots sort 0 in
    let old = c.args.circuit.now in
    let now = c.loop-candidate.circuit in
    let n = not_last old.vars slots c.args.lookup.now.sorts.now table c.args.lookup.now.columns.now c.args.first c.args.number c.requires.number c.if-number-lookup.false c.requires.lookup in
    let Have = λ (taken : List Candidate) (parts : List Bit). HaveValues (AreLookedUp slots sorts table taken columns c.args.first size) now parts in
    let all = subst (λ taken. Have taken c.loop-candidate.parts.items) (take_all c.loop-candidate.candidate-index c.column_at-column.result.now c.loop-candidate-test.false ∙ c.column_at-column.ensures) c.loop-candidate.invariant.parts in
    let slice = subst (Have (get_or (columns_of c.args.lookup.now.columns.now) c.args.number [])) (sym c.as_slice.ensures.value) all in
    let finds = looked_up_finds slots sort sorts table (get_or (columns_of c.args.lookup.now.columns.now) c.args.number []) columns c.args.first now c.any.new.self c.as_slice.result.now c.any.result slice c.any.ensures in
    let here = subst (λ ss. Finds (IsLookedUp slots ss table (get_or (columns_of c.args.lookup.now.columns.now) c.args.number [] ∷ columns) c.args.first) now c.any.new.self c.any.result) (sym n.sorts_are) finds in
    let there = subst (λ cs. Finds (IsLookedUp slots (drop c.args.number c.args.lookup.now.sorts.now) table cs c.args.first) now c.any.new.self c.any.result) (sym n.columns_are) here in
    finds_after (IsLookedUp slots (drop c.args.number c.args.lookup.now.sorts.now) table (drop c.args.number (columns_of c.args.lookup.now.columns.now)) c.args.first) old now c.any.new.self c.any.result c.loop-candidate.invariant.extends there
