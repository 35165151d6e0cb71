use Rattle.std.proofs.Common.{rules, ◌+◌, [], List, false, get_or, take, sym, subst}
use Rattle.std.proofs.lemmas.List.{take_all}
use Rattle.dai_circuit.specs.declared.bit.Bit.{Bit}
use Rattle.dai_circuit.specs.declared.bit.Bit.TheVariants.{Known}
use Rattle.dai_circuit.specs.Circuits.{IsBitBelow}
use Rattle.dai_circuit.proofs.Extensions.{extends_self}
use Rattle.dai_ground.specs.declared.candidates.Candidate.{Candidate}
use Rattle.dai_ground.specs.Atoms.{IsComparison}
use Rattle.dai_ground.specs.Findings.{HaveValues}
use Rattle.dai_ground.proofs.Findings.{extends_after, have_kept, finds_after, below_more}
use Rattle.dai_ground.proofs.Comparisons.{AreCompared, compared_none, compared_more, one_compared, comparison_finds}
use Rattle.dai_ground.proofs.comparing.compare.Goals as goal

pub returns-in_err-parts : goal.returns-in_err-parts
returns-in_err-parts c = record { extends = extends_self c.args.circuit.now; answer = search rules }

pub loop-candidate-init : goal.loop-candidate-init
loop-candidate-init c =
    record {
      extends = extends_self c.args.circuit.now;
      parts = subst (HaveValues (AreCompared c.args.order [] c.args.right.now) c.args.circuit.now) (sym c.in_ok-parts.ensures.items) (compared_none c.args.order c.args.right.now c.args.circuit.now);
    }

pub returns-in_err-all : goal.returns-in_err-all
returns-in_err-all c =
    let first = extends_after c.args.circuit.now c.loop-candidate.circuit c.compare_slot.new.circuit c.loop-candidate.invariant.extends c.compare_slot.ensures.extends in
    record { extends = extends_after c.args.circuit.now c.compare_slot.new.circuit c.all.new.self first c.all.ensures.extends; answer = search rules }

pub returns-in_err-push : goal.returns-in_err-push
returns-in_err-push c =
    let first = extends_after c.args.circuit.now c.loop-candidate.circuit c.compare_slot.new.circuit c.loop-candidate.invariant.extends c.compare_slot.ensures.extends in
    record { extends = extends_after c.args.circuit.now c.compare_slot.new.circuit c.all.new.self first c.all.ensures.extends; answer = search rules }

pub loop-candidate-preserved : goal.loop-candidate-preserved
loop-candidate-preserved c =
    let d : Candidate = record { slot = 0; bit = Known false } in
    let old = c.args.circuit.now in
    let now = c.loop-candidate.circuit in
    let mid = c.compare_slot.new.circuit in
    let new = c.all.new.self in
    let left = c.args.left.now in
    let i = c.loop-candidate.candidate-index in
    let one = extends_after now mid new c.compare_slot.ensures.extends c.all.ensures.extends in
    let below : IsBitBelow mid.vars (get_or left i d).bit =
    below_more old.vars mid.vars (get_or left i d).bit (extends_after old now mid c.loop-candidate.invariant.extends c.compare_slot.ensures.extends).grows (c.requires.left i d c.loop-candidate-test.true) in
    let bit = one_compared c.args.order (get_or left i d) c.args.right.now mid new c.in_ok-compared.compared c.in_ok-all.field-0 below c.in_ok-compared.ensures.answer c.all.ensures.extends c.in_ok-all.ensures.answer in
    let kept = have_kept (AreCompared c.args.order (take i left) c.args.right.now) now new c.loop-candidate.parts.items one c.loop-candidate.invariant.parts in
    record {
      extends = extends_after old now new c.loop-candidate.invariant.extends one;
      parts = subst (HaveValues (AreCompared c.args.order (take (i + 1) left) c.args.right.now) new) (sym c.in_ok-push.ensures.items) (compared_more c.args.order left c.args.right.now i d new c.loop-candidate.parts.items c.in_ok-all.field-0 c.loop-candidate-test.true kept bit);
    }

pub returns : goal.returns
returns c =
    let left = c.args.left.now in
    let now = c.loop-candidate.circuit in
    let Have = λ (taken : List Candidate) (parts : List Bit). HaveValues (AreCompared c.args.order taken c.args.right.now) now parts in
    let all = subst (λ taken. Have taken c.loop-candidate.parts.items) (take_all c.loop-candidate.candidate-index left c.loop-candidate-test.false) c.loop-candidate.invariant.parts in
    let slice = subst (Have left) (sym c.as_slice.ensures.value) all in
    finds_after (IsComparison c.args.order left c.args.right.now) c.args.circuit.now now c.any.new.self c.any.result c.loop-candidate.invariant.extends
    (comparison_finds c.args.order left c.args.right.now now c.any.new.self c.as_slice.result.now c.any.result slice c.any.ensures)
