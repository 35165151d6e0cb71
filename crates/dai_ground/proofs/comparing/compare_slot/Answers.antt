use Rattle.std.proofs.Common.{rules, ◌≡◌, ◌++◌, ◌∷◌, [], List, Bool, true, false, get_or, ap, sym, ◌∙◌, subst, refl, Vec, Global}
use Rattle.std.proofs.lemmas.List.{take_all}
use Rattle.dai_circuit.specs.declared.bit.Bit.{Bit}
use Rattle.dai_circuit.specs.declared.bit.Bit.TheVariants.{Known}
use Rattle.dai_circuit.specs.Circuits.{AreBitsBelow}
use Rattle.dai_circuit.proofs.Extensions.{extends_self}
use Rattle.dai_ground.specs.declared.candidates.Candidate.{Candidate}
use Rattle.dai_ground.proofs.Comparisons.{compared, compared_next, compared_below, compared_finds}
use Rattle.dai_ground.proofs.comparing.compare_slot.Goals as goal
use Rattle.dai_ground.proofs.comparing.compare_slot.Goals.{then-holds+in_ok-push, else-holds}

pub returns-in_err-push : goal.returns-in_err-push
returns-in_err-push c = record { extends = extends_self c.args.circuit.now; answer = search rules }

pub loop-candidate-preserved : goal.loop-candidate-preserved
loop-candidate-preserved c =
    let d : Candidate = record { slot = 0; bit = Known false } in
    let next = λ (b : Bool) (is : c.holds.result ≡ b). compared_next c.args.order c.args.left c.args.right.now c.loop-candidate.candidate-index d b c.loop-candidate-test.true (sym c.holds.ensures ∙ is) in
    elim c.if-holds.branch [
      | then-holds+in_ok-push w ↦ record { circuit = refl; parts = ap (λ (v : Vec Bit Global). v.items) w.parts-is ∙ (w.in_ok-push.ensures.items ∙ (ap (λ (bs : List Bit). bs ++ (get_or c.args.right.now c.loop-candidate.candidate-index d).bit ∷ []) c.loop-candidate.invariant.parts ∙ sym (next true w.if-holds.true))) }
      | else-holds w ↦ record { circuit = refl; parts = ap (λ (v : Vec Bit Global). v.items) w.parts-is ∙ (c.loop-candidate.invariant.parts ∙ sym (next false w.if-holds.false)) }
    ]

pub any-requires : goal.any-requires
any-requires c =
    let all : c.as_slice.result.now ≡ compared c.args.order c.args.left c.args.right.now = c.as_slice.ensures.value ∙ (c.loop-candidate.invariant.parts ∙ ap (compared c.args.order c.args.left) (take_all c.loop-candidate.candidate-index c.args.right.now c.loop-candidate-test.false)) in
    subst (AreBitsBelow c.args.circuit.now.vars) (sym all) (compared_below c.args.circuit.now.vars c.args.order c.args.left c.args.right.now c.requires)

pub returns : goal.returns
returns c =
    let all : c.as_slice.result.now ≡ compared c.args.order c.args.left c.args.right.now = c.as_slice.ensures.value ∙ (c.loop-candidate.invariant.parts ∙ ap (compared c.args.order c.args.left) (take_all c.loop-candidate.candidate-index c.args.right.now c.loop-candidate-test.false)) in
    compared_finds c.args.order c.args.left c.args.right.now c.args.circuit.now c.any.new.self c.as_slice.result.now c.any.result all c.any.ensures
