use Rattle.std.proofs.Common.{Result, Ok, Err}
use Rattle.std.specs.Prelude.{OnOk}
use Rattle.dai_base.specs.declared.memory.Spent.{Spent}
use Rattle.dai_circuit.specs.declared.bit.Bit.{Bit}
use Rattle.dai_ground.proofs.Choices.{chosen_picture_kept}
use Rattle.dai_ground.proofs.merging.join.Goals as goal

on_any : (result : Result Bit Spent) (C : Type 0) → C → OnOk result C
on_any (Ok b) C c = c
on_any (Err e) C c = tt

pub returns-clause-chosen : goal.returns-clause-chosen
returns-clause-chosen c =
    on_any c.if_then_else.result _ (chosen_picture_kept c.merge.new.circuit c.if_then_else.new.circuit c.args.condition c.args.picture.now c.args.other.now c.in_ok-picture.field-0 c.if_then_else.ensures.extends c.in_ok-picture.ensures.chosen)
