use Rattle.std.proofs.Common.{ℕ, Vec}
use Rattle.std.specs.declared.alloc.Global.{Global}
use Rattle.dai_model.specs.Report.{binder_text}
use Rattle.dai_model.proofs.Folds.{pushed_number}
use Rattle.dai_logic.specs.Protocols.{protocol_of}
use Rattle.dai_template.specs.Atoms.{lists_of, variable_of}
use Rattle.dai_print.proofs.guards.add_binders.Goals as goal

pub loop-number-preserved : goal.loop-number-preserved
loop-number-preserved c =
    pushed_number (λ (v : Vec ℕ Global). v.items) (λ n. binder_text (protocol_of c.args.protocol.now) (variable_of (c.args.sort, n))) c.loop-number.number (lists_of c.args.pieces.now.items) c.loop-number.pieces.items _ c.in_ok-binder_text.field-0
    c.in_ok-push.ensures.items c.in_ok-binder_text.ensures c.loop-number.invariant
