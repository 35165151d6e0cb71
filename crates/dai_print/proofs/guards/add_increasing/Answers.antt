use Rattle.std.proofs.Common.{◌≤◌, ℕ, List, ◌++◌, sym, ◌∙◌, ap}
use Rattle.std.proofs.lemmas.List.{append-nil}
use Rattle.dai_logic.specs.Protocols.{protocol_of}
use Rattle.dai_template.specs.Atoms.{lists_of}
use Rattle.dai_print.proofs.Pieces.{increasing_end}
use Rattle.dai_print.proofs.guards.add_increasing.Goals as goal

pub returns : goal.returns
returns c =
    let above : 1 ≤ c.loop-next.next = c.loop-next.auto.next in
    sym (ap (λ (gs : List (List ℕ)). lists_of c.loop-next.pieces.items ++ gs) (increasing_end (protocol_of c.args.protocol.now) c.args.vars.now c.loop-next.next above c.loop-next-test.false) ∙ append-nil (lists_of c.loop-next.pieces.items))
    ∙ c.loop-next.invariant
