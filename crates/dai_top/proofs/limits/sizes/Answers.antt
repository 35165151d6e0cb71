use Rattle.std.proofs.Common.{length, arith, ◌∙◌, ap}
use Rattle.std.proofs.lemmas.List.{length-map}
use Rattle.dai_logic.specs.Parts.{sort_of}
use Rattle.dai_logic.specs.Protocols.{protocol_of}
use Rattle.dai_top.proofs.Enough.{sizes_length}
use Rattle.dai_top.proofs.limits.sizes.Goals as goal

pub returns-clause-long : goal.returns-clause-long
returns-clause-long c =
    let P = protocol_of c.args.protocol.now in
    let all = ap length c.in_ok-bounds.ensures ∙ (sizes_length P c.args.vars.now ∙ length-map c.args.protocol.now.sorts.items sort_of) in
    omega (arith, all)
