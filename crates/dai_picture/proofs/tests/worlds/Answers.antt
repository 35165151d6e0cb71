use Rattle.std.proofs.Common.{◌∷◌, [], List, Bool, length, ap, sym, ◌∙◌, subst, arith}
use Rattle.dai_trail.specs.Formula.{Formula, AreMetBy}
use Rattle.dai_logic.specs.Protocols.{protocol_of}
use Rattle.dai_picture.proofs.DecodedWorld.{decodable}
use Rattle.dai_picture.proofs.tests.worlds.Goals as goal

pub decode-requires : goal.decode-requires
decode-requires c =
    let P = protocol_of c.in_ok-protocol.protocol in
    let d = c.in_ok-drawing.drawing in
    let same = c.formula-formula.ensures in
    let vars = ap (λ (f : Formula). f.vars) same in
    let long = c.loop.invariant in
    let value = c.as_slice-then-are_met.ensures.value in
    let first = c.as_slice.ensures.value in
    let bits = c.as_slice-then-are_met.result.now in
    let as_long = ap length value in
    let met : AreMetBy c.formula-formula.result.now bits = subst (λ (xs : List Bool). AreMetBy c.formula-formula.result.now xs) (first ∙ sym value) (c.are_met.ensures c.if-are_met.true) in
    decodable P (1 ∷ []) [] (1 ∷ 2 ∷ []) c.args.exact c.draw.new.circuit c.draw.new.circuit.vars d.frame d.picture bits c.in_ok-drawing.ensures.slots c.in_ok-drawing.ensures.frame c.in_ok-drawing.ensures.picture c.in_ok-drawing.ensures.draws (omega arith)
    (subst (λ (f : Formula). AreMetBy f bits) same met)
