use Rattle.std.proofs.Common.{◌<◌, ◌∷◌, [], ◌++◌, length, arith, rules}
use Rattle.std.proofs.lemmas.List.Elements.{All-push, All-same}
use Rattle.dai_inquiry.specs.declared.truths.Pick.{Pick}
use Rattle.dai_inquiry.specs.Truths.{IsPick}
use Rattle.dai_inquiry.proofs.Bits.{pick_of}
use Rattle.dai_inquiry.proofs.truths.Truths.known.Goals as goal

pub loop-number-preserved : goal.loop-number-preserved
loop-number-preserved c = λ P frame picture clauses premises truths are.
    let number = c.loop-number.number in
    let below : number < length c.args.keys.now = search (rules, arith) in
    let pick : Pick = record { number = number; bit = c.in-Some.bit } in
    let is = pick_of P frame picture premises clauses c.args.keys.now number c.index-keys-number.result c.in-Some.bit are below c.index-keys-number.is (c.in-Some.ensures P frame picture clauses truths) in
    All-same (IsPick P frame picture premises clauses) c.push.new.self.items (c.loop-number.picks.items ++ pick ∷ []) c.in_ok-push.ensures.items
    (All-push (IsPick P frame picture premises clauses) c.loop-number.picks.items pick (c.loop-number.invariant P frame picture clauses premises truths are) is)
