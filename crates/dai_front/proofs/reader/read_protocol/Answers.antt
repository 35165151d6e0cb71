use Rattle.std.proofs.Common.{subst}
use Rattle.dai_front.specs.declared.reader.Stop.{Stop}
use Rattle.dai_front.specs.Refusals.{IsRefusal, IsStop}
use Rattle.dai_front.proofs.reader.read_protocol.Goals as goal

pub returns-in-Err-At-clause-refused : goal.returns-in-Err-At-clause-refused
returns-in-Err-At-clause-refused c =
    let P : Stop → Type 0 = λ s. IsStop c.args.bytes.now s in
    let r : IsRefusal c.args.bytes.now c.in-Err-At.number c.in-Err-At.at = subst P c.in-Err-At.field-0-is c.in-Err-At.ensures.refused in
    record { fault = record { offset = c.in-Err-At.at; refused = r.refused; is_place = c.place_after.ensures }; listed = r.listed }
