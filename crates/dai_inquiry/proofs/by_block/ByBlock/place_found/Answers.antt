use Rattle.std.proofs.Common.{◌≡◌, ◌<◌, length, sym, ◌∙◌, arith, rules}
use Rattle.dai_inquiry.proofs.Places.{place_found}
use Rattle.dai_inquiry.proofs.by_block.ByBlock.place_found.Goals as goal

pub returns-then-eq : goal.returns-then-eq
returns-then-eq c =
    let same : c.block.result ≡ c.args.block = search rules in
    let below : c.loop-place.place < length c.args.self.now.opened.items = search (rules, arith) in
    place_found c.args.self.now c.args.block c.loop-place.place c.index.result.now below c.index.ensures (sym c.block.ensures ∙ same)
