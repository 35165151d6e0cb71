use Rattle.std.proofs.Common.{◌≡◌, ◌<◌, length, Some, map, rules, sym, ◌∙◌}
use Rattle.dai_syntax.specs.Trees.{declaration_of}
use Rattle.dai_rules.specs.Names.{first_place}
use Rattle.dai_sorts.proofs.Counting.{place_within, counts_there, counts_absent}
use Rattle.dai_sorts.proofs.reader.Reader.before.Goals as goal

pub index-requires : goal.index-requires
index-requires c =
    let self = c.args.self.now in
    let ds = map declaration_of self.judge.globals.now.decls.now in
    let e : Some c.in-Some.place ≡ first_place ds c.args.name.now.text = sym c.in-Some.is ∙ c.place.ensures in
    let below : c.in-Some.place < length self.numbers.before.items = place_within ds self.numbers.before.items self.numbers.all self.counted c.args.name.now.text c.in-Some.place e in
    search (rules, below)

pub returns-in-Some : goal.returns-in-Some
returns-in-Some c =
    let self = c.args.self.now in
    let ds = map declaration_of self.judge.globals.now.decls.now in
    let e : Some c.in-Some.place ≡ first_place ds c.args.name.now.text = sym c.in-Some.is ∙ c.place.ensures in
    counts_there ds self.numbers.before.items self.numbers.all self.counted c.args.name.now.text c.in-Some.place c.index.result.now e c.index.ensures

pub returns-in-None : goal.returns-in-None
returns-in-None c =
    let self = c.args.self.now in
    let ds = map declaration_of self.judge.globals.now.decls.now in
    counts_absent ds self.numbers.before.items self.numbers.all self.counted c.args.name.now.text (sym c.in-None.is ∙ c.place.ensures)
