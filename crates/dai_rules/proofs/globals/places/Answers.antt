use Rattle.dai_rules.proofs.NameTables.{places_next}
use Rattle.dai_rules.proofs.globals.places.Goals as goal

pub loop-place-preserved : goal.loop-place-preserved
loop-place-preserved c =
    places_next c.args.decls.now c.loop-place.place c.index-decls-place.result c.loop-place.places.entries c.add_place.new.places.entries c.loop-place-test.true c.index-decls-place.is c.loop-place.invariant c.in_ok-add_place.ensures
