use Rattle.std.proofs.Common.{◌∙◌, sym, ap}
use Rattle.std.specs.List.{list_any}
use Rattle.dai_table.specs.Flags.{holds_in}
use Rattle.dai_table.proofs.judging.first_broken.Goals as goal

pub bounds-met-step : goal.bounds-met-step
bounds-met-step c = c.requires.inside c.index-steps-place.result (c.loop-place.place, c.loop-place-test.true, sym c.index-steps-place.is)

pub returns-then-not-is_met : goal.returns-then-not-is_met
returns-then-not-is_met c = record {
  step = c.index-steps-place.result;
  inside = c.loop-place-test.true;
  is = sym c.index-steps-place.is;
  met_before = c.if-met-step.true;
  broken = sym (ap (λ v. list_any (holds_in v) c.args.goal.now.lits.items) (c.deref.ensures.value)) ∙ sym c.if-not-is_met.ensures;
}
