use Rattle.std.proofs.Common.{ap, ◌∙◌, length}
use Rattle.dai_logic.proofs.Samples.{state_fits}
use Rattle.dai_logic.proofs.tests.state.Goals as goal

pub returns : goal.returns
returns c =
    state_fits (record { sizes = c.in_ok-vec.field-0; tables = c.in_ok-vec-2.field-0; values = c.in_ok-vec-3.field-0 }) c.in_ok-first.first c.in_ok-second.second c.args.c
    c.in_ok-vec.ensures.items c.in_ok-vec-2.ensures.items (ap length c.in_ok-first.ensures.items ∙ c.requires.pairs) (ap length c.in_ok-second.ensures.items ∙ c.requires.elements) c.in_ok-vec-3.ensures.items c.requires.element
