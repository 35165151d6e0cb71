use Rattle.dai_picture.proofs.Constraints.{mark_all}
use Rattle.dai_picture.proofs.rules.mark.Goals as goal

pub returns : goal.returns
returns c = mark_all c.args.circuit.now c.require.new.self c.mark_used.new.circuit c.mark_apart.new.circuit c.args.used.now c.args.row.now c.in_ok-require.ensures.ok c.in_ok-mark_used.ensures c.in_ok-mark_apart.ensures
