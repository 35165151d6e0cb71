use Rattle.dai_circuit.proofs.Extensions.{extends_equal, extends_input}
use Rattle.dai_circuit.proofs.circuit.Circuit.input.Goals as goal

pub returns-in_err-var-clause-extends : goal.returns-in_err-var-clause-extends
returns-in_err-var-clause-extends c = extends_equal c.args.self.now c.fresh.new.self c.in_err-var.ensures.err

pub returns-clause-extends : goal.returns-clause-extends
returns-clause-extends c = extends_input c.args.self.now c.fresh.new.self c.fresh.ensures.over (c.in_ok-var.ensures.ok).1
