use Rattle.std.proofs.Common.{rules}
use Rattle.dai_circuit.specs.Circuits.{all_true}
use Rattle.dai_circuit.proofs.Extensions.{all_true-local, below_grown, defines_tied, extends_equal, extends_tied}
use Rattle.dai_circuit.proofs.circuit.Circuit.define_all.Goals as goal

pub tie_all-requires-clause-lits : goal.tie_all-requires-clause-lits
tie_all-requires-clause-lits c = below_grown c.args.self.now c.fresh.new.self c.args.lits.now (c.in_ok-var.ensures.ok).1 c.requires

pub returns-in_err-var : goal.returns-in_err-var
returns-in_err-var c = record { extends = extends_equal c.args.self.now c.fresh.new.self c.in_err-var.ensures.err; answer = search rules }

pub returns-in_err-tie_all : goal.returns-in_err-tie_all
returns-in_err-tie_all c =
    record { extends = extends_tied c.args.self.now c.fresh.new.self c.tie_all.new.self c.in_ok-var.var (all_true c.args.lits.now) c.fresh.ensures.over (all_true-local c.args.self.now.vars c.args.lits.now c.requires) (c.in_ok-var.ensures.ok).1 (c.in_ok-var.ensures.ok).0 c.tie_all.ensures.adds; answer = search rules }

pub returns : goal.returns
returns c =
    defines_tied c.args.self.now c.fresh.new.self c.tie_all.new.self c.in_ok-var.var (all_true c.args.lits.now) c.fresh.ensures.over (all_true-local c.args.self.now.vars c.args.lits.now c.requires) (c.in_ok-var.ensures.ok).1 (c.in_ok-var.ensures.ok).0 c.tie_all.ensures.adds c.in_ok-tie_all.ensures.ok
