use Rattle.std.proofs.Common.{arith, false, ◌<◌, length}
use Rattle.std.proofs.lemmas.List.Elements.{All-get_or}
use Rattle.dai_trail.specs.declared.cnf.Lit.{Lit}
use Rattle.dai_circuit.specs.Circuits.{all_true}
use Rattle.dai_circuit.proofs.Values.{no_literal, one_literal}
use Rattle.dai_circuit.proofs.Extensions.{defines_old}
use Rattle.dai_circuit.proofs.circuit.Circuit.all_literals.Goals as goal

pub returns-in-empty : goal.returns-in-empty
returns-in-empty c = defines_old c.args.self.now _ (all_true c.args.lits.now) tt (λ bits. no_literal bits c.args.lits.now c.in-empty.len_below)

pub returns-in-len1 : goal.returns-in-len1
returns-in-len1 c =
    let d : Lit = record { var = 0; positive = false } in
    let within : 0 < length c.args.lits.now = omega (arith, c.in-len1.len_at_least) in
    defines_old c.args.self.now _ (all_true c.args.lits.now)
    (All-get_or (λ l. l.var < c.args.self.now.vars) c.args.lits.now 0 d within c.requires)
    (λ bits. one_literal bits c.args.lits.now d c.in-len1.len_at_least c.in-len1.len_below)
