use Rattle.dai_dimacs.specs.Pieces.{words}
use Rattle.dai_dimacs.proofs.Asks.{lits_below, found}
use Rattle.dai_dimacs.proofs.ask.add_clause.Goals as goal

pub add-requires : goal.add-requires
add-requires c =
    let clause = found c.vars.result (words c.args.text.now) c.in_ok-lits.field-0 c.in-Some.lits c.as_slice.result.now c.formula.result.now c.args.solver.now c.in-Some.is c.as_slice.ensures.value c.vars.ensures c.formula.ensures c.in_ok-lits.ensures in
    lits_below c.args.solver.now.vars (words c.args.text.now) c.as_slice.result.now clause
