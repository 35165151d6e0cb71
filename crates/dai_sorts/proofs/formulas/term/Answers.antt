use Rattle.dai_rules.specs.Views.{naming_of}
use Rattle.dai_sorts.proofs.Walking.{number_few}
use Rattle.dai_sorts.proofs.formulas.term.Goals as goal

pub overflow_cast-result : goal.overflow_cast-result
overflow_cast-result c =
    let v = c.in-Variable in
    record { fits = number_few (naming_of c.args.naming.now) c.args.arg.now v.name v.sort c.in_ok-number-in-Variable.number v.is c.in_ok-number-in-Variable.ensures.number c.requires }
