use Rattle.std.proofs.Common.{ap, ◌∙◌, subst, map, List}
use Rattle.std.specs.List.{All, Contains}
use Rattle.dai_sat.specs.declared.question.Found.{Found}
use Rattle.dai_trail.specs.declared.cnf.Lit.{Lit}
use Rattle.dai_trail.specs.Formula.{IsTrueAt}
use Rattle.dai_trail.specs.Codes.{lit_of}
use Rattle.dai_sat.specs.Under.{IsFoundFor}
use Rattle.dai_trail.proofs.Encodings.{map_lit_of-map_code_of}
use Rattle.dai_sat.proofs.question.outcome_of.Goals as goal

pub returns-in-Model-clause-outcome : goal.returns-in-Model-clause-outcome
returns-in-Model-clause-outcome c =
    let P : Found → Type 0 = λ x. IsFoundFor c.args.cnf.now c.args.asked.now.codes.items x in
    let found = subst P c.in-Model.is c.requires.found in
    let e = ap (map lit_of) c.requires.codes ∙ map_lit_of-map_code_of c.args.assumptions.now in
    let Q : List Lit → Type 0 = λ xs. All (IsTrueAt c.in-Model.bits.items) xs in
    (found.0, subst Q e found.1)

pub returns-in-Failed-clause-outcome : goal.returns-in-Failed-clause-outcome
returns-in-Failed-clause-outcome c =
    let P : Found → Type 0 = λ x. IsFoundFor c.args.cnf.now c.args.asked.now.codes.items x in
    let found = subst P c.in-Failed.is c.requires.found in
    let e = ap (map lit_of) c.requires.codes ∙ map_lit_of-map_code_of c.args.assumptions.now in
    let Q : List Lit → Type 0 = λ xs. All (λ l. Contains xs l) c.in-Failed.names.items in
    (subst Q e found.asks, λ bits model. found.refutes bits model.meets)
