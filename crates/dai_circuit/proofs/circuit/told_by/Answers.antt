use Rattle.std.proofs.Common.{◌≡◌, ◌<◌, true, sym, subst}
use Rattle.std.specs.List.{All}
use Rattle.std.proofs.lemmas.List.Elements.{All-contains}
use Rattle.dai_trail.specs.declared.cnf.Lit.{Lit}
use Rattle.dai_trail.specs.Formula.{IsBelow, value_at}
use Rattle.dai_sat.specs.Under.{IsOutcomeOf}
use Rattle.dai_circuit.proofs.Values.{below-literals}
use Rattle.dai_circuit.proofs.Models.{model_under, core_under}
use Rattle.dai_circuit.proofs.circuit.told_by.Goals as goal

pub returns-in-Model : goal.returns-in-Model
returns-in-Model c = λ f lits over below are o. model_under f c.args.parts.now lits c.args.outcome c.in-Model.model c.in-Model.is are o

pub variables_of-requires : goal.variables_of-requires
variables_of-requires c =
    let n = c.args.vars in
    let f = c.requires.0 in
    let lits = c.requires.1 in
    let names = c.in-Unsat.names.items in
    let h = subst (IsOutcomeOf f lits) c.in-Unsat.is c.requires.5 in
    let inside : IsBelow n lits = subst (IsBelow n) (sym c.requires.4.lits_are) (below-literals n c.args.parts.now c.requires.3) in
    let named : IsBelow n names = λ k d l. All-contains (λ (m : Lit). m.var < n) lits _ inside (h.0 k d l) in
    subst (IsBelow n) (sym c.as_slice.ensures.value) named

pub returns-in_ok-marked-in-Unsat : goal.returns-in_ok-marked-in-Unsat
returns-in_ok-marked-in-Unsat c = λ f lits over below are o.
    let marks = c.in_ok-marks-in-Unsat.marks.items in
    let marked = subst (All (λ (l : Lit). value_at marks l.var ≡ true)) c.as_slice.ensures.value c.in_ok-marks-in-Unsat.ensures in
    core_under f c.args.parts.now lits c.args.outcome c.in-Unsat.names c.as_slice-in-Unsat.result.now c.in_ok-marked-in-Unsat.field-0 c.in-Unsat.is over below are
    (subst (λ ms. All (λ (l : Lit). value_at ms l.var ≡ true) c.in-Unsat.names.items) (sym c.as_slice-in-Unsat.ensures.value) marked)
    c.in_ok-marked-in-Unsat.ensures o
