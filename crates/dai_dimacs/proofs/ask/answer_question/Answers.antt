use Rattle.std.proofs.Common.{◌≡◌, ◌^◌, ◌<◌, Fits, w64, ◌∙◌, ap, subst, rules}
use Rattle.dai_trail.specs.Formula.{Formula}
use Rattle.dai_dimacs.specs.Pieces.{words}
use Rattle.dai_dimacs.proofs.Asks.{lits_below, found, namable}
use Rattle.dai_dimacs.proofs.ask.answer_question.Goals as goal

pub solve_under-requires : goal.solve_under-requires
solve_under-requires c =
    let clause = found c.vars.result (words c.args.text.now) c.in_ok-lits.field-0 c.in-Some.lits c.as_slice.result.now c.formula.result.now c.args.solver.now c.in-Some.is c.as_slice.ensures.value c.vars.ensures c.formula.ensures c.in_ok-lits.ensures in
    lits_below c.args.solver.now.vars (words c.args.text.now) c.as_slice.result.now clause

pub push_outcome-requires : goal.push_outcome-requires
push_outcome-requires c =
    let clause = found c.vars.result (words c.args.text.now) c.in_ok-lits.field-0 c.in-Some.lits c.as_slice.result.now c.formula.result.now c.args.solver.now c.in-Some.is c.as_slice.ensures.value c.vars.ensures c.formula.ensures c.in_ok-lits.ensures in
    let below = lits_below c.args.solver.now.vars (words c.args.text.now) c.as_slice.result.now clause in
    let same : c.vars.result ≡ c.args.solver.now.vars = c.vars.ensures ∙ ap (λ (f : Formula). f.vars) c.formula.ensures in
    let known : Fits w64 c.vars.result = search rules in
    let fits : c.args.solver.now.vars < 2 ^ 64 = subst (λ n. n < 2 ^ 64) same known.fits in
    namable c.args.solver.now c.as_slice.result.now c.in_ok-outcome.outcome fits below c.in_ok-outcome.ensures.answer

pub returns : goal.returns
returns c =
    let clause = found c.vars.result (words c.args.text.now) c.in_ok-lits.field-0 c.in-Some.lits c.as_slice.result.now c.formula.result.now c.args.solver.now c.in-Some.is c.as_slice.ensures.value c.vars.ensures c.formula.ensures c.in_ok-lits.ensures in
    record {
      lits = c.as_slice.result.now;
      clause = clause;
      outcome = c.in_ok-outcome.outcome;
      is_right = c.in_ok-outcome.ensures.answer;
      same = c.in_ok-outcome.ensures.same;
      told = c.in_ok-push_outcome.ensures;
    }
