use Rattle.std.proofs.Common.{◌∙◌, ap, drop}
use Rattle.std.specs.Prelude.{reverse}
use Rattle.std.proofs.lemmas.List.{take_rest}
use Rattle.dai_logic.specs.Trees.{formula_of}
use Rattle.dai_rules.specs.Views.{naming_of}
use Rattle.dai_rules.proofs.VariableLemmas.{own_from, outer_to}
use Rattle.dai_sorts.specs.Formulas.{over}
use Rattle.dai_sorts.proofs.formulas.leave.Goals as goal

pub returns-clause-meant : goal.returns-clause-meant
returns-clause-meant c = λ own outer e f.
    let whole = over c.args.universal c.args.types.now in
    c.in_ok-whole.ensures ∙ ap (λ xs. whole (reverse xs) (formula_of c.args.body)) (take_rest c.deref.result.now c.args.outside) ∙ ap (λ xs. whole (reverse (drop c.args.outside xs)) (formula_of c.args.body)) c.deref.ensures.value
    ∙ ap (λ vs. whole vs (formula_of c.args.body)) (own_from c.args.naming.now.bound.items own outer e c.args.outside f)

pub returns-clause-named : goal.returns-clause-named
returns-clause-named c = λ own outer e f.
    let bound = ap reverse c.truncate.ensures.items ∙ outer_to c.args.naming.now.bound.items own outer e c.args.outside f in
    λ i. record { variables = (naming_of c.args.naming.now).variables; bound = bound i; free = c.args.naming.now.free.items }
