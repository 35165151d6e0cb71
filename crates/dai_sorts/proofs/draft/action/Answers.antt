use Rattle.std.proofs.Common.{◌∙◌, ap, sym, length}
use Rattle.dai_sorts.specs.Scopes.{Scope, parameters_from}
use Rattle.dai_sorts.specs.Readers.{scope_of}
use Rattle.dai_sorts.proofs.draft.action.Goals as goal

pub returns-clause-scope : goal.returns-clause-scope
returns-clause-scope c =
    let params = c.args.params.now in
    let outer = scope_of c.args.reader.now in
    c.leave.ensures params (parameters_from 0 params) outer (c.in_ok-statements.ensures.scope ∙ c.in_ok-types.ensures.scope)
    (sym (ap (λ (s : Scope). length s.context.inside) c.requires.outside)) (sym (ap (λ (s : Scope). length s.terms) c.requires.outside))
