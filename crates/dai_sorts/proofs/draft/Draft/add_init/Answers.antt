use Rattle.std.proofs.Common.{◌∙◌, ap, subst, length, refl}
use Rattle.std.proofs.lemmas.Result.{on_ok_weaker}
use Rattle.dai_syntax.specs.Trees.{statements_of as trees_of}
use Rattle.dai_logic.specs.Trees.{statements_of}
use Rattle.dai_rules.specs.Views.{context_of}
use Rattle.dai_sorts.specs.Scopes.{Scope}
use Rattle.dai_sorts.specs.Statements.{DirectEach}
use Rattle.dai_sorts.specs.Drafts.{drafted}
use Rattle.dai_sorts.proofs.Coding.{statements-append}
use Rattle.dai_sorts.proofs.Gaining.{gains_init}
use Rattle.dai_sorts.proofs.draft.Draft.add_init.Goals as goal

pub returns-clause-gains : goal.returns-clause-gains
returns-clause-gains c =
    let old = c.args.self.now in
    let ctx = context_of c.args.reader.now.judge in
    let body = trees_of c.args.body.now in
    on_ok_weaker c.statements.result (λ w.
    gains_init ctx.declarations ctx.here (drafted old) body (record { parameters = _; choices = c.statements.new.locals.items; code = statements_of c.statements.new.code.items }) (statements_of w.written) refl w.locals_are
    (ap statements_of w.code_is ∙ statements-append old.init.items w.written)
    (subst (λ (s : Scope). DirectEach s (length old.locals.items) body (statements_of w.written)) c.requires.outside w.does)) c.statements.ensures
