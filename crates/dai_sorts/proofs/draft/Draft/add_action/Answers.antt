use Rattle.std.proofs.Common.{◌∙◌, sym, map}
use Rattle.dai_syntax.specs.Trees.{statements_of as trees_of}
use Rattle.dai_logic.specs.Protocols.{action_of}
use Rattle.dai_rules.specs.Views.{context_of}
use Rattle.dai_sorts.specs.Drafts.{drafted}
use Rattle.dai_sorts.proofs.Gaining.{gains_action, gains_hidden, map_gains}
use Rattle.dai_sorts.proofs.draft.Draft.add_action.Goals as goal

pub returns-in_ok-push-clause-gains : goal.returns-in_ok-push-clause-gains
returns-in_ok-push-clause-gains c = λ flag.
    let old = c.args.self.now in
    let ctx = context_of c.args.reader.now.judge in
    let a = c.in_ok-action.field-0 in
    gains_action ctx.declarations ctx.here (drafted old) c.args.name.now c.args.params.now (trees_of c.args.body.now) flag (map action_of c.push.new.self.items) (action_of a) (sym c.if-exported.true ∙ c.requires.exported)
    (map_gains action_of old.actions.items c.push.new.self.items a c.in_ok-push.ensures.items) c.in_ok-action.ensures.meant

pub returns-else-exported-clause-gains : goal.returns-else-exported-clause-gains
returns-else-exported-clause-gains c = λ flag.
    let ctx = context_of c.args.reader.now.judge in
    gains_hidden ctx.declarations ctx.here (drafted c.args.self.now) c.args.name.now c.args.params.now (trees_of c.args.body.now) flag (sym c.if-exported.false ∙ c.requires.exported)
