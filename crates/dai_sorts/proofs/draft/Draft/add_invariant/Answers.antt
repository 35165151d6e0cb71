use Rattle.std.proofs.Common.{◌+◌, ◌∙◌, ap, sym, subst, map}
use Rattle.std.proofs.lemmas.List.{length-map}
use Rattle.dai_syntax.specs.Trees.{formula_of as tree_of}
use Rattle.dai_logic.specs.Trees.{formula_of}
use Rattle.dai_logic.specs.Protocols.{invariant_of}
use Rattle.dai_rules.specs.Sites.{as_invariant}
use Rattle.dai_rules.specs.Views.{context_of}
use Rattle.dai_sorts.specs.Scopes.{Scope}
use Rattle.dai_sorts.specs.Formulas.{IsSentence}
use Rattle.dai_sorts.specs.Protocols.{label_at}
use Rattle.dai_sorts.specs.Drafts.{drafted}
use Rattle.dai_sorts.proofs.Gaining.{gains_invariant, map_gains}
use Rattle.dai_sorts.proofs.draft.Draft.add_invariant.Goals as goal

pub returns : goal.returns
returns c = λ at.
    let old = c.args.self.now in
    let ctx = context_of c.args.reader.now.judge in
    let f = tree_of c.args.body.now in
    let g = formula_of c.in_ok-body.body in
    gains_invariant ctx.declarations ctx.here (drafted old) c.args.label.now f at (map invariant_of c.push.new.self.items) (record { label = c.in_ok-label.label; body = g })
    (map_gains invariant_of old.invariants.items c.push.new.self.items _ c.in_ok-push.ensures.items)
    (c.in_ok-label.ensures ∙ ap (λ n. label_at (1 + n) c.args.label.now) (sym (length-map old.invariants.items invariant_of)))
    (subst (λ (s : Scope). IsSentence s as_invariant f g) c.requires.outside c.in_ok-body.ensures)
