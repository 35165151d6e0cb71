use Rattle.std.proofs.Common.{subst, map}
use Rattle.std.specs.List.{flat_map}
use Rattle.dai_syntax.specs.Trees.{formula_of as tree_of}
use Rattle.dai_logic.specs.Trees.{formula_of}
use Rattle.dai_rules.specs.Sites.{as_axiom, assigned_by}
use Rattle.dai_rules.specs.Views.{context_of}
use Rattle.dai_sorts.specs.Scopes.{Scope}
use Rattle.dai_sorts.specs.Formulas.{IsSentence}
use Rattle.dai_sorts.specs.Drafts.{drafted}
use Rattle.dai_sorts.proofs.Gaining.{gains_axiom, map_gains}
use Rattle.dai_sorts.proofs.draft.Draft.add_axiom.Goals as goal

pub returns : goal.returns
returns c = λ at.
    let old = c.args.self.now in
    let ctx = context_of c.args.reader.now.judge in
    let f = tree_of c.args.body.now in
    let g = formula_of c.in_ok-sentence.field-0 in
    gains_axiom ctx.declarations ctx.here (drafted old) f at (map formula_of c.push.new.self.items) g (map_gains formula_of old.axioms.items c.push.new.self.items c.in_ok-sentence.field-0 c.in_ok-push.ensures.items)
    (subst (λ (s : Scope). IsSentence s (as_axiom (flat_map assigned_by ctx.declarations)) f g) c.requires.outside c.in_ok-sentence.ensures)
