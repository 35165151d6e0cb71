use Rattle.std.proofs.Common.{◌≡◌, ◌∙◌, ap, sym, subst}
use Rattle.std.proofs.lemmas.Result.{on_ok_weaker}
use Rattle.dai_syntax.specs.Tree as Tree
use Rattle.dai_syntax.specs.Tree.{Declaration}
use Rattle.std.specs.List.{flat_map}
use Rattle.dai_syntax.specs.Trees.{declaration_of, formula_of as tree_of, statements_of as trees_of}
use Rattle.dai_rules.specs.Names.{Context}
use Rattle.dai_rules.specs.Sites.{as_axiom, as_invariant, assigned_by, sentence_sites, context_at}
use Rattle.dai_rules.specs.Views.{context_of}
use Rattle.dai_sorts.specs.Scopes.{Scope}
use Rattle.dai_sorts.specs.Sound.{AreUnbroken}
use Rattle.dai_sorts.specs.Drafts.{IsSoundDeclaration, drafted}
use Rattle.dai_sorts.specs.Gains.{Gains}
use Rattle.dai_sorts.proofs.Gaining.{gains_export}
use Rattle.dai_sorts.proofs.draft.Draft.add.Goals as goal

pub add_axiom-requires-clause-unbroken : goal.add_axiom-requires-clause-unbroken
add_axiom-requires-clause-unbroken c =
    let ctx = context_of c.args.reader.now.judge in
    let e : ctx ≡ context_at ctx.declarations ctx.here = ap (λ (s : Scope). s.context) c.requires.outside in
    subst (λ (k : Context). AreUnbroken (sentence_sites k (as_axiom (flat_map assigned_by ctx.declarations)) (tree_of c.in-AxiomDecl.body))) (sym e) (subst (IsSoundDeclaration ctx.declarations ctx.here) (ap declaration_of c.in-AxiomDecl.is) c.requires.sound)

pub add_invariant-requires-clause-unbroken : goal.add_invariant-requires-clause-unbroken
add_invariant-requires-clause-unbroken c =
    let ctx = context_of c.args.reader.now.judge in
    let e : ctx ≡ context_at ctx.declarations ctx.here = ap (λ (s : Scope). s.context) c.requires.outside in
    subst (λ (k : Context). AreUnbroken (sentence_sites k as_invariant (tree_of c.in-InvDecl.body))) (sym e) (subst (IsSoundDeclaration ctx.declarations ctx.here) (ap declaration_of c.in-InvDecl.is) c.requires.sound)

pub returns-in-SortDecl-clause-gains : goal.returns-in-SortDecl-clause-gains
returns-in-SortDecl-clause-gains c =
    let ctx = context_of c.args.reader.now.judge in
    let old = drafted c.args.self.now in
    let new = drafted c.add_sort.new.self in
    on_ok_weaker c.add_sort.result (λ h. subst (λ (d : Declaration). Gains ctx.declarations ctx.here d old new) (sym (ap declaration_of c.in-SortDecl.is)) (h ctx.declarations ctx.here)) c.add_sort.ensures

pub returns-in-RelDecl-clause-gains : goal.returns-in-RelDecl-clause-gains
returns-in-RelDecl-clause-gains c =
    let ctx = context_of c.args.reader.now.judge in
    let old = drafted c.args.self.now in
    let new = drafted c.add_relation.new.self in
    on_ok_weaker c.add_relation.result (λ h. subst (λ (d : Declaration). Gains ctx.declarations ctx.here d old new) (ap (Tree.relation c.in-RelDecl.name) c.deref.ensures.value ∙ sym (ap declaration_of c.in-RelDecl.is)) (h ctx.here)) c.add_relation.ensures

pub returns-in-IndDecl-clause-gains : goal.returns-in-IndDecl-clause-gains
returns-in-IndDecl-clause-gains c =
    let ctx = context_of c.args.reader.now.judge in
    let old = drafted c.args.self.now in
    let new = drafted c.add_individual.new.self in
    on_ok_weaker c.add_individual.result (λ h. subst (λ (d : Declaration). Gains ctx.declarations ctx.here d old new) (sym (ap declaration_of c.in-IndDecl.is)) (h ctx.here)) c.add_individual.ensures

pub returns-in-AxiomDecl-clause-gains : goal.returns-in-AxiomDecl-clause-gains
returns-in-AxiomDecl-clause-gains c =
    let ctx = context_of c.args.reader.now.judge in
    let old = drafted c.args.self.now in
    let new = drafted c.add_axiom.new.self in
    on_ok_weaker c.add_axiom.result (λ h. subst (λ (d : Declaration). Gains ctx.declarations ctx.here d old new) (sym (ap declaration_of c.in-AxiomDecl.is)) (h c.in-AxiomDecl.at)) c.add_axiom.ensures

pub returns-in-ActionDecl-clause-gains : goal.returns-in-ActionDecl-clause-gains
returns-in-ActionDecl-clause-gains c =
    let ctx = context_of c.args.reader.now.judge in
    let old = drafted c.args.self.now in
    let new = drafted c.add_action.new.self in
    on_ok_weaker c.add_action.result (λ h. subst (λ (d : Declaration). Gains ctx.declarations ctx.here d old new) ((λ i. Tree.action c.in-ActionDecl.name (c.deref-in-ActionDecl.ensures.value i) (trees_of (c.deref-in-ActionDecl-2.ensures.value i)) c.in-ActionDecl.exported) ∙ sym (ap declaration_of c.in-ActionDecl.is)) (h c.in-ActionDecl.exported)) c.add_action.ensures.gains

pub returns-in-InvDecl-clause-gains : goal.returns-in-InvDecl-clause-gains
returns-in-InvDecl-clause-gains c =
    let ctx = context_of c.args.reader.now.judge in
    let old = drafted c.args.self.now in
    let new = drafted c.add_invariant.new.self in
    on_ok_weaker c.add_invariant.result (λ h. subst (λ (d : Declaration). Gains ctx.declarations ctx.here d old new) (sym (ap declaration_of c.in-InvDecl.is)) (h c.in-InvDecl.at)) c.add_invariant.ensures

pub returns-in-ExportDecl-clause-gains : goal.returns-in-ExportDecl-clause-gains
returns-in-ExportDecl-clause-gains c =
    let ctx = context_of c.args.reader.now.judge in
    let P = drafted c.args.self.now in
    subst (λ (d : Declaration). Gains ctx.declarations ctx.here d P P) (sym (ap declaration_of c.in-ExportDecl.is)) (gains_export ctx.declarations ctx.here P c.in-ExportDecl.name)
