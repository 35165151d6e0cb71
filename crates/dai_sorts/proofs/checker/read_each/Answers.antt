use Rattle.std.proofs.Common.{◌≡◌, ℕ, ◌+◌, List, ap, sym, ◌∙◌, subst, drop, take, map}
use Rattle.dai_syntax.specs.Trees.{declaration_of}
use Rattle.dai_syntax.specs.Tree.{Declaration}
use Rattle.dai_rules.specs.Views.{context_of}
use Rattle.dai_sorts.specs.Scopes.{Scope}
use Rattle.dai_sorts.specs.Gains.{Gains}
use Rattle.dai_sorts.specs.Drafts.{drafted, IsSoundDeclaration}
use Rattle.dai_sorts.proofs.Drafting.{sound_next, room_next, drafted_here, drafted_behind, drafted_first}
use Rattle.dai_sorts.proofs.checker.read_each.Goals as goal

pub loop-here-init : goal.loop-here-init
loop-here-init c =
    let ds = map declaration_of c.args.decls.now in
    record {
      declarations = c.requires.declarations;
      inside = c.requires.inside;
      terms = c.requires.terms;
      drafted = drafted_first ds (drafted c.new-draft.result) c.requires.faultless (c.new-draft.ensures ds);
    }

pub add-requires-clause-sound : goal.add-requires-clause-sound
add-requires-clause-sound c =
    let decls = c.args.decls.now in
    let ds = map declaration_of decls in
    let here = c.loop-here.here in
    let decl = c.index-decls-here.result in
    let d = declaration_of decl in
    let P = drafted c.loop-here.draft in
    let ctx = context_of c.stand_at.new.self.judge in
    let known = drafted_here decls here decl P c.loop-here-test.true c.index-decls-here.is c.loop-here.invariant.drafted in
    let same : ctx.declarations ≡ ds = ap (λ (s : Scope). s.context.declarations) c.stand_at.ensures ∙ c.loop-here.invariant.declarations in
    let place : ctx.here ≡ here = ap (λ (s : Scope). s.context.here) c.stand_at.ensures in
    subst (λ (all : List Declaration). IsSoundDeclaration all ctx.here d) (sym same)
    (subst (λ (n : ℕ). IsSoundDeclaration ds n d) (sym place) (sound_next ds here (map declaration_of (take here decls)) d (map declaration_of (drop (here + 1) decls)) P known))

pub add-requires-clause-room : goal.add-requires-clause-room
add-requires-clause-room c =
    let decls = c.args.decls.now in
    let here = c.loop-here.here in
    let decl = c.index-decls-here.result in
    let P = drafted c.loop-here.draft in
    room_next (map declaration_of decls) here (map declaration_of (take here decls)) (declaration_of decl) (map declaration_of (drop (here + 1) decls)) P
    (drafted_here decls here decl P c.loop-here-test.true c.index-decls-here.is c.loop-here.invariant.drafted)

pub loop-here-preserved : goal.loop-here-preserved
loop-here-preserved c =
    let decls = c.args.decls.now in
    let ds = map declaration_of decls in
    let here = c.loop-here.here in
    let decl = c.index-decls-here.result in
    let d = declaration_of decl in
    let P = drafted c.loop-here.draft in
    let Q = drafted c.add.new.self in
    let ctx = context_of c.stand_at.new.self.judge in
    let same : ctx.declarations ≡ ds = ap (λ (s : Scope). s.context.declarations) c.stand_at.ensures ∙ c.loop-here.invariant.declarations in
    let place : ctx.here ≡ here = ap (λ (s : Scope). s.context.here) c.stand_at.ensures in
    let gains : Gains ds here d P Q = subst (λ (n : ℕ). Gains ds n d P Q) place (subst (λ (all : List Declaration). Gains all ctx.here d P Q) same c.in_ok-add.ensures.gains) in
    let scope = c.in_ok-add.ensures.scope ∙ c.stand_at.ensures in
    record {
      declarations = ap (λ (s : Scope). s.context.declarations) scope ∙ c.loop-here.invariant.declarations;
      inside = ap (λ (s : Scope). s.context.inside) scope ∙ c.loop-here.invariant.inside;
      terms = ap (λ (s : Scope). s.terms) scope ∙ c.loop-here.invariant.terms;
      drafted = drafted_behind decls here decl P Q c.loop-here-test.true c.index-decls-here.is gains c.loop-here.invariant.drafted;
    }
