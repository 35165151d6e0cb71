use Rattle.std.proofs.lemmas.List.{drop_all}
use Rattle.std.proofs.Common.{◌≡◌, ◌+◌, ◌++◌, drop, map, ap, sym, ◌∙◌}
use Rattle.dai_syntax.specs.Trees.{declaration_of}
use Rattle.dai_rules.specs.declared.judge.Judge.{Judge}
use Rattle.dai_rules.specs.Names.{Context}
use Rattle.dai_rules.specs.Sites.{locals_by, context_at, sites_from}
use Rattle.dai_rules.specs.First.{judged}
use Rattle.dai_rules.specs.Rooms.{file_room_of}
use Rattle.dai_rules.specs.Views.{context_of}
use Rattle.dai_rules.proofs.Lists.{drop_at}
use Rattle.dai_rules.proofs.FaultLemmas.{told}
use Rattle.dai_rules.proofs.DeclarationSteps.{declared_next, names_next}
use Rattle.dai_rules.proofs.judge_statements.first_fault.Goals as goal

pub loop-here-preserved : goal.loop-here-preserved
loop-here-preserved c =
    let here = c.loop-here.here in
    let old : Judge = record c.loop-here.judge { here = here } in
    let new = c.declaration.new.self in
    let room = c.loop-here.room in
    let left = c.declaration.new.room in
    let ds = map declaration_of c.args.decls.now in
    let locals = c.loop-here.invariant.0 in
    let known = c.loop-here.invariant.1 in
    let decl = c.index-decls-here.result in
    let d = declaration_of decl in
    let h = c.in_ok-declaration.ensures in
    let e : context_of old ≡ context_at ds here = λ i. record { declarations = known.declarations i; here = here; inside = known.inside i } in
    let at = ap (map declaration_of) (drop_at c.args.decls.now here decl c.loop-here-test.true c.index-decls-here.is) in (
      locals ++ locals_by d,
      record {
        names = names_next locals d room left old new known.names h;
        declarations = ap (λ (k : Context). k.declarations) (h.context ∙ e);
        inside = ap (λ (k : Context). k.inside) (h.context ∙ e);
        first = declared_next ds here room left locals d (map declaration_of (drop (here + 1) c.args.decls.now)) old new _ e known.names h
            (ap (λ rest. judged old.first (sites_from ds here (file_room_of room) locals rest)) (sym at) ∙ known.first);
      },
    )

pub returns : goal.returns
returns c =
    let first = c.loop-here.judge.first in
    let ds = map declaration_of c.args.decls.now in
    let known = c.loop-here.invariant.1 in
    let behind = ap (λ decls. judged first (sites_from ds c.loop-here.here (file_room_of c.loop-here.room) c.loop-here.invariant.0 (map declaration_of decls))) (sym (drop_all c.loop-here.here c.args.decls.now c.loop-here-test.false)) in
    told ds first (behind ∙ known.first)
