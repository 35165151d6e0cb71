use Rattle.std.proofs.Common.{[], ◌∷◌, ap, sym, ◌∙◌, refl, subst}
use Rattle.dai_syntax.specs.Tree.{init, action, relation}
use Rattle.dai_syntax.specs.Trees.{declaration_of, statements_of}
use Rattle.dai_rules.specs.Sites.{counted_at, declared_at, relation_sites, type_at}
use Rattle.dai_rules.specs.declared.judge_statements.FileRoom.{FileRoom}
use Rattle.dai_rules.specs.Views.{view_of, context_of}
use Rattle.dai_rules.specs.Rooms.{file_room_of, JudgesDeclaration}
use Rattle.dai_rules.specs.Tables.{texts_of}
use Rattle.dai_rules.proofs.DeclarationSteps.{plain_declaration, init_declared, action_declared, seen_more}
use Rattle.dai_rules.proofs.judge.Judge.declaration.Goals as goal

pub action-requires : goal.action-requires
action-requires c = ap (λ v. v.context.inside) (c.name-in-ActionDecl.ensures (texts_of c.args.self.now.locals.keys) (λ x. refl)) ∙ c.requires

pub returns-in-SortDecl : goal.returns-in-SortDecl
returns-in-SortDecl c =
    let old = c.args.self.now in
    let new = c.name.new.self in
    let room = c.args.room.now in
    let left : FileRoom = record room { sorts = c.saturating_sub-room.result } in
    subst (λ d. JudgesDeclaration (declaration_of d) room left old new) (sym c.in-SortDecl.is)
    (plain_declaration _ room left old new (ap (λ k. record (file_room_of room) { sorts = k }) c.saturating_sub-room.ensures) c.name.ensures refl)

pub returns-in-RelDecl : goal.returns-in-RelDecl
returns-in-RelDecl c =
    let old = c.args.self.now in
    let mid = c.name-in-RelDecl.new.self in
    let new = c.relation.new.self in
    let room = c.args.room.now in
    let left : FileRoom = record room { relations = c.saturating_sub-room-in-RelDecl.result } in
    let name = c.in-RelDecl.name in
    let args = c.deref.result.now in
    subst (λ d. JudgesDeclaration d room left old new) (ap (relation name) c.deref.ensures.value ∙ ap declaration_of (sym c.in-RelDecl.is))
    (plain_declaration (relation name args) room left old new (ap (λ k. record (file_room_of room) { relations = k }) c.saturating_sub-room-in-RelDecl.ensures)
    (λ locals h. seen_more (declared_at (context_of old) locals name ∷ counted_at room.relations name.at ∷ []) (λ ctx. relation_sites ctx.declarations 5 args) (view_of old) (view_of mid) (view_of new) (c.name-in-RelDecl.ensures locals h) c.relation.ensures) refl)

pub returns-in-IndDecl : goal.returns-in-IndDecl
returns-in-IndDecl c =
    let old = c.args.self.now in
    let mid = c.name-in-IndDecl.new.self in
    let new = c.sort.new.self in
    let room = c.args.room.now in
    let left : FileRoom = record room { individuals = c.saturating_sub-room-in-IndDecl.result } in
    let name = c.in-IndDecl.name in
    subst (λ d. JudgesDeclaration (declaration_of d) room left old new) (sym c.in-IndDecl.is)
    (plain_declaration _ room left old new (ap (λ k. record (file_room_of room) { individuals = k }) c.saturating_sub-room-in-IndDecl.ensures)
    (λ locals h. seen_more (declared_at (context_of old) locals name ∷ counted_at room.individuals name.at ∷ []) (λ ctx. type_at ctx.declarations c.in-IndDecl.sort ∷ []) (view_of old) (view_of mid) (view_of new) (c.name-in-IndDecl.ensures locals h) c.sort.ensures) refl)

pub returns-in-ExportDecl : goal.returns-in-ExportDecl
returns-in-ExportDecl c =
    let old = c.args.self.now in
    let new = c.export.new.self in
    let room = c.args.room.now in
    subst (λ d. JudgesDeclaration (declaration_of d) room room old new) (sym c.in-ExportDecl.is)
    (plain_declaration _ room room old new refl (λ locals h. c.export.ensures) refl)

pub returns-in_ok-room-in-InitDecl : goal.returns-in_ok-room-in-InitDecl
returns-in_ok-room-in-InitDecl c =
    let old = c.args.self.now in
    let new = c.statements.new.self in
    let room = c.args.room.now in
    let after = c.in_ok-room-in-InitDecl.field-0 in
    let left : FileRoom = record room { init = after } in
    let body = statements_of c.deref-in-InitDecl.result.now in
    subst (λ d. JudgesDeclaration d room left old new) (ap (λ ss. init (statements_of ss)) c.deref-in-InitDecl.ensures.value ∙ ap declaration_of (sym c.in-InitDecl.is))
    (init_declared body room left after old new refl c.in_ok-room-in-InitDecl.ensures)

pub returns-in_ok-action-in-ActionDecl : goal.returns-in_ok-action-in-ActionDecl
returns-in_ok-action-in-ActionDecl c =
    let old = c.args.self.now in
    let mid = c.name-in-ActionDecl.new.self in
    let new = c.action.new.self in
    let room = c.args.room.now in
    let left : FileRoom = record room { actions = c.saturating_sub-room-in-ActionDecl.result } in
    let name = c.in-ActionDecl.name in
    let exported = c.in-ActionDecl.exported in
    let params = c.deref-in-ActionDecl.result.now in
    let body = c.deref-in-ActionDecl-2.result.now in
    subst (λ d. JudgesDeclaration d room left old new)
    (ap (λ ps. action name ps (statements_of body) exported) c.deref-in-ActionDecl.ensures.value
    ∙ ap (λ ss. action name c.in-ActionDecl.params.items (statements_of ss) exported) c.deref-in-ActionDecl-2.ensures.value ∙ ap declaration_of (sym c.in-ActionDecl.is))
    (action_declared name params (statements_of body) exported room left old mid new (ap (λ k. record (file_room_of room) { actions = k }) c.saturating_sub-room-in-ActionDecl.ensures)
    c.name-in-ActionDecl.ensures c.in_ok-action-in-ActionDecl.ensures)
