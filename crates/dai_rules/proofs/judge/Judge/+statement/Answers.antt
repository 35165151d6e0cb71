use Rattle.std.proofs.Common.{◌∙◌, ◌+◌, ap, sym, subst, drop, refl}
use Rattle.std.proofs.lemmas.List.{drop_all}
use Rattle.std.proofs.lemmas.Result.{IfOk-weaker}
use Rattle.dai_syntax.specs.Trees.{formula_of, statement_of, statements_of}
use Rattle.dai_syntax.specs.Tree.{Statement, with_locals, Statements}
use Rattle.dai_rules.specs.declared.judge.Judge.{Judge}
use Rattle.dai_rules.specs.declared.judge_statements.Room.{Room}
use Rattle.dai_rules.specs.Sites.{statement_sites, statements_sites, room_after, room_after_each, locals_of, locals_in}
use Rattle.dai_rules.specs.Views.{context_of}
use Rattle.dai_rules.specs.Rooms.{room_of, JudgesCode}
use Rattle.dai_rules.proofs.Lists.{drop_at}
use Rattle.dai_rules.proofs.WrittenTrees.{tree_of-Cond, tree_of-Local}
use Rattle.dai_rules.proofs.CodeSteps.{code_next, code_nothing, code_conditional, code_requirement, code_local, inner_inside}
use Rattle.dai_rules.proofs.judge.Judge.+statement.Goals as goal

abbrev IsJudged : Statement → Room → Room → Judge → Judge → Type 0
IsJudged s room r old new = JudgesCode (statement_sites (context_of old) (room_of room) s) (room_after (context_of old) (room_of room) s) (locals_of s) r old new

abbrev AreJudged : Statements → Room → Room → Judge → Judge → Type 0
AreJudged ss room r old new = JudgesCode (statements_sites (context_of old) (room_of room) ss) (room_after_each (context_of old) (room_of room) ss) (locals_in ss) r old new

pub statement-returns-in_ok-sentence-in-Require : goal.statement-returns-in_ok-sentence-in-Require
statement-returns-in_ok-sentence-in-Require t c =
    let old = c.args.self.now in
    let new = c.witnesses_past.new.self in
    let w = c.witnesses_past.ensures in
    subst (λ s. IsJudged s c.args.room c.witnesses_past.result old new) (sym (ap statement_of c.in-Require.is))
    (code_requirement (context_of old) c.args.room c.witnesses_past.result (formula_of c.in-Require.body) old c.sentence.new.self new c.in_ok-sentence-in-Require.ensures w.seen w.left w.keys)

pub statement-returns-in_ok-room-in-Cond : goal.statement-returns-in_ok-room-in-Cond
statement-returns-in_ok-room-in-Cond t c =
    let old = c.args.self.now in
    let v1 = c.sentence-in-Cond.new.self in
    let v2 = c.statements.new.self in
    let v3 = c.statements-in-Cond.new.self in
    let room = c.args.room in
    let r1 = c.in_ok-room-in-Cond.room in
    let first = statements_of c.deref-in-Cond.result.now in
    let second = statements_of c.deref-in-Cond-2.result.now in
    let h = c.in_ok-sentence-in-Cond.ensures in
    let k = c.in_ok-room-in-Cond.ensures in
    IfOk-weaker c.statements-in-Cond.result (λ r. AreJudged second r1 r v2 v3) (λ r. IsJudged (statement_of c.args.stat.now) room r old v3)
    (λ r m. subst (λ s. IsJudged s room r old v3) (sym (tree_of-Cond c.args.stat.now c.in-Cond.cond c.in-Cond.yes c.in-Cond.no c.deref-in-Cond.result.now c.deref-in-Cond-2.result.now c.in-Cond.is c.deref-in-Cond.ensures.value c.deref-in-Cond-2.ensures.value))
    (code_conditional (context_of old) (context_of v1) (context_of v2) room r1 r (formula_of c.in-Cond.cond) first second old v1 v2 v3 h.context (k.context ∙ h.context) h k m)) c.statements-in-Cond.ensures

pub statement-returns-in_ok-left-in-Local : goal.statement-returns-in_ok-left-in-Local
statement-returns-in_ok-left-in-Local t c =
    let old = c.args.self.now in
    let mid = c.introduce.new.self in
    let end = c.statements-in-Local.new.self in
    let new = c.leave_block.new.self in
    let room = c.args.room in
    let left = c.in_ok-left-in-Local.left in
    let binders = c.deref-in-Local.result.now in
    let body = statements_of c.deref-in-Local-2.result.now in
    let h = c.in_ok-locals-in-Local.ensures in
    let k = c.in_ok-left-in-Local.ensures in
    let inside : Room = record { locals = c.in_ok-locals-in-Local.locals; witnesses = room.witnesses } in
    let e = inner_inside binders old mid end room.locals h.introduced k.context in
    subst (λ s. IsJudged s room left old new) (ap (λ bs. with_locals bs body) c.deref-in-Local.ensures.value ∙ sym (tree_of-Local c.args.stat.now c.in-Local.binders c.in-Local.body c.deref-in-Local-2.result.now c.in-Local.is c.deref-in-Local-2.ensures.value))
    (code_local room inside left binders body old mid end new h.introduced h.left refl k (c.leave_block.ensures.view (context_of old).inside binders e c.depth-outside.ensures) c.leave_block.ensures.keys)

pub statements-loop-stat-preserved : goal.statements-loop-stat-preserved
statements-loop-stat-preserved t c = λ r j k.
    let i = c.loop-stat.stat-index in
    let ss = c.args.stats.now in
    let old = c.loop-stat.self in
    let mid = c.statement.new.self in
    c.loop-stat.invariant r j (subst (λ rest. AreJudged (statements_of rest) c.loop-stat.room r old j) (sym (drop_at ss i c.stat-item.result c.loop-stat-test.true c.stat-item.is))
    (code_next (context_of old) (context_of mid) c.loop-stat.room c.in_ok-room.room (statement_of c.stat-item.result) (statements_of (drop (i + 1) ss)) r old mid j c.in_ok-room.ensures.context c.in_ok-room.ensures k))

pub statements-returns : goal.statements-returns
statements-returns t c =
    let self = c.loop-stat.self in
    c.loop-stat.invariant c.loop-stat.room self (subst (λ rest. AreJudged (statements_of rest) c.loop-stat.room c.loop-stat.room self self) (sym (drop_all c.loop-stat.stat-index c.args.stats.now c.loop-stat-test.false)) (code_nothing c.loop-stat.room self))
