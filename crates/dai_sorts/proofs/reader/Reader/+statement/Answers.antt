use Rattle.std.proofs.Common.{◌+◌, ◌++◌, ◌∙◌, ap, sym, drop, map, length, refl, rules}
use Rattle.std.proofs.lemmas.List.{drop_all}
use Rattle.dai_syntax.specs.Tree as Tree
use Rattle.dai_syntax.specs.declared.tree.Stat.{the_lemmas}
use Rattle.dai_syntax.specs.Trees.{formula_of as form_of, statement_of as tree_of, statements_of as trees_of}
use Rattle.dai_logic.specs.Trees.{statements_of}
use Rattle.dai_rules.specs.Views.{context_of}
use Rattle.dai_rules.specs.Names.{with_inside}
use Rattle.dai_rules.proofs.Lists.{drop_at}
use Rattle.dai_rules.proofs.WrittenTrees.{tree_of-Cond, tree_of-Local}
use Rattle.dai_sorts.specs.Scopes.{Scope, binder_type, choices_from}
use Rattle.dai_sorts.specs.Statements.{locals_in}
use Rattle.dai_sorts.specs.Readers.{scope_of}
use Rattle.dai_sorts.proofs.Coding.{sound_update, sound_as, sound_at, first_few, second_few, local_few, length_more, begins, goes_on, all_written, all_locals, sound_first, few_first, cond_does, cond_locals, local_does, local_locals}
use Rattle.dai_sorts.proofs.reader.Reader.+statement.Goals as goal

pub statement-update-requires : goal.statement-update-requires
statement-update-requires t c =
    sound_update (context_of c.args.self.now.judge) c.args.stat.now c.in-Assign.name c.in-Assign.args c.deref.result.now c.in-Assign.body c.in-Assign.is c.deref.ensures.value c.requires.sound

pub statements-loop-stat-init : goal.statements-loop-stat-init
statements-loop-stat-init t c = begins (scope_of c.args.self.now) (trees_of c.args.stats.now) c.args.locals.now.items c.args.code.now.items c.requires.sound c.requires.few

pub statements-statement-requires : goal.statements-statement-requires
statements-statement-requires t c =
    let i = c.loop-stat.stat-index in
    let stats = c.args.stats.now in
    let s = c.stat-item.result in
    let g = c.loop-stat.invariant in
    let split = ap trees_of (drop_at stats i s c.loop-stat-test.true c.stat-item.is) in (
      search (rules, the_lemmas),
      (
        sound_first (scope_of c.args.self.now) (trees_of stats) c.args.locals.now.items c.args.code.now.items (trees_of (drop i stats)) (scope_of c.loop-stat.self) c.loop-stat.locals.items c.loop-stat.code.items (tree_of s) (trees_of (drop (i + 1) stats)) g split,
        few_first (scope_of c.args.self.now) (trees_of stats) c.args.locals.now.items c.args.code.now.items (trees_of (drop i stats)) (scope_of c.loop-stat.self) c.loop-stat.locals.items c.loop-stat.code.items (tree_of s) (trees_of (drop (i + 1) stats)) g split,
      ),
    )

pub statements-loop-stat-preserved : goal.statements-loop-stat-preserved
statements-loop-stat-preserved t c =
    let i = c.loop-stat.stat-index in
    let stats = c.args.stats.now in
    let s = c.stat-item.result in
    let split = ap trees_of (drop_at stats i s c.loop-stat-test.true c.stat-item.is) in
    let w = c.in_ok-statement.ensures in
    goes_on (scope_of c.args.self.now) (trees_of stats) c.args.locals.now.items c.args.code.now.items (trees_of (drop i stats)) (scope_of c.loop-stat.self) c.loop-stat.locals.items c.loop-stat.code.items (tree_of s) (trees_of (drop (i + 1) stats))
    (scope_of c.statement.new.self) c.statement.new.locals.items c.statement.new.code.items w.written c.loop-stat.invariant split w.does w.code_is w.locals_are w.scope

pub statements-returns : goal.statements-returns
statements-returns t c =
    let stats = c.args.stats.now in
    let none = ap trees_of (drop_all c.loop-stat.stat-index stats c.loop-stat-test.false) in
    let g = c.loop-stat.invariant in
    record {
      written = g.written;
      does = all_written (scope_of c.args.self.now) (trees_of stats) c.args.locals.now.items c.args.code.now.items (trees_of (drop c.loop-stat.stat-index stats)) (scope_of c.loop-stat.self) c.loop-stat.locals.items c.loop-stat.code.items g none;
      code_is = g.code_is;
      locals_are = all_locals (scope_of c.args.self.now) (trees_of stats) c.args.locals.now.items c.args.code.now.items (trees_of (drop c.loop-stat.stat-index stats)) (scope_of c.loop-stat.self) c.loop-stat.locals.items c.loop-stat.code.items g none;
      scope = g.scope_is;
    }

pub statement-statements-requires : goal.statement-statements-requires
statement-statements-requires t c =
    let ctx = context_of c.args.self.now.judge in
    let first = trees_of c.deref-in-Cond.result.now in
    let second = trees_of c.in-Cond.no.items in
    let tree = tree_of-Cond c.args.stat.now c.in-Cond.cond c.in-Cond.yes c.in-Cond.no c.deref-in-Cond.result.now c.in-Cond.no.items c.in-Cond.is c.deref-in-Cond.ensures.value refl in (
      search (rules, the_lemmas, c.deref-in-Cond.ensures.value),
      (
        (sound_as ctx (tree_of c.args.stat.now) (Tree.conditional (form_of c.in-Cond.cond) first second) tree c.requires.sound).1,
        first_few (length c.args.locals.now.items) (tree_of c.args.stat.now) (form_of c.in-Cond.cond) first second tree c.requires.few,
      ),
    )

pub statement-statements-requires-in-Cond : goal.statement-statements-requires-in-Cond
statement-statements-requires-in-Cond t c =
    let ctx = context_of c.args.self.now.judge in
    let first = trees_of c.deref-in-Cond.result.now in
    let second = trees_of c.deref-in-Cond-2.result.now in
    let tree = tree_of-Cond c.args.stat.now c.in-Cond.cond c.in-Cond.yes c.in-Cond.no c.deref-in-Cond.result.now c.deref-in-Cond-2.result.now c.in-Cond.is c.deref-in-Cond.ensures.value c.deref-in-Cond-2.ensures.value in
    let w = c.in_ok-statements-in-Cond.ensures in (
      search (rules, the_lemmas, c.deref-in-Cond-2.ensures.value),
      (
        sound_at ctx (context_of c.statements.new.self.judge) second (ap (λ (s : Scope). s.context) w.scope) (sound_as ctx (tree_of c.args.stat.now) (Tree.conditional (form_of c.in-Cond.cond) first second) tree c.requires.sound).2,
        second_few (length c.args.locals.now.items) (length c.statements.new.locals.items) (tree_of c.args.stat.now) (form_of c.in-Cond.cond) first second tree (length_more ctx.declarations c.args.locals.now.items c.statements.new.locals.items (locals_in first) w.locals_are) c.requires.few,
      ),
    )

pub statement-statements-requires-in-Local : goal.statement-statements-requires-in-Local
statement-statements-requires-in-Local t c =
    let ctx = context_of c.args.self.now.judge in
    let body = trees_of c.deref-in-Local-2.result.now in
    let binders = c.deref-in-Local.result.now in
    let tree = tree_of-Local c.args.stat.now c.in-Local.binders c.in-Local.body c.deref-in-Local-2.result.now c.in-Local.is c.deref-in-Local-2.ensures.value ∙ ap (λ bs. Tree.with_locals bs body) (sym c.deref-in-Local.ensures.value) in
    let w = c.in_ok-enter_locals-in-Local.ensures in (
      search (rules, the_lemmas, c.deref-in-Local-2.ensures.value),
      (
        sound_at (with_inside ctx (ctx.inside ++ binders)) (context_of c.enter_locals.new.self.judge) body (ap (λ (s : Scope). s.context) w.scope) (sound_as ctx (tree_of c.args.stat.now) (Tree.with_locals binders body) tree c.requires.sound),
        local_few (length c.args.locals.now.items) (length c.enter_locals.new.locals.items) (tree_of c.args.stat.now) binders body tree (length_more ctx.declarations c.args.locals.now.items c.enter_locals.new.locals.items binders w.locals) c.requires.few,
      ),
    )

pub statement-returns-in_ok-push-in-Cond : goal.statement-returns-in_ok-push-in-Cond
statement-returns-in_ok-push-in-Cond t c =
    let scope = scope_of c.args.self.now in
    let first = trees_of c.deref-in-Cond.result.now in
    let second = trees_of c.deref-in-Cond-2.result.now in
    let tree = tree_of-Cond c.args.stat.now c.in-Cond.cond c.in-Cond.yes c.in-Cond.no c.deref-in-Cond.result.now c.deref-in-Cond-2.result.now c.in-Cond.is c.deref-in-Cond.ensures.value c.deref-in-Cond-2.ensures.value in
    let w = c.in_ok-statements-in-Cond.ensures in
    let u = c.in_ok-statements-in-Cond-2.ensures in
    record {
      written = _;
      does = cond_does scope (scope_of c.statements.new.self) c.args.locals.now.items c.statements.new.locals.items (tree_of c.args.stat.now) (form_of c.in-Cond.cond) first second c.in_ok-cond-in-Cond.cond c.statements.new.code c.statements-in-Cond.new.code c.new-first.result.items c.new-second.result.items w.written u.written
          tree c.in_ok-cond-in-Cond.ensures c.new-first.ensures.items w.code_is w.does w.scope w.locals_are c.new-second.ensures.items u.code_is u.does;
      code_is = c.in_ok-push-in-Cond.ensures.items;
      locals_are = cond_locals scope.context.declarations (tree_of c.args.stat.now) (form_of c.in-Cond.cond) first second c.args.locals.now.items c.statements.new.locals.items c.statements-in-Cond.new.locals.items tree w.locals_are
          (u.locals_are ∙ ap (λ (k : Scope). c.statements.new.locals.items ++ map (binder_type k.context.declarations) (locals_in second)) w.scope);
      scope = u.scope ∙ w.scope;
    }

pub statement-returns-in_ok-statements-in-Local : goal.statement-returns-in_ok-statements-in-Local
statement-returns-in_ok-statements-in-Local t c =
    let scope = scope_of c.args.self.now in
    let body = trees_of c.deref-in-Local-2.result.now in
    let binders = c.deref-in-Local.result.now in
    let tree = tree_of-Local c.args.stat.now c.in-Local.binders c.in-Local.body c.deref-in-Local-2.result.now c.in-Local.is c.deref-in-Local-2.ensures.value ∙ ap (λ bs. Tree.with_locals bs body) (sym c.deref-in-Local.ensures.value) in
    let e = c.in_ok-enter_locals-in-Local.ensures in
    let w = c.in_ok-statements-in-Local.ensures in
    record {
      written = w.written;
      does = local_does scope (scope_of c.enter_locals.new.self) c.args.locals.now.items c.enter_locals.new.locals.items (tree_of c.args.stat.now) binders body (statements_of w.written) tree e.scope e.locals w.does;
      code_is = w.code_is;
      locals_are = local_locals scope.context.declarations (tree_of c.args.stat.now) binders body c.args.locals.now.items c.enter_locals.new.locals.items c.statements-in-Local.new.locals.items tree e.locals
          (w.locals_are ∙ ap (λ (k : Scope). c.enter_locals.new.locals.items ++ map (binder_type k.context.declarations) (locals_in body)) e.scope);
      scope = c.leave.ensures binders (choices_from (length c.args.locals.now.items) binders) scope (w.scope ∙ e.scope) c.depth-outside.ensures c.term_count-terms.ensures;
    }
