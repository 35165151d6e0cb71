use Rattle.std.proofs.Common.{◌||◌, ◌∙◌, ap, sym}
use Rattle.std.proofs.lemmas.Result.{on_ok_weaker}
use Rattle.dai_syntax.specs.Trees.{statement_of, statements_of}
use Rattle.dai_rules.specs.Names.{is_among}
use Rattle.dai_rules.specs.Sites.{targets_of, targets_in}
use Rattle.dai_rules.specs.Tables.{texts_of}
use Rattle.dai_rules.proofs.NameTables.{added_twice}
use Rattle.dai_rules.proofs.WrittenTrees.{tree_of-Cond, tree_of-Local}
use Rattle.dai_rules.proofs.globals.+add_targets.Goals as goal

pub add_targets_of-returns-in_ok-add_targets-in-Cond : goal.add_targets_of-returns-in_ok-add_targets-in-Cond
add_targets_of-returns-in_ok-add_targets-in-Cond t c =
    on_ok_weaker c.add_targets-in-Cond.result (λ h x. added_twice x (is_among x (texts_of c.args.names.now.keys)) (is_among x (texts_of c.add_targets.new.names.keys)) (is_among x (texts_of c.add_targets-in-Cond.new.names.keys))
    (targets_in (statements_of c.deref.result.now)) (targets_in (statements_of c.deref-in-Cond.result.now)) (targets_of (statement_of c.args.stat.now)) (c.in_ok-add_targets-in-Cond.ensures x) (h x)
    (ap targets_of (tree_of-Cond c.args.stat.now c.in-Cond.cond c.in-Cond.yes c.in-Cond.no c.deref.result.now c.deref-in-Cond.result.now c.in-Cond.is c.deref.ensures.value c.deref-in-Cond.ensures.value))) c.add_targets-in-Cond.ensures

pub add_targets_of-returns-in-Local : goal.add_targets_of-returns-in-Local
add_targets_of-returns-in-Local t c =
    on_ok_weaker c.add_targets-in-Local.result (λ h x. h x ∙ ap (λ names. is_among x (texts_of c.args.names.now.keys) || is_among x names)
    (sym (ap targets_of (tree_of-Local c.args.stat.now c.in-Local.binders c.in-Local.body c.deref-in-Local.result.now c.in-Local.is c.deref-in-Local.ensures.value)))) c.add_targets-in-Local.ensures
