use Rattle.std.proofs.Common.{◌++◌, ◌∷◌, [], sym, subst}
use Rattle.dai_rules.specs.Labels.{AddsMark, AreUnordered}
use Rattle.dai_rules.specs.Views.{context_of, use_of}
use Rattle.dai_rules.proofs.ClassLemmas.{marks_linked, marks_typed, marks_kept}
use Rattle.dai_rules.proofs.judge.Judge.mark_use.Goals as goal

pub returns-then-is_unordered : goal.returns-then-is_unordered
returns-then-is_unordered c = λ uses h.
    let ds = (context_of c.args.self.now).declarations in
    let labels = c.args.labels.now in
    let t = c.in-Typed.sort.now.text in
    subst (λ u. AreUnordered ds labels (uses ++ use_of u ∷ []) c.mark.new.marks) (sym c.in-Typed.is)
    (marks_typed ds labels uses c.in-Typed.variable t c.args.marks.now c.mark.new.marks (sym c.if-is_unordered.ensures) (subst (λ l. AddsMark l c.args.marks.now c.mark.new.marks) c.label_of.ensures c.mark.ensures) h)

pub returns-else-is_unordered : goal.returns-else-is_unordered
returns-else-is_unordered c = λ uses h.
    let ds = (context_of c.args.self.now).declarations in
    let labels = c.args.labels.now in
    subst (λ u. AreUnordered ds labels (uses ++ use_of u ∷ []) c.args.marks.now) (sym c.in-Typed.is)
    (marks_kept ds labels uses c.in-Typed.variable c.in-Typed.sort.now.text c.args.marks.now (sym c.if-is_unordered.ensures) h)

pub returns-in-Linked : goal.returns-in-Linked
returns-in-Linked c = λ uses h.
    let ds = (context_of c.args.self.now).declarations in
    subst (λ u. AreUnordered ds c.args.labels.now (uses ++ use_of u ∷ []) c.args.marks.now) (sym c.in-Linked.is) (marks_linked ds c.args.labels.now uses c.in-Linked.left c.in-Linked.right c.args.marks.now h)
