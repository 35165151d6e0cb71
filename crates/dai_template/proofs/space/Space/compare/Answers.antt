use Rattle.std.proofs.Common.{rules, ◌≡◌, ℕ, List, length, ◌∙◌, ap}
use Rattle.std.specs.Ordering.{nat_cmp, ordering_then}
use Rattle.std.specs.Cmp.Lexicographic.{slice_cmp}
use Rattle.std.specs.declared.cmp.Ordering.{Ordering}
use Rattle.dai_template.proofs.PrintOrder.{compared}
use Rattle.dai_template.proofs.space.Space.compare.Goals as goal

pub returns : goal.returns
returns c =
    let shapes : c.cmp-shapes.result ≡ nat_cmp c.args.left.now.shape c.args.right.now.shape = search rules in
    let numbers : c.cmp-numbers.result ≡ nat_cmp (length c.args.left.now.lits.items) (length c.args.right.now.lits.items) = search rules in
    let literals : c.cmp-literals.result ≡ slice_cmp nat_cmp c.args.left.now.lits.items c.args.right.now.lits.items = c.cmp-literals.ensures ∙ (ap (λ (xs : List ℕ). slice_cmp nat_cmp xs c.as_slice-2.result.now) c.as_slice.ensures.value ∙ ap (slice_cmp nat_cmp c.args.left.now.lits.items) c.as_slice-2.ensures.value) in
    λ P B is.
    c.then-2.ensures
    ∙ (ap (λ (o : Ordering). ordering_then o c.cmp-literals.result) c.then.ensures
    ∙ compared P B c.args.self.now c.args.left.now c.args.right.now c.cmp-shapes.result c.cmp-numbers.result c.cmp-literals.result is c.requires.left c.requires.right shapes numbers literals)
