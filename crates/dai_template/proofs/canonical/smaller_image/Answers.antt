use Rattle.std.proofs.Common.{◌≡◌, ◌==◌, ℕ, List, true, false, ap, ◌∙◌}
use Rattle.std.specs.Ordering.{nat_cmp, ordering_reverse, ordering_index}
use Rattle.std.specs.Cmp.Lexicographic.{slice_cmp}
use Rattle.std.proofs.lemmas.Cmp.{nat_list_cmp_total}
use Rattle.std.specs.declared.cmp.Ordering.{Ordering}
use Rattle.std.specs.declared.cmp.Ordering.TheVariants.{Less}
use Rattle.dai_template.specs.Renamings.{renamed_literals}
use Rattle.dai_template.proofs.canonical.smaller_image.Goals as goal

pub returns-else-eq-clause-none : goal.returns-else-eq-clause-none
returns-else-eq-clause-none c = λ P h _ greater.
    let image = c.image-image.ensures P h in
    let less : c.cmp.result ≡ Less =
    c.cmp.ensures
    ∙ (ap (λ (xs : List ℕ). slice_cmp nat_cmp xs c.args.literals.now) (c.as_slice.ensures.value ∙ image)
    ∙ (nat_list_cmp_total.antisymm (renamed_literals P c.args.shape.now.counts.items c.args.to.now c.args.literals.now) c.args.literals.now ∙ ap ordering_reverse greater)) in
    let no : false ≡ true = c.if-eq.ensures ∙ ap (λ (o : Ordering). ordering_index o == 0) less in
    let bottom : ⊥ = cc in
    bottom
