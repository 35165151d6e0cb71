use Rattle.std.proofs.Common.{◌≡◌, ◌+◌, ◌/◌, ℕ, List, length, get_or, map, drop, sym, ap, ◌∙◌, subst, arith}
use Rattle.std.proofs.lemmas.List.{drop_more, get_or-map}
use Rattle.dai_model.specs.Clause.{no_atom}
use Rattle.dai_template.specs.Atoms.{atom_of}
use Rattle.dai_template.specs.Renamings.{IsRenamed, renamed_literal, put_in_order, put_all_in_order}
use Rattle.dai_template.proofs.InOrder.{put_length}
use Rattle.dai_template.proofs.Truth.{half}
use Rattle.dai_template.proofs.canonical.image.Goals as goal

pub loop-literal-preserved : goal.loop-literal-preserved
loop-literal-preserved c =
    let literals : List ℕ = c.args.literals.now in
    let i : ℕ = c.loop-literal.literal-index in
    let l : ℕ = get_or literals i 0 in
    let atoms = c.args.shape.now.atoms.items in
    let below = half literals i atoms c.requires.literals c.loop-literal-test.true in
    let put = c.put.ensures in
    record {
      long = let e = ap (λ (xs : List ℕ). length xs) put in let k = put_length c.renamed.result c.loop-literal.image.items in let h = c.loop-literal.invariant.long in omega (arith, e, k, h);
      rest = λ P h.
          let counts = c.args.shape.now.counts.items in
          let is : atom_of c.index-atom.result.now ≡ get_or (map atom_of atoms) (l / 2) no_atom = ap atom_of (c.index-atom.ensures ∙ ap (λ k. get_or atoms k c.index-atom.result.now) c.from.ensures) ∙ sym (get_or-map atom_of atoms (l / 2) c.index-atom.result.now no_atom below) in
          let here : c.renamed.result ≡ renamed_literal P counts c.args.to.now l =
          c.renamed.ensures P (map atom_of atoms) (subst (λ (xs : List ℕ). IsRenamed P xs (map atom_of atoms) c.args.to.now) (sym c.deref.ensures.value) h) (c.requires.literals i 0 c.loop-literal-test.true) is
          ∙ ap (λ (xs : List ℕ). renamed_literal P xs c.args.to.now l) c.deref.ensures.value in
          ap (put_all_in_order (map (renamed_literal P counts c.args.to.now) (drop (i + 1) literals))) (put ∙ ap (λ n. put_in_order n c.loop-literal.image.items) here)
          ∙ (ap (λ (xs : List ℕ). put_all_in_order (map (renamed_literal P counts c.args.to.now) xs) c.loop-literal.image.items) (sym (drop_more literals i 0 c.loop-literal-test.true)) ∙ c.loop-literal.invariant.rest P h);
    }
