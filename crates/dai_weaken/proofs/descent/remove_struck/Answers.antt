use Rattle.std.proofs.Common.{◌≡◌, ◌∙◌, ◌<◌, false, List, sym, ap, subst, length, ⊎_elim}
use Rattle.std.specs.Prelude.{slice_index_or}
use Rattle.dai_template.specs.declared.clause.Clause.{Clause}
use Rattle.std.specs.List.{Contains}
use Rattle.dai_template.specs.Spaces.{clause_of}
use Rattle.dai_template.specs.Lists.{clauses_of}
use Rattle.dai_order.specs.Antichains.{member_at}
use Rattle.dai_weaken.specs.Weakening.{IsWithout}
use Rattle.dai_weaken.proofs.Descending.{bool_cases, member_is, member_form, member_still, without_this, without_other}
use Rattle.dai_weaken.proofs.descent.remove_struck.Goals as goal

pub remove_if-requires : goal.remove_if-requires
remove_if-requires c = record {
  member = λ struck.
      let space = c.args.space.now in
      let old = c.args.kept.now.clauses.items in
      let n = c.loop-place.place in
      let P = c.requires.antichain.protocol in
      let B = c.requires.antichain.bounds in
      let first = c.requires.antichain.is in
      let item = c.clause-item.result in
      let listed = c.deref-clause-items.ensures.value ∙ c.in_ok-members.ensures ∙ c.clauses.ensures in
      let below : n < length old = subst (λ (cs : List Clause). n < length cs) listed c.loop-place-test.true in
      let at = member_is space c.deref-clause-items.result.now n item c.loop-place-test.true c.clause-item.is in
      let same : member_at space old n ≡ clause_of space item = ap (λ (cs : List Clause). member_at space cs n) (sym listed) ∙ at in
      let known = c.loop-place.invariant P B first in
      record {
        protocol = P;
        bounds = B;
        antichain = known.antichain;
        inside = (member_form P B space old first item (n, below, sym (subst (λ (cs : List Clause). item ≡ slice_index_or cs n item) listed c.clause-item.is))).of_the_space.shape;
        listed = subst (Contains (clauses_of space c.loop-place.kept.clauses.items)) same (member_still P B space old c.args.flags.now first n c.loop-place.kept.clauses.items below known);
      };
}

pub loop-place-preserved : goal.loop-place-preserved
loop-place-preserved c = λ P B first.
    let space = c.args.space.now in
    let old = c.args.kept.now.clauses.items in
    let flags = c.args.flags.now in
    let kept = c.loop-place.kept.clauses.items in
    let new = c.remove_if.new.kept.clauses.items in
    let n = c.loop-place.place in
    let item = c.clause-item.result in
    let listed = c.deref-clause-items.ensures.value ∙ c.in_ok-members.ensures ∙ c.clauses.ensures in
    let below : n < length old = subst (λ (cs : List Clause). n < length cs) listed c.loop-place-test.true in
    let at = member_is space c.deref-clause-items.result.now n item c.loop-place-test.true c.clause-item.is in
    let same : member_at space old n ≡ clause_of space item = ap (λ (cs : List Clause). member_at space cs n) (sym listed) ∙ at in
    let known = c.loop-place.invariant P B first in
    ⊎_elim (λ is. without_this P B space old flags first n kept new below is known (subst (λ m. IsWithout P B space kept m new) (sym same) (c.in_ok-remove_if.ensures.struck is P B known.antichain)))
    (λ not. without_other P B space old flags first n kept new not (c.in_ok-remove_if.ensures.other not) known)
    (bool_cases (slice_index_or flags n false))
