use Rattle.std.proofs.Common.{◌≡◌, ◌∙◌, ◌++◌, ◌∷◌, List, [], subst, sym, ap, refl, arith}
use Rattle.std.specs.List.{Contains}
use Rattle.dai_model.specs.Protocol.{Protocol}
use Rattle.dai_model.specs.Template.{Bounds}
use Rattle.dai_template.specs.declared.clause.Clause.{Clause}
use Rattle.dai_template.specs.declared.space.Space.{Space}
use Rattle.dai_template.specs.Spaces.{IsSpaceOf, clause_of}
use Rattle.dai_template.specs.Lists.{clauses_of}
use Rattle.dai_order.specs.Antichains.{AreClauses}
use Rattle.dai_weaken.proofs.Bottom.{bottom_clause, bottom_below, both_ok}
use Rattle.dai_weaken.proofs.beginning.everything.Goals as goal

alone : (P : Protocol) (B : Bounds) (space : Space) (e : Clause) → IsSpaceOf P B space → e.shape ≡ 0 → e.lits.items ≡ [] → AreClauses P B space (e ∷ [])
alone P B space e is first bare = record { space_of = is; each = (bottom_clause P B space e is first bare, tt) }

pub of-requires : goal.of-requires
of-requires c =
    let P = c.requires.0 in
    let B = c.requires.1 in
    let space = c.args.space.now in
    let listed : c.deref.result.now ≡ c.empty.result ∷ [] = c.deref.ensures.value ∙ c.in_ok-push.ensures.items ∙ ap (λ xs. xs ++ c.empty.result ∷ []) c.new-clauses.ensures.items in
    record { protocol = P; bounds = B; are = subst (AreClauses P B space) (sym listed) (alone P B space c.empty.result c.requires.2 c.empty.ensures.shape c.empty.ensures.literals) }

pub returns : goal.returns
returns c =
    let space = c.args.space.now in
    let e = c.empty.result in
    let listed : c.deref.result.now ≡ e ∷ [] = c.deref.ensures.value ∙ c.in_ok-push.ensures.items ∙ ap (λ xs. xs ++ e ∷ []) c.new-clauses.ensures.items in
    both_ok c.of.result _ _ _ c.of.ensures.antichain c.of.ensures.same (λ a antichain same C P B is.
    let are = subst (AreClauses P B space) (sym listed) (alone P B space e is c.empty.ensures.shape c.empty.ensures.literals) in
    record {
      antichain = antichain P B are;
      covers = λ d g.
          let t = g.templates d g.member in
          let there : Contains (clauses_of space c.deref.result.now) (clause_of space e) = subst (λ (cs : List Clause). Contains (clauses_of space cs) (clause_of space e)) (sym listed) (0, omega arith, refl) in
          (same P B are).wide d t (record { member = clause_of space e; listed = there; below = bottom_below P B space e is c.empty.ensures.shape c.empty.ensures.literals d t });
    })
