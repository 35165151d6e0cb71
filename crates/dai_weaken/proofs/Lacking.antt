-- What follows from the answer.
use Rattle.std.proofs.Common.{inl, inr, ◌≡◌, ℕ, ◌<◌, ◌≤◌, ◌+◌, ◌++◌, ◌∷◌, List, [], Some, length, get_or, subst, sym, ◌∙◌, ap, arith, ⊎_elim, length-append}
use Rattle.std.specs.Prelude.{◌⊎◌, slice_get}
use Rattle.std.specs.List.{Contains, AllPairs}
use Rattle.std.proofs.lemmas.List.{get_or_append_left, get_or_push}
use Rattle.std.proofs.lemmas.Option.{slice_get_within}
use Rattle.std.proofs.lemmas.List.Elements.{Contains-push, Contains-push_cases, Contains-append_left, Contains-get_or}
use Rattle.dai_model.specs.Formula.{Formula}
use Rattle.dai_model.specs.Protocol.{Protocol, Invariant}
use Rattle.dai_model.specs.Template.{Bounds}
use Rattle.dai_model.specs.Classes.{Class}
use Rattle.dai_model.specs.Answer.{IsEntailed, AreMissing}
use Rattle.dai_template.specs.declared.clause.Clause.{Clause}
use Rattle.dai_template.specs.declared.space.Space.{Space}
use Rattle.dai_template.specs.Lists.{clauses_of}
use Rattle.dai_weaken.specs.Judging.{Follows}
use Rattle.dai_weaken.specs.Weakening.{IsAnswered}
use Rattle.dai_weaken.specs.Missing.{AddsMissing, follows, fails, AreMissingBelow}
use Rattle.dai_weaken.proofs.Answering.{meets_all}
use Rattle.dai_weaken.proofs.Descending.{next_cases}
use Rattle.dai_weaken.proofs.Falling.{templates}

module _ (C : Class) (P : Protocol) (B : Bounds) (space : Space) (kept : List Clause) (h : IsAnswered C P B space kept) where
  pub entailed_by : (f : Formula) → Follows C P (clauses_of space kept) f → IsEntailed C P B f
  entailed_by f claim = λ s belongs structure axioms met. claim s belongs structure axioms (λ c there. met c (h.answer.sound c there).greatest)

  pub follows_by : (f : Formula) → IsEntailed C P B f → Follows C P (clauses_of space kept) f
  follows_by f entailed = λ s belongs structure axioms met. entailed s belongs structure axioms (λ c g. meets_all P B (clauses_of space kept) s (templates P B space kept h.antichain) met c (h.covers c g))

  pub missing_none : AreMissingBelow C P B 0 []
  missing_none = record {
    in_order = λ i j d before below. absurd (omega (arith, below));
    below = λ i there. absurd (let less = there.1 in omega (arith, less));
    refuted = λ i there. absurd (let less = there.1 in omega (arith, less));
    others = λ i f below is none. absurd (omega (arith, below));
  }

  -- one more invariant
  pub missing_next : (n : ℕ) (f : Invariant) (old new : List ℕ) → slice_get P.invariants n ≡ Some f → AddsMissing (Follows C P (clauses_of space kept) f.body) n old new → AreMissingBelow C P B n old → AreMissingBelow C P B (n + 1) new
  missing_next n f old new is (follows e claim) k = subst (AreMissingBelow C P B (n + 1)) (sym e) (record {
    in_order = k.in_order;
    below = λ i there. let less = k.below i there in omega (arith, less);
    refuted = k.refuted;
    others = λ i g below found none. ⊎_elim (λ less. k.others i g less found none) (λ same. subst (λ (b : Invariant). IsEntailed C P B b.body) (one_of i g same found) (entailed_by f.body claim)) (next_cases i n below);
  })
    where
      one_of : (i : ℕ) (g : Invariant) → i ≡ n → slice_get P.invariants i ≡ Some g → f ≡ g
      one_of i g same found = let e = sym is ∙ ap (slice_get P.invariants) (sym same) ∙ found in cc
  missing_next n f old new is (fails e fails_so) k = subst (AreMissingBelow C P B (n + 1)) (sym e) (record {
    in_order = ordered;
    below = λ i there. ⊎_elim (λ before. let less = k.below i before in omega (arith, less)) (λ same. let e = same in omega (arith, e)) (Contains-push_cases old n i there);
    refuted = λ i there. ⊎_elim (λ before. k.refuted i before) (λ same. (f, ap (slice_get P.invariants) (sym same) ∙ is, λ entailed. fails_so (follows_by f.body entailed))) (Contains-push_cases old n i there);
    others = λ i g below found none.
        ⊎_elim (λ less. k.others i g less found (λ there. none (Contains-append_left old (n ∷ []) i there))) (λ same. absurd (none (subst (Contains (old ++ n ∷ [])) (sym same) (Contains-push old n)))) (next_cases i n below);
  })
    where
      long : length (old ++ n ∷ []) ≡ length old + 1
      long = length-append old (n ∷ [])

      pair : (i j d : ℕ) → i < j → (j < length old) ⊎ (j ≡ length old) → get_or (old ++ n ∷ []) i d < get_or (old ++ n ∷ []) j d
      pair i j d before (inl less) =
          let first = get_or_append_left old (n ∷ []) d i (omega (arith, before, less)) in
          let second = get_or_append_left old (n ∷ []) d j less in
          let own = k.in_order i j d before less in
          omega (arith, first, second, own)
      pair i j d before (inr same) =
          let first = get_or_append_left old (n ∷ []) d i (omega (arith, before, same)) in
          let second = get_or_push old n d j (sym same) in
          let own = k.below (get_or old i d) (Contains-get_or old i d (omega (arith, before, same))) in
          omega (arith, first, second, own)

      ordered : AllPairs (λ i j. i < j) (old ++ n ∷ [])
      ordered i j d before below = pair i j d before (next_cases j (length old) (let l = long in omega (arith, below, l)))

  pub missing_all : (n : ℕ) (missing : List ℕ) → length P.invariants ≤ n → AreMissingBelow C P B n missing → AreMissing C P B missing
  missing_all n missing all k = record {
    in_order = k.in_order;
    refuted = k.refuted;
    others = λ i f found none. k.others i f (let below = slice_get_within P.invariants i f found in omega (arith, below, all)) found none;
  }
