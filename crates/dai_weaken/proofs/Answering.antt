-- What falls is outside of the greatest inductive set, and what is left when nothing falls is the answer.
use Rattle.std.proofs.Common.{inl, inr, ◌≡◌, ◌≤◌, ◌<◌, List, [], ◌∷◌, ◌++◌, subst, arith, ⊎_elim}
use Rattle.std.specs.Prelude.{◌⊎◌}
use Rattle.std.proofs.lemmas.Bool.{cases_lt}
use Rattle.std.specs.List.{Contains, AllPairs}
use Rattle.std.proofs.lemmas.List.Elements.{Contains-push, Contains-push_cases, Contains-append_left}
use Rattle.std.specs.declared.cmp.Ordering.TheVariants.{Less}
use Rattle.dai_model.specs.Formula.{Formula}
use Rattle.dai_model.specs.Protocol.{Protocol}
use Rattle.dai_model.specs.Structure.{Structure, IsStructure}
use Rattle.dai_model.specs.Value.{SatisfiesAxioms}
use Rattle.dai_model.specs.Reachable.{IsInitial, IsStep}
use Rattle.dai_model.specs.Clause.{Clause, Meets, MeetsEach}
use Rattle.dai_model.specs.Template.{Bounds, IsTemplate}
use Rattle.dai_model.specs.Subsumption.{Subsumes, IsCanonical, print_order}
use Rattle.dai_model.specs.Weakening.{rank_of}
use Rattle.dai_model.specs.Classes.{Class, Belongs}
use Rattle.dai_model.specs.Inductive.{IsInductive, IsInGreatest}
use Rattle.dai_model.specs.Answer.{IsMinimal, IsAnswer, IsEntailed}
use Rattle.dai_model.proofs.Below.{below_implies, below-trans}
use Rattle.dai_model.proofs.Ranks.{rank_no_greater, is_renaming}
use Rattle.dai_model.proofs.OneCanonical.{one_canonical}
use Rattle.dai_weaken.specs.Judging.{Follows}
use Rattle.dai_order.specs.Antichains.{StandsFor}
use Rattle.dai_weaken.specs.Standing.{StandsForGreatest}
use Rattle.dai_weaken.specs.Weakening.{IsStill}

abbrev pub AreTemplates : Protocol → Bounds → List Clause → Type 0
AreTemplates P B clauses = (c : Clause) → Contains clauses c → IsTemplate P B c

-- a state that meets the clauses meets all that they stand for
pub meets_all : (P : Protocol) (B : Bounds) (clauses : List Clause) (s : Structure) → AreTemplates P B clauses → MeetsEach P s clauses → (c : Clause) → StandsFor P clauses c → Meets P s c
meets_all P B clauses s templates met c h = below_implies P B h.member c (templates h.member h.listed) h.below s (met h.member h.listed)

pub falls_at_first : (C : Class) (P : Protocol) (B : Bounds) (c : Clause) (s : Structure) → Belongs C s → IsInitial P s → (Meets P s c → ⊥) → IsInGreatest C P B c → ⊥
falls_at_first C P B c s belongs initial broken g = broken (g.inductive.initiation s belongs initial c g.member)

pub falls_after : (C : Class) (P : Protocol) (B : Bounds) (clauses : List Clause) (c : Clause) (s t : Structure) → AreTemplates P B clauses → StandsForGreatest C P B clauses → Belongs C s → IsStructure P s → SatisfiesAxioms P s
    → MeetsEach P s clauses → IsStep P s t → (Meets P t c → ⊥) → IsInGreatest C P B c → ⊥
falls_after C P B clauses c s t templates covers belongs structure axioms met step broken g =
    let each : MeetsEach P s g.witness = λ d there. meets_all P B clauses s templates met d (covers d (record { witness = g.witness; templates = g.templates; inductive = g.inductive; member = there })) in
    broken (g.inductive.consecution s t belongs structure axioms each step c g.member)

pub still_inductive : (C : Class) (P : Protocol) (clauses : List Clause) → IsStill C P clauses → IsInductive C P clauses
still_inductive C P clauses h = record {
  initiation = λ s belongs initial c there. h.at_first c there s belongs initial;
  consecution = λ s t belongs structure axioms met step c there. h.after c there step.action step.exported s t belongs structure axioms met step.step;
}

-- canonical templates in print order, none below another
pub record IsMinimalList (P : Protocol) (B : Bounds) (clauses : List Clause) : Type 0 where
  pub templates : AreTemplates P B clauses
  pub canonical : (c : Clause) → Contains clauses c → IsCanonical P B c
  pub in_order : AllPairs (λ c d. print_order c d ≡ Less) clauses
  pub apart : (c d : Clause) → Contains clauses c → Contains clauses d → Subsumes P c d → c ≡ d

-- canonical templates below each other are one
both_below : (P : Protocol) (B : Bounds) (c d : Clause) → IsTemplate P B c → IsTemplate P B d → IsCanonical P B c → IsCanonical P B d → Subsumes P c d → Subsumes P d c → c ≡ d
both_below P B c d t u canonical other sub back = one_canonical P B c d t u (is_renaming P B c d t u sub (rank_no_greater P B d c u t back)) canonical other

module _ (C : Class) (P : Protocol) (B : Bounds) (clauses : List Clause) (minimal : IsMinimalList P B clauses) where
  -- of those that the list stands for, its members are the minimal ones
  pub member_below : (c d : Clause) → Contains clauses c → StandsFor P clauses d → Subsumes P d c → Subsumes P c d
  member_below c d there h below =
      let same : h.member ≡ c = minimal.apart h.member c h.listed there (below-trans P B h.member d c (minimal.templates h.member h.listed) h.below below) in
      subst (λ (m : Clause). Subsumes P m d) same h.below

  module _ (covers : StandsForGreatest C P B clauses) (inductive : IsInductive C P clauses) where
    pub in_greatest : (c : Clause) → Contains clauses c → IsInGreatest C P B c
    in_greatest c there = record { witness = clauses; templates = minimal.templates; inductive = inductive; member = there }

    member_minimal : (c : Clause) → Contains clauses c → IsMinimal C P B c
    member_minimal c there = record {
      greatest = in_greatest c there;
      canonical = minimal.canonical c there;
      least = λ d g strictly. strictly.1 (member_below c d there (covers d g) strictly.0);
    }

    least_is_member : (c : Clause) (m : IsMinimal C P B c) (h : StandsFor P clauses c) → (rank_of h.member < rank_of c) ⊎ (rank_of c ≤ rank_of h.member) → Contains clauses c
    least_is_member c m h (inl more) =
        absurd (m.least h.member (in_greatest h.member h.listed) (h.below, λ (back : Subsumes P c h.member). let no_more = rank_no_greater P B c h.member (m.greatest.templates c m.greatest.member) (minimal.templates h.member h.listed) back in omega (arith, no_more, more)))
    least_is_member c m h (inr full) =
        let listed = minimal.templates h.member h.listed in
        let own = m.greatest.templates c m.greatest.member in
        let renaming = is_renaming P B h.member c listed own h.below full in
        subst (Contains clauses) (one_canonical P B h.member c listed own renaming (minimal.canonical h.member h.listed) m.canonical) h.listed

    pub answer : IsAnswer C P B clauses
    answer = record {
      in_order = minimal.in_order;
      sound = member_minimal;
      complete = λ c m. let h = covers c m.greatest in least_is_member c m h (cases_lt (rank_of h.member) (rank_of c));
    }

    -- the formula follows from the greatest set where it follows from the list
    pub entailed : (f : Formula) → Follows C P clauses f → IsEntailed C P B f
    entailed f h = λ s belongs structure axioms met. h s belongs structure axioms (λ c there. met c (in_greatest c there))

    pub follows : (f : Formula) → IsEntailed C P B f → Follows C P clauses f
    follows f h = λ s belongs structure axioms met. h s belongs structure axioms (λ c g. meets_all P B clauses s minimal.templates met c (covers c g))

-- a template above a clause of the greatest set is one of it
pub above_greatest : (C : Class) (P : Protocol) (B : Bounds) (c d : Clause) → IsInGreatest C P B c → IsTemplate P B d → Subsumes P c d → IsInGreatest C P B d
above_greatest C P B c d g template below = record {
  witness = g.witness ++ d ∷ [];
  templates = λ e there. ⊎_elim (λ old. g.templates e old) (λ same. subst (IsTemplate P B) same template) (Contains-push_cases g.witness d e there);
  inductive = record {
    initiation = λ s inside initial. all_met s (g.inductive.initiation s inside initial);
    consecution = λ s t inside structure axioms met step. all_met t (g.inductive.consecution s t inside structure axioms (λ e there. met e (Contains-append_left g.witness (d ∷ []) e there)) step);
  };
  member = Contains-push g.witness d;
}
  where
    all_met : (s : Structure) → MeetsEach P s g.witness → MeetsEach P s (g.witness ++ d ∷ [])
    all_met s met e there =
        ⊎_elim (λ old. met e old) (λ same. subst (Meets P s) same (below_implies P B c d (g.templates c g.member) below s (met c g.member))) (Contains-push_cases g.witness d e there)
