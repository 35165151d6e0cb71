-- The protocol of the tests is well-sorted and in the profile.
use Rattle.std.proofs.Common.{◌≡◌, zero, suc, ◌<◌, ◌≤◌, List, [], ◌∷◌, length, sym, refl, subst, arith}
use Rattle.std.specs.Prelude.{codes}
use Rattle.std.specs.List.{All, IsDistinct}
use Rattle.std.proofs.lemmas.Grind.{merely}
use Rattle.dai_model.specs.Protocol.{Protocol, Relation, Individual}
use Rattle.dai_model.specs.WellSorted.{IsProtocol}
use Rattle.dai_model.specs.Profile.{IsAccepted}
use Rattle.dai_picture.specs.Samples.{pairs}

all_none : {A : Type 0} (P : A → Type 0) → All P []
all_none P k d below = absurd (omega (arith, below))

all_cons : {A : Type 0} (P : A → Type 0) (x : A) (xs : List A) → P x → All P xs → All P (x ∷ xs)
all_cons P x xs p ps zero d below = p
all_cons P x xs p ps (suc k) d below = ps k d (omega (arith, below))

abbrev between : Relation
between = record { name = codes "r"; arguments = 0 ∷ 1 ∷ [] }

abbrev only : Individual
only = record { name = codes "c"; sort = 1 }

pairs_sorted : IsProtocol pairs
pairs_sorted = record {
  relations = all_cons (λ (R : Relation). All (λ sort. sort < 2) R.arguments) between []
      (all_cons (λ sort. sort < 2) 0 (1 ∷ []) (omega arith) (all_cons (λ sort. sort < 2) 1 [] (omega arith) (all_none (λ sort. sort < 2))))
      (all_none (λ (R : Relation). All (λ sort. sort < 2) R.arguments));
  individuals = all_cons (λ (I : Individual). I.sort < 2) only [] (omega arith) (all_none (λ (I : Individual). I.sort < 2));
  axioms = all_none _;
  init = record { parameters = all_none _; choices = all_none _; code = tt };
  no_arguments = refl;
  actions = all_none _;
  invariants = all_none _;
  init_spares = λ x. all_none _;
  actions_spare = all_none _;
}

pub pairs_accepted : IsAccepted pairs
unfolding IsDistinct
pairs_accepted = record {
  sorted = pairs_sorted;
  profile = record {
    named_apart = ((refl, (refl, (refl, tt))), ((refl, (refl, tt)), ((refl, tt), (tt, tt))));
    few_sorts = omega arith;
    few_relations = omega arith;
    few_arguments = all_cons (λ (R : Relation). length R.arguments ≤ 5) between [] (omega arith) (all_none (λ (R : Relation). length R.arguments ≤ 5));
    few_individuals = omega arith;
    few_axioms = omega arith;
    axioms = all_none _;
    init = record { direct = tt; few_parameters = omega arith; few_choices = omega arith; few_witnesses = omega arith };
    few_actions = omega arith;
    actions = all_none _;
    few_invariants = omega arith;
    invariants = all_none _;
  };
}

-- what is equal to the example is accepted
pub accepted_as : (P : Protocol) → P ≡ pairs → ∥ IsAccepted P ∥₁
accepted_as P e = merely (subst IsAccepted (sym e) pairs_accepted)
