-- The worked examples are protocols in the profile.
use Rattle.std.proofs.Common.{◌≡◌, ℕ, zero, suc, ◌<◌, ◌≤◌, List, [], ◌∷◌, length, sym, refl, subst, arith}
use Rattle.std.specs.Prelude.{codes}
use Rattle.std.specs.List.{All, IsDistinct}
use Rattle.std.proofs.lemmas.Grind.{merely}
use Rattle.dai_model.specs.Protocol.{Protocol, Sort, Relation, Action, Invariant}
use Rattle.dai_model.specs.WellSorted.{IsProtocol}
use Rattle.dai_model.specs.Profile.{IsAccepted, BindsOnce, IsBlockInProfile, IsUniversalSentence}
use Rattle.dai_model.specs.Formula.{negation, conjunction, no_formulas, with_formula}
use Rattle.dai_model.specs.TwoFlags.{two_flags, flag, swap}
use Rattle.dai_model.proofs.Flags.{two_flags_is_protocol}
use Rattle.dai_samples.specs.Samples.{plain, locks, steps}

all_none : {A : Type 0} (P : A → Type 0) → All P []
all_none P k d below = absurd (omega (arith, below))

all_cons : {A : Type 0} (P : A → Type 0) (x : A) (xs : List A) → P x → All P xs → All P (x ∷ xs)
all_cons P x xs p ps zero d below = p
all_cons P x xs p ps (suc k) d below = ps k d (omega (arith, below))

-- types and relations alone
plain_protocol : (sorts : List Sort) (relations : List Relation) → All (λ (R : Relation). All (λ sort. sort < length sorts) R.arguments) relations → IsProtocol (plain sorts relations)
plain_protocol sorts relations h = record {
  relations = h;
  individuals = all_none _;
  axioms = all_none _;
  init = record { parameters = all_none _; choices = all_none _; code = tt };
  no_arguments = refl;
  actions = all_none _;
  invariants = all_none _;
  init_spares = λ x. all_none _;
  actions_spare = all_none _;
}

abbrev link : Relation
link = record { name = codes "link"; arguments = 0 ∷ 1 ∷ [] }

abbrev semaphore : Relation
semaphore = record { name = codes "semaphore"; arguments = 1 ∷ [] }

pub locks_accepted : IsAccepted locks
unfolding IsDistinct
locks_accepted = record {
  sorted = plain_protocol locks.sorts (link ∷ semaphore ∷ [])
      (all_cons (λ (R : Relation). All (λ sort. sort < 2) R.arguments) link (semaphore ∷ [])
      (all_cons (λ sort. sort < 2) 0 (1 ∷ []) (omega arith) (all_cons (λ sort. sort < 2) 1 [] (omega arith) (all_none (λ sort. sort < 2))))
      (all_cons (λ (R : Relation). All (λ sort. sort < 2) R.arguments) semaphore [] (all_cons (λ sort. sort < 2) 1 [] (omega arith) (all_none (λ sort. sort < 2))) (all_none (λ (R : Relation). All (λ sort. sort < 2) R.arguments))));
  profile = record {
    named_apart = ((refl, (refl, (refl, tt))), ((refl, (refl, tt)), ((refl, tt), (tt, tt))));
    few_sorts = omega arith;
    few_relations = omega arith;
    few_arguments = all_cons (λ (R : Relation). length R.arguments ≤ 5) link (semaphore ∷ []) (omega arith) (all_cons (λ (R : Relation). length R.arguments ≤ 5) semaphore [] (omega arith) (all_none (λ (R : Relation). length R.arguments ≤ 5)));
    few_individuals = omega arith;
    few_axioms = omega arith;
    axioms = all_none _;
    init = record { direct = tt; few_parameters = omega arith; few_choices = omega arith; few_witnesses = omega arith };
    few_actions = omega arith;
    actions = all_none _;
    few_invariants = omega arith;
    invariants = all_none _;
  };
}

abbrev step : Relation
step = record { name = codes "p"; arguments = 0 ∷ [] }

pub steps_accepted : IsAccepted steps
unfolding IsDistinct
steps_accepted = record {
  sorted = plain_protocol steps.sorts (step ∷ []) (all_cons (λ (R : Relation). All (λ sort. sort < 1) R.arguments) step [] (all_cons (λ sort. sort < 1) 0 [] (omega arith) (all_none (λ sort. sort < 1))) (all_none (λ (R : Relation). All (λ sort. sort < 1) R.arguments)));
  profile = record {
    named_apart = ((refl, tt), (tt, tt));
    few_sorts = omega arith;
    few_relations = omega arith;
    few_arguments = all_cons (λ (R : Relation). length R.arguments ≤ 5) step [] (omega arith) (all_none (λ (R : Relation). length R.arguments ≤ 5));
    few_individuals = omega arith;
    few_axioms = omega arith;
    axioms = all_none _;
    init = record { direct = tt; few_parameters = omega arith; few_choices = omega arith; few_witnesses = omega arith };
    few_actions = omega arith;
    actions = all_none _;
    few_invariants = omega arith;
    invariants = all_none _;
  };
}

bound_none : BindsOnce []
unfolding IsDistinct
bound_none = record { once = tt; few = omega arith }

abbrev a : Relation
a = record { name = codes "a"; arguments = [] }

abbrev b : Relation
b = record { name = codes "b"; arguments = [] }

pub flags_accepted : IsAccepted two_flags
unfolding IsDistinct
flags_accepted = record {
  sorted = two_flags_is_protocol;
  profile = record {
    named_apart = ((refl, (refl, tt)), ((refl, tt), (tt, tt)));
    few_sorts = omega arith;
    few_relations = omega arith;
    few_arguments = all_cons (λ (R : Relation). length R.arguments ≤ 5) a (b ∷ []) (omega arith) (all_cons (λ (R : Relation). length R.arguments ≤ 5) b [] (omega arith) (all_none (λ (R : Relation). length R.arguments ≤ 5)));
    few_individuals = omega arith;
    few_axioms = omega arith;
    axioms = all_none _;
    init = record { direct = ((refl, bound_none), ((refl, bound_none), tt)); few_parameters = omega arith; few_choices = omega arith; few_witnesses = omega arith };
    few_actions = omega arith;
    actions = all_cons (λ (t : Action). IsBlockInProfile t.block) swap [] (record { direct = (record { force = refl; binds = bound_none }, ((refl, bound_none), ((refl, bound_none), tt))); few_parameters = omega arith; few_choices = omega arith; few_witnesses = omega arith }) (all_none _);
    few_invariants = omega arith;
    invariants = all_cons (λ (f : Invariant). IsUniversalSentence f.body) (record { label = codes "excl"; body = negation (conjunction (with_formula (flag 0) (with_formula (flag 1) no_formulas))) }) [] (record { force = refl; binds = bound_none }) (all_none _);
  };
}

pub accepted_as : (P Q : Protocol) → IsAccepted Q → P ≡ Q → IsAccepted P
accepted_as P Q h e = subst IsAccepted (sym e) h

pub merely_accepted : (P Q : Protocol) → IsAccepted Q → P ≡ Q → ∥ IsAccepted P ∥₁
merely_accepted P Q h e = merely (accepted_as P Q h e)
