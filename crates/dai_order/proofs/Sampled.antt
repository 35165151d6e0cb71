-- The worked examples of the tests are protocols in the profile.
use Rattle.std.proofs.Common.{◌≡◌, ℕ, zero, suc, ◌<◌, ◌≤◌, List, [], ◌∷◌, length, sym, refl, subst, arith}
use Rattle.std.specs.Prelude.{codes}
use Rattle.std.specs.List.{All, IsDistinct}
use Rattle.std.proofs.lemmas.Grind.{merely}
use Rattle.dai_model.specs.Protocol.{Protocol, Sort, Relation}
use Rattle.dai_model.specs.WellSorted.{IsProtocol}
use Rattle.dai_model.specs.Profile.{IsAccepted}
use Rattle.dai_model.specs.Template.{Bounds}
use Rattle.dai_template.specs.declared.clause.Clause.{Clause}
use Rattle.dai_template.specs.declared.space.Space.{Space}
use Rattle.dai_template.specs.Spaces.{IsSpaceOf, IsClauseOf}
use Rattle.dai_template.specs.Lists.{IsListOfAll}
use Rattle.dai_model.proofs.Below.{Each}
use Rattle.dai_order.specs.Antichains.{AreClauses}
use Rattle.dai_order.specs.Samples.{plain, two_flags, locks, steps}

all_none : {A : Type 0} (P : A → Type 0) → All P []
all_none P k d below = absurd (omega (arith, below))

all_cons : {A : Type 0} (P : A → Type 0) (x : A) (xs : List A) → P x → All P xs → All P (x ∷ xs)
all_cons P x xs p ps zero d below = p
all_cons P x xs p ps (suc k) d below = ps k d (omega (arith, below))

-- types and relations alone
plain_protocol : (sorts : List Sort) (relations : List Relation) → All (λ (R : Relation). All (λ sort. sort < length sorts) R.arguments) relations → IsProtocol (plain sorts relations)
plain_protocol sorts relations h = record {
  relations = h;
  individuals = all_none _;
  axioms = all_none _;
  init = record { parameters = all_none _; choices = all_none _; code = tt };
  no_arguments = refl;
  actions = all_none _;
  invariants = all_none _;
  init_spares = λ x. all_none _;
  actions_spare = all_none _;
}

abbrev flag : List ℕ → Relation
flag name = record { name = name; arguments = [] }

flags_accepted : IsAccepted two_flags
unfolding IsDistinct
flags_accepted = record {
  sorted = plain_protocol [] (flag (codes "a") ∷ flag (codes "b") ∷ []) (all_cons (λ (R : Relation). All (λ sort. sort < 0) R.arguments) (flag (codes "a")) (flag (codes "b") ∷ []) (all_none (λ sort. sort < 0)) (all_cons (λ (R : Relation). All (λ sort. sort < 0) R.arguments) (flag (codes "b")) [] (all_none (λ sort. sort < 0)) (all_none (λ (R : Relation). All (λ sort. sort < 0) R.arguments))));
  profile = record {
    named_apart = ((refl, tt), (tt, tt));
    few_sorts = omega arith;
    few_relations = omega arith;
    few_arguments = all_cons (λ (R : Relation). length R.arguments ≤ 5) (flag (codes "a")) (flag (codes "b") ∷ []) (omega arith) (all_cons (λ (R : Relation). length R.arguments ≤ 5) (flag (codes "b")) [] (omega arith) (all_none (λ (R : Relation). length R.arguments ≤ 5)));
    few_individuals = omega arith;
    few_axioms = omega arith;
    axioms = all_none _;
    init = record { direct = tt; few_parameters = omega arith; few_choices = omega arith; few_witnesses = omega arith };
    few_actions = omega arith;
    actions = all_none _;
    few_invariants = omega arith;
    invariants = all_none _;
  };
}

abbrev link : Relation
link = record { name = codes "link"; arguments = 0 ∷ 1 ∷ [] }

abbrev semaphore : Relation
semaphore = record { name = codes "semaphore"; arguments = 1 ∷ [] }

locks_accepted : IsAccepted locks
unfolding IsDistinct
locks_accepted = record {
  sorted = plain_protocol locks.sorts (link ∷ semaphore ∷ [])
      (all_cons (λ (R : Relation). All (λ sort. sort < 2) R.arguments) link (semaphore ∷ [])
      (all_cons (λ sort. sort < 2) 0 (1 ∷ []) (omega arith) (all_cons (λ sort. sort < 2) 1 [] (omega arith) (all_none (λ sort. sort < 2))))
      (all_cons (λ (R : Relation). All (λ sort. sort < 2) R.arguments) semaphore [] (all_cons (λ sort. sort < 2) 1 [] (omega arith) (all_none (λ sort. sort < 2))) (all_none (λ (R : Relation). All (λ sort. sort < 2) R.arguments))));
  profile = record {
    named_apart = ((refl, (refl, (refl, tt))), ((refl, (refl, tt)), ((refl, tt), (tt, tt))));
    few_sorts = omega arith;
    few_relations = omega arith;
    few_arguments = all_cons (λ (R : Relation). length R.arguments ≤ 5) link (semaphore ∷ []) (omega arith) (all_cons (λ (R : Relation). length R.arguments ≤ 5) semaphore [] (omega arith) (all_none (λ (R : Relation). length R.arguments ≤ 5)));
    few_individuals = omega arith;
    few_axioms = omega arith;
    axioms = all_none _;
    init = record { direct = tt; few_parameters = omega arith; few_choices = omega arith; few_witnesses = omega arith };
    few_actions = omega arith;
    actions = all_none _;
    few_invariants = omega arith;
    invariants = all_none _;
  };
}

abbrev step : Relation
step = record { name = codes "p"; arguments = 0 ∷ [] }

steps_accepted : IsAccepted steps
unfolding IsDistinct
steps_accepted = record {
  sorted = plain_protocol steps.sorts (step ∷ []) (all_cons (λ (R : Relation). All (λ sort. sort < 1) R.arguments) step [] (all_cons (λ sort. sort < 1) 0 [] (omega arith) (all_none (λ sort. sort < 1))) (all_none (λ (R : Relation). All (λ sort. sort < 1) R.arguments)));
  profile = record {
    named_apart = ((refl, tt), (tt, tt));
    few_sorts = omega arith;
    few_relations = omega arith;
    few_arguments = all_cons (λ (R : Relation). length R.arguments ≤ 5) step [] (omega arith) (all_none (λ (R : Relation). length R.arguments ≤ 5));
    few_individuals = omega arith;
    few_axioms = omega arith;
    axioms = all_none _;
    init = record { direct = tt; few_parameters = omega arith; few_choices = omega arith; few_witnesses = omega arith };
    few_actions = omega arith;
    actions = all_none _;
    few_invariants = omega arith;
    invariants = all_none _;
  };
}

pub flags_as : (P : Protocol) → P ≡ two_flags → ∥ IsAccepted P ∥₁
flags_as P e = merely (subst IsAccepted (sym e) flags_accepted)

pub locks_as : (P : Protocol) → P ≡ locks → ∥ IsAccepted P ∥₁
locks_as P e = merely (subst IsAccepted (sym e) locks_accepted)

pub steps_as : (P : Protocol) → P ≡ steps → ∥ IsAccepted P ∥₁
steps_as P e = merely (subst IsAccepted (sym e) steps_accepted)

-- all clauses of a space
each_from_all : {X : Type 0} (P : X → Type 0) (xs : List X) → All P xs → Each P xs
each_from_all P [] h = tt
each_from_all P (x ∷ xs) h = (h 0 x (omega arith), each_from_all P xs (λ k d below. h (suc k) d (omega (arith, below))))

pub all_clauses : (P : Protocol) (B : Bounds) (space : Space) (clauses : List Clause) → IsSpaceOf P B space → IsListOfAll P B space clauses → AreClauses P B space clauses
all_clauses P B space clauses h all = record { space_of = h; each = each_from_all (IsClauseOf P B space) clauses all.of_the_space }
