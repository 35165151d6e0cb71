-- The protocol of triples is accepted.
use Rattle.std.proofs.Common.{◌<◌, ◌≤◌, zero, suc, List, [], ◌∷◌, length, refl, arith}
use Rattle.std.specs.Prelude.{nat_eq}
use Rattle.std.specs.List.{All, IsDistinct}
use Rattle.std.specs.Cmp.Lexicographic.{pointwise}
use Rattle.dai_model.specs.Protocol.{Relation}
use Rattle.dai_model.specs.Profile.{IsAccepted}
use Rattle.dai_model.specs.Triples.{triples}
use Rattle.dai_model.proofs.Below.{Each}

all_from : {X : Type 0} (P : X → Type 0) (xs : List X) → Each P xs → All P xs
all_from P [] h k d below = absurd (omega arith)
all_from P (x ∷ xs) h zero d below = h.0
all_from P (x ∷ xs) h (suc k) d below = all_from P xs h.1 k d (omega arith)

apart : IsDistinct (pointwise nat_eq) ((116 ∷ []) ∷ (114 ∷ []) ∷ [])
unfolding IsDistinct
apart = ((refl, tt), (tt, tt))

pub triples_accepted : IsAccepted triples
triples_accepted = record {
  sorted = record {
    relations = all_from (λ (R : Relation). All (λ sort. sort < 1) R.arguments) triples.relations (all_from (λ sort. sort < 1) (0 ∷ 0 ∷ 0 ∷ []) (omega arith, (omega arith, (omega arith, tt))), tt);
    individuals = λ k d below. absurd (omega arith);
    axioms = λ k d below. absurd (omega arith);
    init = record { parameters = λ k d below. absurd (omega arith); choices = λ k d below. absurd (omega arith); code = tt };
    no_arguments = refl;
    actions = λ k d below. absurd (omega arith);
    invariants = λ k d below. absurd (omega arith);
    init_spares = λ x k d below. absurd (omega arith);
    actions_spare = λ k d below. absurd (omega arith);
  };
  profile = record {
    named_apart = apart;
    few_sorts = omega arith;
    few_relations = omega arith;
    few_arguments = all_from (λ (R : Relation). length R.arguments ≤ 5) triples.relations (omega arith, tt);
    few_individuals = omega arith;
    few_axioms = omega arith;
    axioms = λ k d below. absurd (omega arith);
    init = record { direct = tt; few_parameters = omega arith; few_choices = omega arith; few_witnesses = omega arith };
    few_actions = omega arith;
    actions = λ k d below. absurd (omega arith);
    few_invariants = omega arith;
    invariants = λ k d below. absurd (omega arith);
  };
}
