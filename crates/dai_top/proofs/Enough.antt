-- The sizes that questions need are those of a judge, and its report is the one over structures of all sizes.
use Rattle.std.proofs.Common.{◌≡◌, ◌<◌, ℕ, zero, suc, List, [], ◌∷◌, length, map, ◌∙◌, arith}
use Rattle.std.specs.List.{All}
use Rattle.std.proofs.lemmas.List.{length-map}
use Rattle.dai_model.specs.Protocol.{Protocol}
use Rattle.dai_model.specs.Template.{Bounds}
use Rattle.dai_model.specs.Clause.{numbers_below}
use Rattle.dai_model.specs.Classes.{all_sizes, up_to}
use Rattle.dai_model.specs.Profile.{IsAccepted}
use Rattle.dai_model.specs.Report.{IsReport}
use Rattle.dai_model.specs.Sizes.{size_bound, size_bounds}
use Rattle.dai_judge.specs.Premises.{AreSizesFor}
use Rattle.dai_cut.proofs.SmallSets.{entailed_same, report_same, bounds_enough}
use Rattle.dai_top.specs.Answers.{IsStatusOf, found, not_found}
use Rattle.dai_top.proofs.Sorts.{numbers_length}

-- there is one for each type
pub sizes_length : (P : Protocol) (variables : List ℕ) → length (size_bounds P variables) ≡ length P.sorts
sizes_length P variables = length-map (numbers_below (length P.sorts)) (size_bound P variables) ∙ numbers_length (length P.sorts)

all_mapped : (f : ℕ → ℕ) → ((n : ℕ) → 0 < f n) → (ns : List ℕ) → All (λ n. 0 < n) (map f ns)
all_mapped f h [] = λ i d below. absurd (omega arith)
all_mapped f h (n ∷ ns) = by_place (all_mapped f h ns)
  where
    by_place : All (λ n. 0 < n) (map f ns) → All (λ n. 0 < n) (f n ∷ map f ns)
    by_place rest zero d below = h n
    by_place rest (suc i) d below = rest i d (omega arith)

-- and each has an element
pub sizes_positive : (P : Protocol) (variables : List ℕ) → All (λ n. 0 < n) (size_bounds P variables)
sizes_positive P variables = all_mapped (size_bound P variables) (λ sort. omega arith) (numbers_below (length P.sorts))

pub report_everywhere : (P : Protocol) (B : Bounds) (text : List ℕ) → IsAccepted P → IsReport (up_to (size_bounds P B.variables)) P B text → IsReport all_sizes P B text
report_everywhere P B text accepted is = (report_same P B text (size_bounds P B.variables) accepted (bounds_enough P B)).0 is

pub status_everywhere : (P : Protocol) (B : Bounds) (n : ℕ) → IsAccepted P → IsStatusOf (up_to (size_bounds P B.variables)) P B n → IsStatusOf all_sizes P B n
status_everywhere P B n accepted (found h) =
    found (λ i f at. (entailed_same P B i f (size_bounds P B.variables) accepted (bounds_enough P B) at).0 (h i f at))
status_everywhere P B n accepted (not_found i f at fails) =
    not_found i f at (λ e. fails ((entailed_same P B i f (size_bounds P B.variables) accepted (bounds_enough P B) at).1 e))

pub are_sizes : (P : Protocol) (variables : List ℕ) → AreSizesFor P (size_bounds P variables)
are_sizes P variables = record { one_each = sizes_length P variables; inhabited = sizes_positive P variables }
