-- The types of the variables of a formula, computed: variables that are compared, directly or through others, are
-- one class, and have one label.
use Rattle.std.specs.Prelude.{ℕ, zero, suc, ◌+◌, Bool, true, false, not, List, [], ◌∷◌, ◌++◌, map, length, Option, Some, None, slice_index, nat_eq, if◌then◌else◌}
use Rattle.std.specs.List.{list_any, flat_map, filter_map, enumerate_from}
use Rattle.dai_syntax.specs.declared.tree.Name.{Name}
use Rattle.dai_rules.specs.declared.first.Fault.{Fault}
use Rattle.dai_rules.specs.Names.{same_text}
use Rattle.dai_rules.specs.Types.{Use, typed, linked}
use Rattle.dai_rules.specs.Sites.{Ordering, Whole}
use Rattle.dai_rules.specs.Rules.{is_unordered}

abbrev pub numbers_from : ℕ → ℕ → List ℕ
numbers_from start zero = []
numbers_from start (suc n) = start ∷ numbers_from (start + 1) n

-- the class of the right variable gets the label of the left one's
abbrev pub relabelled : ℕ → ℕ → List ℕ → List ℕ
relabelled from to labels = map (λ (l : ℕ). if nat_eq l from then to else l) labels

abbrev pub after_use : List ℕ → Use → List ℕ
after_use labels (typed v t) = labels
after_use labels (linked v w) = relabelled (slice_index labels w) (slice_index labels v) labels

abbrev pub after_uses : List ℕ → List Use → List ℕ
after_uses labels [] = labels
after_uses labels (u ∷ us) = after_uses (after_use labels u) us

abbrev pub labels_of : ℕ → List Use → List ℕ
labels_of count uses = after_uses (numbers_from 0 count) uses

-- the types of a class
abbrev pub type_in : List ℕ → ℕ → Use → Option (List ℕ)
type_in labels label (typed v t) = if nat_eq (slice_index labels v) label then Some t else None
type_in labels label (linked v w) = None

abbrev pub types_in : List ℕ → ℕ → List Use → List (List ℕ)
types_in labels label uses = filter_map (type_in labels label) uses

abbrev pub clash : List (List ℕ) → Bool
clash [] = false
clash (t ∷ ts) = list_any (λ other. not (same_text t other)) ts

abbrev pub is_empty : List (List ℕ) → Bool
is_empty [] = true
is_empty (t ∷ ts) = false

abbrev pub fault_if : Bool → ℕ → ℕ → List Fault
fault_if true number at = record { number = number; at = at } ∷ []
fault_if false number at = []

abbrev pub variable_faults : List ℕ → List Use → ℕ × Name → List Fault
variable_faults labels uses v =
    fault_if (is_empty (types_in labels (slice_index labels v.0) uses)) 25 v.1.at
    ++ fault_if (clash (types_in labels (slice_index labels v.0) uses)) 24 v.1.at

abbrev pub ordering_faults : Whole → List ℕ → Ordering → List Fault
ordering_faults w labels o = fault_if (list_any (is_unordered w.declarations) (types_in labels (slice_index labels o.variable) w.uses)) 26 o.at

abbrev pub faults_by : Whole → List ℕ → List Fault
faults_by w labels = flat_map (variable_faults labels w.uses) (enumerate_from 0 w.variables) ++ flat_map (ordering_faults w labels) w.orderings

abbrev pub type_faults : Whole → List Fault
type_faults w = faults_by w (labels_of (length w.variables) w.uses)
