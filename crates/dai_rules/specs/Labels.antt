-- What the program keeps of the classes of variables, by their labels.
use Rattle.std.specs.Prelude.{◌≡◌, ◌≢◌, ℕ, ◌<◌, Bool, true, List, [], ◌∷◌, ◌++◌, length, Option, None, Some, slice_index_or}
use Rattle.std.specs.List.{All, list_any}
use Rattle.std.specs.Option.{option_map, option_copied}
use Rattle.dai_syntax.specs.declared.tree.Name.{Name}
use Rattle.dai_syntax.specs.Tree.{Declaration}
use Rattle.dai_rules.specs.declared.classes.Summary.{Summary}
use Rattle.dai_rules.specs.Types.{Use}
use Rattle.dai_rules.specs.Rules.{is_unordered}
use Rattle.dai_rules.specs.Classes.{types_in, clash}

-- each label is below the number of labels
abbrev pub AreLabels : ℕ → List ℕ → Type 0
AreLabels count labels = All (λ label. label < count) labels

abbrev pub first_type : List (List ℕ) → Option (List ℕ)
first_type [] = None
first_type (t ∷ ts) = Some t

-- the first of these types, and whether another one differs from it
pub record IsSummary (types : List (List ℕ)) (s : Summary) : Type 0 where
  pub first : option_map (λ (name : Name). name.text) (option_copied s.sort) ≡ first_type types
  pub clashes : s.clashes ≡ clash types

-- a summary for each label
pub record AreSummaries (labels : List ℕ) (uses : List Use) (summaries : List Summary) : Type 0 where
  pub count : length summaries ≡ length labels
  pub each : (label : ℕ) (d : Summary) → label < length labels → IsSummary (types_in labels label uses) (slice_index_or summaries label d)

-- a mark for each label whose class has a type without an order
pub record AreUnordered (declarations : List Declaration) (labels : List ℕ) (uses : List Use) (marks : List Bool) : Type 0 where
  pub count : length marks ≡ length labels
  pub each : (label : ℕ) (d : Bool) → label < length labels → slice_index_or marks label d ≡ list_any (is_unordered declarations) (types_in labels label uses)

-- a further type of the class with this label
pub record AddsType (label : ℕ) (type : List ℕ) (old new : List Summary) : Type 0 where
  pub count : length new ≡ length old
  pub there : (types : List (List ℕ)) (d : Summary) → label < length old → IsSummary types (slice_index_or old label d) → IsSummary (types ++ type ∷ []) (slice_index_or new label d)
  pub others : (other : ℕ) (d : Summary) → other ≢ label → slice_index_or new other d ≡ slice_index_or old other d

pub record AddsMark (label : ℕ) (old new : List Bool) : Type 0 where
  pub count : length new ≡ length old
  pub there : (d : Bool) → label < length old → slice_index_or new label d ≡ true
  pub others : (other : ℕ) (d : Bool) → other ≢ label → slice_index_or new other d ≡ slice_index_or old other d
