-- Bounds on the variables of types: one or more of the form `name=number`, joined by `,`, no name twice. The form of
-- the whole is judged before the ranges of its numbers.
use Rattle.std.specs.Prelude.{◌≡◌, ℕ, ◌+◌, ◌<◌, length, take, drop, ◌&&◌, Bool, true, false, not, List, [], ◌∷◌, map, Result, Ok, nat_eq, nat_le, if◌then◌else◌}
use Rattle.std.specs.List.{list_all, list_any}
use Rattle.std.specs.Cmp.Lexicographic.{pointwise}
use Rattle.std.specs.Str.Parse.{digits_value}
use Rattle.dai_lex.specs.Words.{is_name}
use Rattle.dai_words.specs.Refusals.{Refusal, bad_words, out_of_range}
use Rattle.dai_words.specs.Numbers.{is_number}

-- the byte before the first part
abbrev pub longer : ℕ → List (List ℕ) → List (List ℕ)
longer byte [] = []
longer byte (part ∷ parts) = (byte ∷ part) ∷ parts

-- the parts of a text between the places of a byte
abbrev pub parts_between : ℕ → List ℕ → List (List ℕ)
parts_between mark [] = [] ∷ []
parts_between mark (byte ∷ text) = if nat_eq byte mark then [] ∷ parts_between mark text else longer byte (parts_between mark text)

-- a name and its digits
abbrev pub is_bound : List (List ℕ) → Bool
is_bound (name ∷ digits ∷ []) = is_name name && is_number digits
is_bound _ = false

abbrev pub bound_of : List (List ℕ) → List ℕ × ℕ
bound_of (name ∷ digits ∷ []) = (name, digits_value 10 digits)
bound_of _ = ([], 0)

-- whether a part is `name=number`, and which name and number it has
abbrev pub is_bound_text : List ℕ → Bool
is_bound_text part = is_bound (parts_between 61 part)

abbrev pub bound_in : List ℕ → List ℕ × ℕ
bound_in part = bound_of (parts_between 61 part)

abbrev pub bounds_of : List ℕ → List (List ℕ × ℕ)
bounds_of text = map bound_in (parts_between 44 text)

abbrev pub names_of : List (List ℕ × ℕ) → List (List ℕ)
names_of bounds = map (λ (bound : List ℕ × ℕ). bound.0) bounds

abbrev pub are_apart : List (List ℕ) → Bool
are_apart [] = true
are_apart (name ∷ names) = not (list_any (pointwise nat_eq name) names) && are_apart names

abbrev pub are_bounds : List ℕ → Bool
are_bounds text = list_all is_bound_text (parts_between 44 text) && are_apart (names_of (bounds_of text))

abbrev pub are_small : List (List ℕ × ℕ) → Bool
are_small bounds = list_all (λ (bound : List ℕ × ℕ). nat_le bound.1 4) bounds

abbrev pub bounds_at : ℕ → List ℕ → Result (List (List ℕ × ℕ)) Refusal
bounds_at word text = if are_bounds text then (if are_small (bounds_of text) then Ok (bounds_of text) else out_of_range word) else bad_words word

-- the first `=` stands at this place
pub record IsCut (part : List ℕ) (at : ℕ) : Type 0 where
  pub within : at < length part
  pub parts : parts_between 61 part ≡ take at part ∷ parts_between 61 (drop (at + 1) part)
