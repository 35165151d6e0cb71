-- The bounds of a search, from what the words say of types by name.
use Rattle.std.specs.Prelude.{ℕ, Bool, not, List, find, map, nat_eq}
use Rattle.std.specs.Option.{option_map_or}
use Rattle.std.specs.List.{list_any}
use Rattle.std.specs.Cmp.Lexicographic.{pointwise}
use Rattle.dai_model.specs.Protocol.{Protocol, Sort}
use Rattle.dai_model.specs.Template.{Bounds}
use Rattle.dai_words.specs.Words.{Choices}

abbrev pub same_name : List ℕ → List ℕ → Bool
same_name = pointwise nat_eq

-- the bound that is given for the type, or else 2
abbrev pub bound_of : List (List ℕ × ℕ) → List ℕ → ℕ
bound_of given name = option_map_or (λ (bound : List ℕ × ℕ). bound.1) (find (λ (bound : List ℕ × ℕ). same_name name bound.0) given) 2

abbrev pub bounds_of : Protocol → Choices → Bounds
bounds_of P c = record { variables = map (λ (T : Sort). bound_of c.variables T.name) P.sorts; literals = c.literals }

-- whether the protocol has a type of the name
abbrev pub has_type : Protocol → List ℕ → Bool
has_type P name = list_any (λ (T : Sort). same_name name T.name) P.sorts

-- whether a bound is given for a name that is no type
abbrev pub names_unknown : Protocol → Choices → Bool
names_unknown P c = list_any (λ (bound : List ℕ × ℕ). not (has_type P bound.0)) c.variables
