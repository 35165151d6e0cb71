-- What the table of names says of the declarations of a file.
use Rattle.std.specs.Prelude.{◌≡◌, ℕ, ◌||◌, List, Option, map, Vec}
use Rattle.std.specs.List.{flat_map}
use Rattle.std.specs.declared.alloc.Global.{Global}
use Rattle.std.specs.Map.{lookup}
use Rattle.dai_syntax.specs.Tree.{Declaration}
use Rattle.dai_syntax.specs.declared.tree.Decl.{Decl}
use Rattle.dai_syntax.specs.Trees.{declaration_of}
use Rattle.dai_rules.specs.Names.{same_text, is_among, first_place}
use Rattle.dai_rules.specs.Sites.{assigned_by}

abbrev pub texts_of : List (Vec ℕ Global) → List (List ℕ)
texts_of keys = map (λ (key : Vec ℕ Global). key.items) keys

-- the place that the entries give for the name
abbrev pub place_in : List (Vec ℕ Global × ℕ) → List ℕ → Option ℕ
place_in entries x = lookup (λ (key : Vec ℕ Global). same_text x key.items) entries

-- the entries are the places of the first declarations
abbrev pub ArePlaces : List Declaration → List (Vec ℕ Global × ℕ) → Type 0
ArePlaces ds entries = (x : List ℕ) → place_in entries x ≡ first_place ds x

-- the keys are these names, whatever their order and however often each stands
abbrev pub AreNames : List (List ℕ) → List (Vec ℕ Global) → Type 0
AreNames names keys = (x : List ℕ) → is_among x (texts_of keys) ≡ is_among x names

-- these names come to the keys
abbrev pub AddsNames : List (List ℕ) → List (Vec ℕ Global) → List (Vec ℕ Global) → Type 0
AddsNames names old new = (x : List ℕ) → is_among x (texts_of new) ≡ (is_among x (texts_of old) || is_among x names)

abbrev pub IsTable : List Decl → List (Vec ℕ Global × ℕ) → List (Vec ℕ Global) → Type 0
IsTable decls places assigned = ArePlaces (map declaration_of decls) places × AreNames (flat_map assigned_by (map declaration_of decls)) assigned
