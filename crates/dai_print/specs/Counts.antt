-- The text of the counts of a template space: a line for each.
use Rattle.std.specs.Prelude.{ℕ, List, [], ◌∷◌, ◌++◌, length, codes}
use Rattle.std.specs.List.{flat_map, zip}
use Rattle.std.specs.Fmt.{decimal}
use Rattle.dai_model.specs.Protocol.{Protocol, Sort}
use Rattle.dai_model.specs.Template.{Bounds}
use Rattle.dai_model.specs.Sizes.{size_bounds}
use Rattle.dai_model.specs.Limits.{atom_count, ground_atoms, move_count}
use Rattle.dai_model.specs.Shapes.{shapes_within, template_count}

abbrev pub count_line : List ℕ → ℕ → List ℕ
count_line what n = what ++ (decimal n ++ 10 ∷ [])

-- the bound on the size of a type
abbrev pub bound_line : Sort × ℕ → List ℕ
bound_line b = codes "bound " ++ (b.0.name ++ (codes " " ++ (decimal b.1 ++ 10 ∷ [])))

abbrev pub counts_lines : List Sort → ℕ → ℕ → ℕ → List ℕ → ℕ → ℕ → List ℕ
counts_lines sorts shapes atoms templates bounds ground_count moves =
    count_line (codes "types ") (length sorts)
    ++ (count_line (codes "shapes ") shapes
    ++ (count_line (codes "atoms ") atoms
    ++ (count_line (codes "templates ") templates
    ++ (flat_map bound_line (zip sorts bounds)
    ++ (count_line (codes "ground ") ground_count
    ++ count_line (codes "moves ") moves)))))

-- within these bounds, with this size for each type of a run
abbrev pub counts_text : Protocol → Bounds → ℕ → List ℕ
counts_text P B size =
    counts_lines P.sorts (length (shapes_within B.variables)) (atom_count P B) (template_count P B) (size_bounds P B.variables) (ground_atoms P B.variables size) (move_count P size)
