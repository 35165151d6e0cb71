-- The text of a clause from the counts of its shape, its atoms and its literals.
use Rattle.std.specs.Prelude.{ℕ, List, map, length, codes, ◌++◌}
use Rattle.std.specs.List.{All, flat_map}
use Rattle.dai_model.specs.Protocol.{Protocol}
use Rattle.dai_model.specs.Clause.{Atom, numbers_below, variables_of, literal_among}
use Rattle.dai_model.specs.Template.{Bounds}
use Rattle.dai_model.specs.Report.{joined, if_any, binder_text, guards_of_sort, body_text, literal_text}
use Rattle.dai_template.specs.declared.clause.Clause.{Clause}
use Rattle.dai_template.specs.declared.space.Space.{Space}
use Rattle.dai_template.specs.Spaces.{IsClauseOf}

-- the clause is of the space, and the space of the protocol within some bounds
pub record IsPrintable (P : Protocol) (space : Space) (c : Clause) : Type 0 where
  pub bounds : Bounds
  pub is : IsClauseOf P bounds space c

-- the same of each clause
pub record ArePrintable (P : Protocol) (space : Space) (clauses : List Clause) : Type 0 where
  pub bounds : Bounds
  pub each : All (IsClauseOf P bounds space) clauses

abbrev pub text_over : Protocol → List ℕ → List Atom → List ℕ → List ℕ
text_over P counts atoms literals =
    let bound = map (binder_text P) (flat_map (variables_of counts) (numbers_below (length counts))) in
    let guarded = flat_map (guards_of_sort P counts) (numbers_below (length counts)) in
    if_any bound (codes "forall " ++ (joined (codes ", ") bound ++ codes ". "))
    ++ (if_any guarded (joined (codes " & ") guarded ++ codes " -> ")
    ++ body_text (map (λ l. literal_text P (literal_among atoms l)) literals))
