-- The report's text: a line for each clause of the answer, in print order, and then whether every invariant
-- follows. A variable is printed as its type's name with a capital first letter and its number from 1.
use Rattle.std.specs.Prelude.{◌≡◌, ℕ, ◌+◌, ◌-◌, ◌&&◌, Bool, false, List, [], ◌∷◌, ◌++◌, map, length, nat_le, slice_index_or, codes, if◌then◌else◌}
use Rattle.std.specs.List.{flat_map, enumerate_from}
use Rattle.std.specs.Fmt.{decimal}
use Rattle.dai_model.specs.Protocol.{Protocol, Invariant}
use Rattle.dai_model.specs.Clause.{Clause, Variable, Atom, tuple, is_individual, Literal, literals_of, numbers_below, variables_of}
use Rattle.dai_model.specs.Template.{Bounds}
use Rattle.dai_model.specs.Classes.{Class}
use Rattle.dai_model.specs.Answer.{IsAnswer, AreMissing}

-- the pieces with this text between each two neighbours
abbrev pub joined : List ℕ → List (List ℕ) → List ℕ
joined between [] = []
joined between (piece ∷ []) = piece
joined between (piece ∷ next ∷ pieces) = piece ++ (between ++ joined between (next ∷ pieces))

abbrev pub if_any : List (List ℕ) → List ℕ → List ℕ
if_any [] text = []
if_any (piece ∷ pieces) text = text

abbrev pub sort_name : Protocol → ℕ → List ℕ
sort_name P sort = (slice_index_or P.sorts sort (record { name = []; ordered = false })).name

abbrev pub is_ordered : Protocol → ℕ → Bool
is_ordered P sort = (slice_index_or P.sorts sort (record { name = []; ordered = false })).ordered

abbrev pub relation_name : Protocol → ℕ → List ℕ
relation_name P r = (slice_index_or P.relations r (record { name = []; arguments = [] })).name

abbrev pub individual_name : Protocol → ℕ → List ℕ
individual_name P i = (slice_index_or P.individuals i (record { name = []; sort = 0 })).name

abbrev pub capitalized : List ℕ → List ℕ
capitalized [] = []
capitalized (b ∷ bs) = (if nat_le 97 b && nat_le b 122 then b - 32 else b) ∷ bs

abbrev pub variable_text : Protocol → Variable → List ℕ
variable_text P v = capitalized (sort_name P v.sort) ++ decimal (v.number + 1)

-- the variables of a shape, by type and then by number
abbrev pub variables : Protocol → List ℕ → List Variable
variables P counts = flat_map (variables_of counts) (numbers_below (length P.sorts))

abbrev pub binder_text : Protocol → Variable → List ℕ
binder_text P v = variable_text P v ++ (codes ":" ++ sort_name P v.sort)

-- each variable with each later one
abbrev pub unequal_guards : Protocol → List Variable → List (List ℕ)
unequal_guards P [] = []
unequal_guards P (v ∷ vs) = map (λ (w : Variable). variable_text P v ++ (codes " ~= " ++ variable_text P w)) vs ++ unequal_guards P vs

-- each variable with the next one
abbrev pub increasing_guards : Protocol → List Variable → List (List ℕ)
increasing_guards P [] = []
increasing_guards P (v ∷ []) = []
increasing_guards P (v ∷ w ∷ vs) = (variable_text P v ++ (codes " < " ++ variable_text P w)) ∷ increasing_guards P (w ∷ vs)

abbrev pub guards_of_sort : Protocol → List ℕ → ℕ → List (List ℕ)
guards_of_sort P counts sort = if is_ordered P sort then increasing_guards P (variables_of counts sort) else unequal_guards P (variables_of counts sort)

abbrev pub guards : Protocol → List ℕ → List (List ℕ)
guards P counts = flat_map (guards_of_sort P counts) (numbers_below (length P.sorts))

abbrev pub arguments_text : Protocol → List Variable → List ℕ
arguments_text P [] = []
arguments_text P (v ∷ vs) = codes "(" ++ (joined (codes ",") (map (variable_text P) (v ∷ vs)) ++ codes ")")

-- the sign before a relation, and the sign between the sides of an equation
abbrev pub literal_text : Protocol → Literal → List ℕ
literal_text P l = literal_text_of l.atom
  where
    literal_text_of : Atom → List ℕ
    literal_text_of (tuple r vs) = (if l.negated then codes "~" else []) ++ (relation_name P r ++ arguments_text P vs)
    literal_text_of (is_individual v i) = variable_text P v ++ ((if l.negated then codes " ~= " else codes " = ") ++ individual_name P i)

abbrev pub body_text : List (List ℕ) → List ℕ
body_text [] = codes "false"
body_text (literal ∷ literals) = joined (codes " | ") (literal ∷ literals)

abbrev pub clause_text : Protocol → Clause → List ℕ
clause_text P c =
    let bound = map (binder_text P) (variables P c.counts) in
    let guarded = guards P c.counts in
    if_any bound (codes "forall " ++ (joined (codes ", ") bound ++ codes ". "))
    ++ (if_any guarded (joined (codes " & ") guarded ++ codes " -> ")
    ++ body_text (map (literal_text P) (literals_of P c)))

abbrev pub clause_line : Protocol → ℕ × Clause → List ℕ
clause_line P c = codes "invariant [d" ++ (decimal c.0 ++ (codes "] " ++ (clause_text P c.1 ++ 10 ∷ [])))

abbrev pub label_of : Protocol → ℕ → List ℕ
label_of P i = slice_index_or (map (λ (f : Invariant). f.label) P.invariants) i []

abbrev pub verdict_line : Protocol → List ℕ → List ℕ
verdict_line P [] = codes "FOUND" ++ 10 ∷ []
verdict_line P (i ∷ missing) = codes "NOT FOUND" ++ (flat_map (λ j. codes " " ++ label_of P j) (i ∷ missing) ++ 10 ∷ [])

-- the lines of the answer's clauses, numbered from 1, and the verdict
abbrev pub report_of : Protocol → List Clause → List ℕ → List ℕ
report_of P answer missing = flat_map (clause_line P) (enumerate_from 1 answer) ++ verdict_line P missing

pub record IsReport (C : Class) (P : Protocol) (B : Bounds) (text : List ℕ) : Type 0 where
  pub answer : List Clause
  pub missing : List ℕ
  pub is_answer : IsAnswer C P B answer
  pub are_missing : AreMissing C P B missing
  pub text_is : text ≡ report_of P answer missing
