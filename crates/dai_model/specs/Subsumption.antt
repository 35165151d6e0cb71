-- Subsumption of clauses (Robinson 1965), renamings, the canonical clause and the print order.
use Rattle.std.specs.Prelude.{◌≡◌, ◌≢◌, ℕ, List, map, length, sum}
use Rattle.std.specs.List.{Contains}
use Rattle.std.specs.Ordering.{nat_cmp, ordering_then}
use Rattle.std.specs.Cmp.Lexicographic.{slice_cmp}
use Rattle.std.specs.declared.cmp.Ordering.{Ordering}
use Rattle.std.specs.declared.cmp.Ordering.TheVariants.{Greater}
use Rattle.dai_model.specs.Protocol.{Protocol}
use Rattle.dai_model.specs.Placement.{ArePlacements}
use Rattle.dai_model.specs.Clause.{Clause, Variable, Atom, tuple, is_individual, Literal, literals_of, value_at}
use Rattle.dai_model.specs.Template.{Bounds, IsTemplate}

-- the variable, atom or literal under a map of variables, given by their new numbers
abbrev pub image_of_variable : List (List ℕ) → Variable → Variable
image_of_variable to v = record { sort = v.sort; number = value_at to v }

abbrev pub image_of_atom : List (List ℕ) → Atom → Atom
image_of_atom to (tuple r vs) = tuple r (map (image_of_variable to) vs)
image_of_atom to (is_individual v i) = is_individual (image_of_variable to v) i

abbrev pub image_of : List (List ℕ) → Literal → Literal
image_of to l = record { atom = image_of_atom to l.atom; negated = l.negated }

-- an injection of variables, type by type and increasing where ordered, takes each literal of the first
-- clause to one of the second
pub record Subsumes (P : Protocol) (below above : Clause) : Type 0 where
  pub injection : List (List ℕ)
  pub places : ArePlacements P below.counts above.counts injection
  pub literals : (l : Literal) → Contains (literals_of P below) l → Contains (literals_of P above) (image_of injection l)

abbrev pub StrictlySubsumes : Protocol → Clause → Clause → Type 0
StrictlySubsumes P below above = Subsumes P below above × (Subsumes P above below → ⊥)

-- the same clause with its variables permuted
pub record IsRenaming (P : Protocol) (c renamed : Clause) : Type 0 where
  pub same_shape : c.counts ≡ renamed.counts
  pub as_many_literals : length c.literals ≡ length renamed.literals
  pub permuted : Subsumes P c renamed

abbrev pub compare_literals : Clause → Clause → Ordering
compare_literals c d = slice_cmp nat_cmp c.literals d.literals

-- the least of a clause's renamings
abbrev pub IsCanonical : Protocol → Bounds → Clause → Type 0
IsCanonical P B c = (renamed : Clause) → IsTemplate P B renamed → IsRenaming P c renamed → compare_literals c renamed ≢ Greater

-- print order: number of variables, counts, number of literals, literals
abbrev pub print_order : Clause → Clause → Ordering
print_order c d =
    ordering_then (nat_cmp (sum c.counts) (sum d.counts))
    (ordering_then (slice_cmp nat_cmp c.counts d.counts)
    (ordering_then (nat_cmp (length c.literals) (length d.literals))
    (compare_literals c d)))
