-- How many types, relations and individuals are declared: in all, and before a name.
use Rattle.std.specs.Prelude.{◌≡◌, ℕ, ◌+◌, ◌<◌, List, [], ◌∷◌, map}
use Rattle.dai_syntax.specs.Tree.{Declaration, sort, relation, individual, axiom_of, init, action, export, invariant}
use Rattle.dai_sorts.specs.declared.numbers.Counts.{Counts as Program}
use Rattle.dai_sorts.specs.Scopes.{type_number, relation_number, individual_number}

pub record Counts : Type 0 where
  pub types : ℕ
  pub relations : ℕ
  pub individuals : ℕ

abbrev pub counts_of : Program → Counts
counts_of c = record { types = c.sorts; relations = c.relations; individuals = c.individuals }

abbrev pub no_counts : Counts
no_counts = record { types = 0; relations = 0; individuals = 0 }

abbrev pub counts_past : Counts → Declaration → Counts
counts_past c (sort name ordered) = record c { types = c.types + 1 }
counts_past c (relation name arguments) = record c { relations = c.relations + 1 }
counts_past c (individual name type) = record c { individuals = c.individuals + 1 }
counts_past c (axiom_of f at) = c
counts_past c (init body) = c
counts_past c (action name parameters body exported) = c
counts_past c (export name) = c
counts_past c (invariant label f at) = c

abbrev pub counts_from : Counts → List Declaration → Counts
counts_from c [] = c
counts_from c (d ∷ ds) = counts_from (counts_past c d) ds

abbrev pub counts_in : List Declaration → Counts
counts_in ds = counts_from no_counts ds

-- before the first declaration of the name
abbrev pub counts_before : List Declaration → List ℕ → Counts
counts_before ds x = record { types = type_number ds x; relations = relation_number ds x; individuals = individual_number ds x }

-- numbers of a byte
pub record AreFew (c : Counts) : Type 0 where
  pub types : c.types < 256
  pub relations : c.relations < 256
  pub individuals : c.individuals < 256

-- the counts before each of the declarations, and those of all
abbrev pub counts_at_each : Counts → List Declaration → List Counts
counts_at_each c [] = []
counts_at_each c (d ∷ ds) = c ∷ counts_at_each (counts_past c d) ds

pub record AreCounts (ds : List Declaration) (before : List Program) (all : Program) : Type 0 where
  pub each : map counts_of before ≡ counts_at_each no_counts ds
  pub whole : counts_of all ≡ counts_in ds
