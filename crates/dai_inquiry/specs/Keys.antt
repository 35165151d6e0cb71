-- Keys of clauses.
use Rattle.std.specs.Prelude.{List, map, take, drop}
use Rattle.dai_model.specs.Clause.{Clause}
use Rattle.dai_inquiry.specs.declared.keys.Key.{Key}

-- the clause that a key stands for
abbrev pub clause_in : Key → Clause
clause_in k = record { counts = take k.types k.bytes.items; literals = drop k.types k.bytes.items }

abbrev pub clauses_in : List Key → List Clause
clauses_in keys = map clause_in keys
