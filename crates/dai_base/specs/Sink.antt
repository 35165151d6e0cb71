use Rattle.std.specs.Prelude.{◌≡◌, ℕ, List, ◌++◌, take, Option, option_map, Result, Ok, Err}
use Rattle.dai_base.specs.declared.sink.PutError.{PutError}
use Rattle.dai_base.specs.declared.sink.PutError.TheVariants.{Failed, Spent}

-- these bytes were appended to what is written, where that is told
abbrev pub Appends : Option (List ℕ) → Option (List ℕ) → List ℕ → Type 0
Appends old new bytes = new ≡ option_map (λ written. written ++ bytes) old

-- the first of these bytes, some number of them, were appended
abbrev pub AppendsPart : Option (List ℕ) → Option (List ℕ) → List ℕ → Type 0
AppendsPart old new bytes = (count : ℕ) × Appends old new (take count bytes)

-- what an answer says of what is written
abbrev pub IsPutOf : List ℕ → Option (List ℕ) → Option (List ℕ) → Result (Unit {0}) PutError → Type 0
IsPutOf bytes old new (Ok _) = Appends old new bytes
IsPutOf bytes old new (Err Failed) = AppendsPart old new bytes
IsPutOf bytes old new (Err Spent) = new ≡ old
