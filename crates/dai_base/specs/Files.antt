use Rattle.std.specs.Prelude.{◌≡◌, ℕ, ◌<◌, List, length, Option, Some, None, IsSomeAnd, Result, Ok, Err, Vec}
use Rattle.std.specs.Global.{Global}
use Rattle.dai_base.specs.Count.{Rises}
use Rattle.dai_base.specs.declared.files.ReadError.{ReadError}
use Rattle.dai_base.specs.declared.files.ReadError.TheVariants.{Missing, TooLong, Failed, Spent}

-- what is held: the bytes under each name, and `None` under a name that isn't held
abbrev pub Holdings : Type 0
Holdings = List ℕ → Option (List ℕ)

-- what an answer says of the bytes held under the name, and of the count of faults before and after the call
abbrev pub IsReadOf : Option (List ℕ) → ℕ → ℕ → ℕ → Result (Vec ℕ Global) ReadError → Type 0
IsReadOf found limit before now (Ok bytes) = found ≡ Some bytes.items
IsReadOf found limit before now (Err Missing) = (found ≡ None) × (now ≡ before)
IsReadOf found limit before now (Err TooLong) = IsSomeAnd found (λ bytes. limit < length bytes) × (now ≡ before)
IsReadOf found limit before now (Err Failed) = Rises before now
IsReadOf found limit before now (Err Spent) = Unit {0}

-- the same where nothing is told of what is held
abbrev pub IsBlindRead : ℕ → ℕ → Result (Vec ℕ Global) ReadError → Type 0
IsBlindRead before now (Ok bytes) = Unit {0}
IsBlindRead before now (Err Missing) = Rises before now
IsBlindRead before now (Err TooLong) = Unit {0}
IsBlindRead before now (Err Failed) = Rises before now
IsBlindRead before now (Err Spent) = Unit {0}
