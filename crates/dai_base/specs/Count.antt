use Rattle.std.specs.Prelude.{◌≡◌, ℕ, ◌+◌, ◌-◌, ◌^◌, ◌≤◌, min}

-- the last value of a count, where it stands from then on
abbrev pub last_count : ℕ
last_count = 2 ^ 64 - 1

-- the count rose by one, or stands at its last value
abbrev pub RisesByOne : ℕ → ℕ → Type 0
RisesByOne before now = now ≡ min (before + 1) last_count

-- the count rose, or stands at its last value
abbrev pub Rises : ℕ → ℕ → Type 0
Rises before now = min (before + 1) last_count ≤ now

-- the count didn't fall, and is at most its last value
abbrev pub NeverFalls : ℕ → ℕ → Type 0
NeverFalls before now = (before ≤ now) × (now ≤ last_count)
