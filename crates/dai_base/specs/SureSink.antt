use Rattle.std.specs.Prelude.{ℕ, List}

-- the bytes that were written, and the room that is left of what was reserved
pub record Store : Type 0 where
  pub bytes : List ℕ
  pub spare : ℕ
