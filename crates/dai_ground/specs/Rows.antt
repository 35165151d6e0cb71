-- Rows of bits as candidates.
use Rattle.std.specs.Prelude.{ℕ, ◌+◌, List, [], ◌∷◌}
use Rattle.dai_circuit.specs.declared.bit.Bit.{Bit}
use Rattle.dai_ground.specs.declared.candidates.Candidate.{Candidate}

-- the slots from this one on, with these bits
abbrev pub numbered : ℕ → List Bit → List Candidate
numbered slot [] = []
numbered slot (bit ∷ row) = record { slot = slot; bit = bit } ∷ numbered (slot + 1) row
