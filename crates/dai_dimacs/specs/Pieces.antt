-- The lines of a file and the words of a line.
use Rattle.std.specs.Prelude.{ℕ, Bool, not, List, [], ◌∷◌, cond, length, ◌==◌}
use Rattle.std.specs.List.{filter}
use Rattle.std.specs.Char.{is_ascii_whitespace}

-- the byte stands before the first of these pieces
abbrev pub with_front : ℕ → List (List ℕ) → List (List ℕ)
with_front byte [] = (byte ∷ []) ∷ []
with_front byte (piece ∷ pieces) = (byte ∷ piece) ∷ pieces

-- the pieces between the bytes that separate, some of them empty: one more than there are such bytes
abbrev pub pieces : (ℕ → Bool) → List ℕ → List (List ℕ)
pieces separates [] = [] ∷ []
pieces separates (byte ∷ bytes) = cond (separates byte) ([] ∷ pieces separates bytes) (with_front byte (pieces separates bytes))

-- the lines of a text; what stands behind the last line feed is a line too
abbrev pub lines : List ℕ → List (List ℕ)
lines text = pieces (λ byte. byte == 10) text

-- the text has a byte
abbrev pub is_filled : List ℕ → Bool
is_filled text = not (length text == 0)

-- the words of a text, with white space between them
abbrev pub words : List ℕ → List (List ℕ)
words text = filter is_filled (pieces is_ascii_whitespace text)
