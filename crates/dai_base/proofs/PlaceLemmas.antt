use Rattle.std.proofs.Common.{◌≡◌, ℕ, List, ◌+◌, ◌-◌, ◌≤◌, length, not, arith, length-drop}
use Rattle.std.specs.List.{count_by, suffix_len, after_last}
use Rattle.std.proofs.lemmas.List.Sums.{suffix_len-le-length}
use Rattle.dai_base.specs.Place.{is_line_feed}

-- how far the lines and columns of these bytes were counted
pub record IsReached (before : List ℕ) (line column : ℕ) : Type 0 where
  pub lines : line ≡ 1 + count_by is_line_feed before
  pub columns : column ≡ 1 + suffix_len (λ x. not (is_line_feed x)) before

-- after the last line feed stand the bytes that the suffix without line feeds has
pub length-after_last : (before : List ℕ) → length (after_last is_line_feed before) ≡ suffix_len (λ x. not (is_line_feed x)) before
length-after_last before =
    omega (arith, length-drop (length before - suffix_len (λ x. not (is_line_feed x)) before) before, suffix_len-le-length (λ x. not (is_line_feed x)) before)

-- what was counted of these bytes gives the place after them
pub is_place : (before : List ℕ) (line column : ℕ) → IsReached before line column → (line ≡ 1 + count_by is_line_feed before) × (column ≡ 1 + length (after_last is_line_feed before))
is_place before line column reached =
    (reached.lines, omega (arith, reached.columns, length-after_last before))

-- the column is at most one more than these bytes
pub column-le : (before : List ℕ) (line column : ℕ) → IsReached before line column → column ≤ length before + 1
column-le before line column reached = omega (arith, reached.columns, suffix_len-le-length (λ x. not (is_line_feed x)) before)
