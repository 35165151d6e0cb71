-- Numbers among the words.
use Rattle.std.specs.Prelude.{ℕ, ◌&&◌, Bool, not, List, Result, Ok, nat_le, ◌==◌, length, if◌then◌else◌}
use Rattle.std.specs.List.{list_all}
use Rattle.std.specs.Char.{is_ascii_digit}
use Rattle.std.specs.Str.Parse.{digits_value}
use Rattle.dai_words.specs.Refusals.{Refusal, bad_words, out_of_range}

-- one or more digits; leading zeros are allowed
abbrev pub is_number : List ℕ → Bool
is_number text = not (length text == 0) && list_all is_ascii_digit text

-- from the least to the most
abbrev pub is_within : ℕ → ℕ → ℕ → Bool
is_within least most n = nat_le least n && nat_le n most

-- the number at this word
abbrev pub number_at : ℕ → ℕ → ℕ → List ℕ → Result ℕ Refusal
number_at least most word text =
    if is_number text then (if is_within least most (digits_value 10 text) then Ok (digits_value 10 text) else out_of_range word) else bad_words word
