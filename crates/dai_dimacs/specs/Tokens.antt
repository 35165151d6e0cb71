-- Numbers, and what the words of a clause say.
use Rattle.std.specs.Prelude.{◌<◌, ◌-◌, ◌^◌, ◌==◌, ◌&&◌, ℕ, Bool, true, false, List, Option, Some, None, nat_lt, drop, slice_index, if◌then◌else◌}
use Rattle.std.specs.List.{list_all}
use Rattle.std.specs.Option.{option_map}
use Rattle.std.specs.Char.{is_ascii_digit}
use Rattle.std.specs.Str.Parse.{digits_value}
use Rattle.dai_dimacs.specs.declared.tokens.Token.{Token}
use Rattle.dai_dimacs.specs.declared.tokens.Token.TheVariants.{End, Literal}
use Rattle.dai_dimacs.specs.Pieces.{is_filled}

-- one or more digits that are a number below 2^64; leading zeros are allowed
abbrev pub is_number : List ℕ → Bool
is_number word = is_filled word && (list_all is_ascii_digit word && nat_lt (digits_value 10 word) (2 ^ 64))

-- the number that the word is
abbrev pub number_of : List ℕ → Option ℕ
number_of word = if is_number word then Some (digits_value 10 word) else None

-- 0 ends a clause, and a variable's number is counted from 1
abbrev pub token_at : Bool → ℕ → Token
token_at positive number = if number == 0 then End else Literal (record { var = number - 1; positive = positive })

abbrev pub signed_token : Bool → List ℕ → Option Token
signed_token positive digits = option_map (token_at positive) (number_of digits)

-- what the word says, where it is a number, which may have a minus before it
unfoldable pub token_of : List ℕ → Option Token
token_of word = if slice_index word 0 == 45 then signed_token false (drop 1 word) else signed_token true word

-- a literal's variable is below a count
abbrev pub IsTokenBelow : ℕ → Token → Type 0
IsTokenBelow vars End = Unit {0}
IsTokenBelow vars (Literal l) = l.var < vars
