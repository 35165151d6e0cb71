-- Which word is refused, and by which number.
use Rattle.std.specs.Prelude.{ℕ, Result, Ok, Err}

-- the fault's number, and the word, counted from 1
pub record Refusal : Type 0 where
  pub number : ℕ
  pub word : ℕ

-- a word that isn't of its form
abbrev pub bad_words : {A : Type 0} → ℕ → Result A Refusal
bad_words word = Err (record { number = 1; word = word })

-- a number of the right form outside its range
abbrev pub out_of_range : {A : Type 0} → ℕ → Result A Refusal
out_of_range word = Err (record { number = 2; word = word })

-- what is made of an accepted value, or the refusal
abbrev pub with_value : {A B : Type 0} → (A → Result B Refusal) → Result A Refusal → Result B Refusal
with_value next (Ok value) = next value
with_value next (Err refusal) = Err refusal
