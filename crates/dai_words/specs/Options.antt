-- The options: pairs of a name and a value, in any order, each at most once.
use Rattle.std.specs.Prelude.{ℕ, ◌+◌, ◌-◌, ◌^◌, Bool, List, [], ◌∷◌, Option, Some, None, is_some, Result, Ok, codes, if◌then◌else◌}
use Rattle.std.specs.Str.{bytes_eq}
use Rattle.dai_words.specs.declared.settings.Setting.{Setting}
use Rattle.dai_words.specs.declared.settings.Setting.TheVariants.{Variables, Literals, Seed, Runs, Steps, Size, Workers}
use Rattle.dai_words.specs.Refusals.{Refusal, bad_words, with_value}
use Rattle.dai_words.specs.Numbers.{number_at}
use Rattle.dai_words.specs.Bounds.{bounds_at}

-- the setting that an option gives
abbrev pub setting_named : List ℕ → Option Setting
setting_named text =
    if bytes_eq text (codes "--vars") then Some Variables else
    (if bytes_eq text (codes "--lits") then Some Literals else
    (if bytes_eq text (codes "--seed") then Some Seed else
    (if bytes_eq text (codes "--runs") then Some Runs else
    (if bytes_eq text (codes "--steps") then Some Steps else
    (if bytes_eq text (codes "--size") then Some Size else
    (if bytes_eq text (codes "--workers") then Some Workers else None))))))

-- what was given so far; the bounds on variables with their word
pub record Given : Type 0 where
  pub variables : Option (List (List ℕ × ℕ) × ℕ)
  pub literals : Option ℕ
  pub seed : Option ℕ
  pub runs : Option ℕ
  pub steps : Option ℕ
  pub size : Option ℕ
  pub workers : Option ℕ

abbrev pub nothing_given : Given
nothing_given = record { variables = None; literals = None; seed = None; runs = None; steps = None; size = None; workers = None }

abbrev pub is_given : Given → Setting → Bool
is_given given Variables = is_some given.variables
is_given given Literals = is_some given.literals
is_given given Seed = is_some given.seed
is_given given Runs = is_some given.runs
is_given given Steps = is_some given.steps
is_given given Size = is_some given.size
is_given given Workers = is_some given.workers

-- with the value at this word
abbrev pub gives : ℕ → Given → Setting → List ℕ → Result Given Refusal
gives word given Variables text = with_value (λ bounds. Ok (record given { variables = Some (bounds, word) })) (bounds_at word text)
gives word given Literals text = with_value (λ n. Ok (record given { literals = Some n })) (number_at 0 8 word text)
gives word given Seed text = with_value (λ n. Ok (record given { seed = Some n })) (number_at 0 (2 ^ 64 - 1) word text)
gives word given Runs text = with_value (λ n. Ok (record given { runs = Some n })) (number_at 0 1000 word text)
gives word given Steps text = with_value (λ n. Ok (record given { steps = Some n })) (number_at 0 1000 word text)
gives word given Size text = with_value (λ n. Ok (record given { size = Some n })) (number_at 1 6 word text)
gives word given Workers text = with_value (λ n. Ok (record given { workers = Some n })) (number_at 1 16 word text)

-- the setting of an option at this word, which must be known and new
abbrev pub new_setting : ℕ → Given → Option Setting → Result Setting Refusal
new_setting word given None = bad_words word
new_setting word given (Some setting) = if is_given given setting then bad_words word else Ok setting

-- the options from this word on
abbrev pub options_from : ℕ → Given → List (List ℕ) → Result Given Refusal
options_from word given [] = Ok given
options_from word given (option ∷ []) = with_value (λ setting. bad_words (word + 1)) (new_setting word given (setting_named option))
options_from word given (option ∷ value ∷ rest) =
    with_value (λ setting. with_value (λ now. options_from (word + 2) now rest) (gives (word + 1) given setting value)) (new_setting word given (setting_named option))

-- how many settings are given
abbrev pub one_if : {A : Type 0} → Option A → ℕ
one_if None = 0
one_if (Some value) = 1

abbrev pub number_given : Given → ℕ
number_given given =
    one_if given.variables + one_if given.literals + one_if given.seed + one_if given.runs + one_if given.steps
    + one_if given.size + one_if given.workers
