-- The settings that the words give, or the first word that is refused.
use Rattle.std.specs.Prelude.{◌≡◌, ℕ, ◌≤◌, ◌⊎◌, Bool, false, not, List, [], ◌∷◌, Option, Some, None, unwrap_or, Result, Ok, nat_eq, codes, if◌then◌else◌}
use Rattle.std.specs.Option.{option_map_or}
use Rattle.std.specs.List.{All}
use Rattle.std.specs.Str.{bytes_eq}
use Rattle.dai_words.specs.declared.settings.Command.{Command}
use Rattle.dai_words.specs.declared.settings.Command.TheVariants.{Infer, Space}
use Rattle.dai_words.specs.Refusals.{Refusal, bad_words, with_value}
use Rattle.dai_words.specs.Options.{Given, nothing_given, options_from}

-- What is to be done with which file, and the options, those that aren't given by their defaults. The word of the
-- bounds on variables is 0 where none are given.
pub record Choices : Type 0 where
  pub command : Command
  pub operand : List ℕ
  pub count : ℕ
  pub variables : List (List ℕ × ℕ)
  pub variables_word : ℕ
  pub literals : ℕ
  pub seed : ℕ
  pub runs : ℕ
  pub steps : ℕ
  pub size : ℕ
  pub workers : ℕ
  pub evidence : Bool

abbrev pub command_named : List ℕ → Option Command
command_named text = if bytes_eq text (codes "infer") then Some Infer else (if bytes_eq text (codes "space") then Some Space else None)

-- any word that isn't empty and doesn't begin with `-`
abbrev pub is_operand : List ℕ → Bool
is_operand [] = false
is_operand (b ∷ bs) = not (nat_eq b 45)

abbrev pub chosen : Command → List ℕ → Given → Choices
chosen command operand given = record {
  command = command;
  operand = operand;
  count = 0;
  variables = option_map_or (λ (v : List (List ℕ × ℕ) × ℕ). v.0) given.variables [];
  variables_word = option_map_or (λ (v : List (List ℕ × ℕ) × ℕ). v.1) given.variables 0;
  literals = unwrap_or given.literals 2;
  seed = unwrap_or given.seed 0;
  runs = unwrap_or given.runs 20;
  steps = unwrap_or given.steps 30;
  size = unwrap_or given.size 4;
  workers = unwrap_or given.workers 1;
  evidence = false;
}

-- the words after the command
abbrev pub command_line : Command → List (List ℕ) → Result Choices Refusal
command_line command [] = bad_words 2
command_line command (operand ∷ options) =
    if is_operand operand then with_value (λ given. Ok (chosen command operand given)) (options_from 3 nothing_given options) else bad_words 2

abbrev pub known_command : List (List ℕ) → Option Command → Result Choices Refusal
known_command words None = bad_words 1
known_command words (Some command) = command_line command words

abbrev pub settings_of : List (List ℕ) → Result Choices Refusal
settings_of [] = bad_words 1
settings_of (command ∷ words) = known_command words (command_named command)

-- each value is within its range, and the command is one that is known
pub record AreWithinRanges (c : Choices) : Type 0 where
  pub command : (c.command ≡ Infer) ⊎ (c.command ≡ Space)
  pub variables : All (λ (bound : List ℕ × ℕ). bound.1 ≤ 4) c.variables
  pub literals : c.literals ≤ 8
  pub runs : c.runs ≤ 1000
  pub steps : c.steps ≤ 1000
  pub size : (1 ≤ c.size) × (c.size ≤ 6)
  pub workers : (1 ≤ c.workers) × (c.workers ≤ 16)
