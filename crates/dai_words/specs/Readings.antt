-- What an answer of the readers of words says: the same as the definition, or that memory ran out.
use Rattle.std.specs.Prelude.{◌≡◌, ℕ, List, map, Result, Ok, Err, String, string_bytes, Vec}
use Rattle.std.specs.Option.{option_map}
use Rattle.std.specs.declared.alloc.Global.{Global}
use Rattle.dai_base.specs.Fault.{IsInTable}
use Rattle.dai_words.specs.declared.settings.Settings.{Settings}
use Rattle.dai_words.specs.declared.settings.WordsError.{WordsError}
use Rattle.dai_words.specs.declared.settings.WordsError.TheVariants.{Bad, Spent}
use Rattle.dai_words.specs.declared.options.Given.{Given as Read}
use Rattle.dai_words.specs.Refusals.{Refusal}
use Rattle.dai_words.specs.Options.{Given}
use Rattle.dai_words.specs.Words.{Choices}

abbrev pub texts : List (String Global) → List (List ℕ)
texts words = map (λ (word : String Global). string_bytes word) words

abbrev pub choices_of : Settings → Choices
choices_of settings = record {
  command = settings.command;
  operand = string_bytes settings.operand;
  count = settings.count;
  variables = settings.vars.items;
  variables_word = settings.vars_word;
  literals = settings.lits;
  seed = settings.seed;
  runs = settings.runs;
  steps = settings.steps;
  size = settings.size;
  workers = settings.workers;
  evidence = settings.evidence;
}

-- what was read of the options
abbrev pub given_of : Read → Given
given_of given = record {
  variables = option_map (λ (v : Vec (List ℕ × ℕ) Global × ℕ). (v.0.items, v.1)) given.vars;
  literals = given.lits;
  seed = given.seed;
  runs = given.runs;
  steps = given.steps;
  size = given.size;
  workers = given.workers;
}

-- a refusal is the one that is defined, and its number is that of a fault
abbrev pub IsWordsError : {A : Type 0} → Result A Refusal → WordsError → Type 0
IsWordsError defined (Bad number word) = (defined ≡ Err (record { number = number; word = word })) × IsInTable number
IsWordsError defined Spent = Unit {0}

-- the answer, seen as this value, is the one that is defined
abbrev pub Reads : {A B : Type 0} → (B → A) → Result A Refusal → Result B WordsError → Type 0
Reads seen defined (Ok value) = defined ≡ Ok (seen value)
Reads seen defined (Err e) = IsWordsError defined e

abbrev pub ReadsNumber : Result ℕ Refusal → Result ℕ WordsError → Type 0
ReadsNumber = Reads (λ n. n)

abbrev pub ReadsSettings : Result Choices Refusal → Result Settings WordsError → Type 0
ReadsSettings = Reads choices_of
