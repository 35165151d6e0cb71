-- What the words give is within its ranges.
use Rattle.std.proofs.Common.{◌≡◌, ◌+◌, ◌-◌, ◌<◌, ◌≤◌, ◌^◌, ◌&&◌, ◌⊎◌, ℕ, zero, suc, Bool, true, false, List, [], ◌∷◌, map, length, Option, Some, None, Result, Ok, Err, inl, inr, sym, ◌∙◌, ap, subst, refl, arith, nat_le, if◌then◌else◌, unwrap_or}
use Rattle.std.specs.Prelude.{codes}
use Rattle.std.specs.Str.{bytes_eq}
use Rattle.std.specs.Option.{IfSome, option_map_or}
use Rattle.std.specs.List.{All, list_all}
use Rattle.std.specs.Str.Parse.{digits_value}
use Rattle.std.proofs.lemmas.Bool.Decides.{nat_tests}
use Rattle.dai_words.specs.declared.settings.Command.{Command}
use Rattle.dai_words.specs.declared.settings.Command.TheVariants.{Infer, Space}
use Rattle.dai_words.specs.declared.settings.Setting.{Setting}
use Rattle.dai_words.specs.declared.settings.Setting.TheVariants.{Variables, Literals, Seed, Runs, Steps, Size, Workers}
use Rattle.dai_words.specs.Refusals.{Refusal, bad_words, out_of_range, with_value}
use Rattle.dai_words.specs.Numbers.{is_number, is_within, number_at}
use Rattle.dai_words.specs.Bounds.{are_bounds, are_small, bounds_of, bounds_at}
use Rattle.dai_words.specs.Options.{Given, nothing_given, setting_named, new_setting, gives, options_from}
use Rattle.dai_words.specs.Words.{Choices, command_named, command_line, known_command, is_operand, chosen, settings_of, AreWithinRanges}
use Rattle.dai_words.proofs.Digits.{and_left, and_right}

abbrev Small : List (List ℕ × ℕ) → Type 0
Small bounds = All (λ (bound : List ℕ × ℕ). bound.1 ≤ 4) bounds

-- what is given so far is within its ranges
record AreWithin (g : Given) : Type 0 where
  variables : IfSome g.variables (λ (v : List (List ℕ × ℕ) × ℕ). Small v.0)
  literals : IfSome g.literals (λ n. n ≤ 8)
  runs : IfSome g.runs (λ n. n ≤ 1000)
  steps : IfSome g.steps (λ n. n ≤ 1000)
  size : IfSome g.size (λ n. (1 ≤ n) × (n ≤ 6))
  workers : IfSome g.workers (λ n. (1 ≤ n) × (n ≤ 16))

nothing_within : AreWithin nothing_given
nothing_within = record { variables = tt; literals = tt; runs = tt; steps = tt; size = tt; workers = tt }

within_tested : (least most n : ℕ) → is_within least most n ≡ true → (least ≤ n) × (n ≤ most)
within_tested least most n h = (le_from least n (and_left (nat_le least n) _ h), le_from n most (and_right (nat_le least n) _ h))
  where
    le_from : (a b : ℕ) → nat_le a b ≡ true → a ≤ b
    le_from a b e = grind (arith, nat_tests)

number_within : (least most word : ℕ) (text : List ℕ) (n : ℕ) → number_at least most word text ≡ Ok n → (least ≤ n) × (n ≤ most)
number_within least most word text n h = by_form (is_number text) (is_within least most (digits_value 10 text)) refl h
  where
    by_form : (a b : Bool) → is_within least most (digits_value 10 text) ≡ b → (if a then (if b then Ok (digits_value 10 text) else out_of_range {A = ℕ} word) else bad_words {A = ℕ} word) ≡ Ok n → (least ≤ n) × (n ≤ most)
    by_form true true e k = let same : digits_value 10 text ≡ n = cc in subst (λ m. (least ≤ m) × (m ≤ most)) same (within_tested least most (digits_value 10 text) e)
    by_form true false e k = absurd (let l : ⊥ = cc in l)
    by_form false b e k = absurd (let l : ⊥ = cc in l)

small_tested : (bounds : List (List ℕ × ℕ)) → are_small bounds ≡ true → Small bounds
small_tested [] h = λ i d below. absurd (omega arith)
small_tested (b ∷ bs) h = by_place (le_four b.1 (and_left (nat_le b.1 4) _ h)) (small_tested bs (and_right (nat_le b.1 4) _ h))
  where
    le_four : (n : ℕ) → nat_le n 4 ≡ true → n ≤ 4
    le_four n e = grind (arith, nat_tests)

    by_place : b.1 ≤ 4 → Small bs → Small (b ∷ bs)
    by_place here rest zero d below = here
    by_place here rest (suc i) d below = rest i d (omega arith)

bounds_within : (word : ℕ) (text : List ℕ) (bounds : List (List ℕ × ℕ)) → bounds_at word text ≡ Ok bounds → Small bounds
bounds_within word text bounds h = by_form (are_bounds text) (are_small (bounds_of text)) refl h
  where
    by_form : (a b : Bool) → are_small (bounds_of text) ≡ b → (if a then (if b then Ok (bounds_of text) else out_of_range {A = List (List ℕ × ℕ)} word) else bad_words {A = List (List ℕ × ℕ)} word) ≡ Ok bounds → Small bounds
    by_form true true e k = let same : bounds_of text ≡ bounds = cc in subst Small same (small_tested (bounds_of text) e)
    by_form true false e k = absurd (let l : ⊥ = cc in l)
    by_form false b e k = absurd (let l : ⊥ = cc in l)

-- the value behind an answer that is Ok
behind : {A B : Type 0} (next : A → Result B Refusal) (r : Result A Refusal) (b : B) → with_value next r ≡ Ok b → (a : A) × (r ≡ Ok a) × (next a ≡ Ok b)
behind next (Ok a) b h = (a, refl, h)
behind next (Err e) b h = absurd (let l : ⊥ = cc in l)

gives_within : (word : ℕ) (g : Given) (s : Setting) (text : List ℕ) (now : Given) → AreWithin g → gives word g s text ≡ Ok now → AreWithin now
gives_within word g Variables text now w h =
    let (v, is, made) = behind (λ bounds. Ok (let n : Given = record g { variables = Some (bounds, word) } in n)) (bounds_at word text) now h in
    let same : record g { variables = Some (v, word) } ≡ now = cc in
    subst AreWithin same (record { variables = bounds_within word text v is; literals = w.literals; runs = w.runs; steps = w.steps; size = w.size; workers = w.workers })
gives_within word g Literals text now w h =
    let (v, is, made) = behind (λ n. Ok (let m : Given = record g { literals = Some n } in m)) (number_at 0 8 word text) now h in
    let same : record g { literals = Some v } ≡ now = cc in
    subst AreWithin same (record { variables = w.variables; literals = (number_within 0 8 word text v is).1; runs = w.runs; steps = w.steps; size = w.size; workers = w.workers })
gives_within word g Seed text now w h =
    let (v, is, made) = behind (λ n. Ok (let m : Given = record g { seed = Some n } in m)) (number_at 0 (2 ^ 64 - 1) word text) now h in
    let same : record g { seed = Some v } ≡ now = cc in
    subst AreWithin same (record { variables = w.variables; literals = w.literals; runs = w.runs; steps = w.steps; size = w.size; workers = w.workers })
gives_within word g Runs text now w h =
    let (v, is, made) = behind (λ n. Ok (let m : Given = record g { runs = Some n } in m)) (number_at 0 1000 word text) now h in
    let same : record g { runs = Some v } ≡ now = cc in
    subst AreWithin same (record { variables = w.variables; literals = w.literals; runs = (number_within 0 1000 word text v is).1; steps = w.steps; size = w.size; workers = w.workers })
gives_within word g Steps text now w h =
    let (v, is, made) = behind (λ n. Ok (let m : Given = record g { steps = Some n } in m)) (number_at 0 1000 word text) now h in
    let same : record g { steps = Some v } ≡ now = cc in
    subst AreWithin same (record { variables = w.variables; literals = w.literals; runs = w.runs; steps = (number_within 0 1000 word text v is).1; size = w.size; workers = w.workers })
gives_within word g Size text now w h =
    let (v, is, made) = behind (λ n. Ok (let m : Given = record g { size = Some n } in m)) (number_at 1 6 word text) now h in
    let same : record g { size = Some v } ≡ now = cc in
    subst AreWithin same (record { variables = w.variables; literals = w.literals; runs = w.runs; steps = w.steps; size = number_within 1 6 word text v is; workers = w.workers })
gives_within word g Workers text now w h =
    let (v, is, made) = behind (λ n. Ok (let m : Given = record g { workers = Some n } in m)) (number_at 1 16 word text) now h in
    let same : record g { workers = Some v } ≡ now = cc in
    subst AreWithin same (record { variables = w.variables; literals = w.literals; runs = w.runs; steps = w.steps; size = w.size; workers = number_within 1 16 word text v is })

options_within : (word : ℕ) (g : Given) (words : List (List ℕ)) (now : Given) → AreWithin g → options_from word g words ≡ Ok now → AreWithin now
options_within word g [] now w h = let same : g ≡ now = cc in subst AreWithin same w
options_within word g (option ∷ []) now w h =
    let (s, is, made) = behind (λ setting. bad_words (word + 1)) (new_setting word g (setting_named option)) now h in
    absurd (let l : ⊥ = cc in l)
options_within word g (option ∷ value ∷ rest) now w h =
    let (s, is, made) = behind (λ setting. with_value (λ next. options_from (word + 2) next rest) (gives (word + 1) g setting value)) (new_setting word g (setting_named option)) now h in
    let (next, given, end) = behind (λ n. options_from (word + 2) n rest) (gives (word + 1) g s value) now made in
    options_within (word + 2) next rest now (gives_within (word + 1) g s value next w given) end

or_default : {A : Type 0} (P : A → Type 0) (o : Option A) (d : A) → IfSome o P → P d → P (unwrap_or o d)
or_default P None d h k = k
or_default P (Some a) d h k = h

none_small : Small []
none_small = λ i d below. absurd (omega arith)

given_small : (o : Option (List (List ℕ × ℕ) × ℕ)) → IfSome o (λ (v : List (List ℕ × ℕ) × ℕ). Small v.0) → Small (option_map_or (λ (v : List (List ℕ × ℕ) × ℕ). v.0) o [])
given_small None h = none_small
given_small (Some v) h = h

chosen_within : (command : Command) (operand : List ℕ) (g : Given) → (command ≡ Infer) ⊎ (command ≡ Space) → AreWithin g → AreWithinRanges (chosen command operand g)
chosen_within command operand g known w = record {
  command = known;
  variables = given_small g.variables w.variables;
  literals = or_default (λ n. n ≤ 8) g.literals 2 w.literals (omega arith);
  runs = or_default (λ n. n ≤ 1000) g.runs 20 w.runs (omega arith);
  steps = or_default (λ n. n ≤ 1000) g.steps 30 w.steps (omega arith);
  size = or_default (λ n. (1 ≤ n) × (n ≤ 6)) g.size 4 w.size (omega arith, omega arith);
  workers = or_default (λ n. (1 ≤ n) × (n ≤ 16)) g.workers 1 w.workers (omega arith, omega arith);
}

line_within : (command : Command) (words : List (List ℕ)) (c : Choices) → (command ≡ Infer) ⊎ (command ≡ Space) → command_line command words ≡ Ok c → AreWithinRanges c
line_within command [] c known h = absurd (let l : ⊥ = cc in l)
line_within command (operand ∷ options) c known h = by_operand (is_operand operand) h
  where
    by_operand : (b : Bool) → (if b then with_value (λ given. Ok (chosen command operand given)) (options_from 3 nothing_given options) else bad_words {A = Choices} 2) ≡ Ok c → AreWithinRanges c
    by_operand true k =
        let (g, is, made) = behind (λ given. Ok (chosen command operand given)) (options_from 3 nothing_given options) c k in
        let same : chosen command operand g ≡ c = cc in
        subst AreWithinRanges same (chosen_within command operand g known (options_within 3 nothing_given options g nothing_within is))
    by_operand false k = absurd (let l : ⊥ = cc in l)

named_known : (name : List ℕ) (command : Command) → command_named name ≡ Some command → (command ≡ Infer) ⊎ (command ≡ Space)
named_known name command h = by_name (bytes_eq name (codes "infer")) (bytes_eq name (codes "space")) h
  where
    by_name : (a b : Bool) → (if a then Some Infer else (if b then Some Space else None)) ≡ Some command → (command ≡ Infer) ⊎ (command ≡ Space)
    by_name true b k = inl (let e : Infer ≡ command = cc in sym e)
    by_name false true k = inr (let e : Space ≡ command = cc in sym e)
    by_name false false k = absurd (let l : ⊥ = cc in l)

known_within : (words : List (List ℕ)) (o : Option Command) (c : Choices) → ((command : Command) → o ≡ Some command → (command ≡ Infer) ⊎ (command ≡ Space)) → known_command words o ≡ Ok c → AreWithinRanges c
known_within words None c known h = absurd (let l : ⊥ = cc in l)
known_within words (Some command) c known h = line_within command words c (known command refl) h

pub settings_within : (words : List (List ℕ)) (c : Choices) → settings_of words ≡ Ok c → AreWithinRanges c
settings_within [] c h = absurd (let l : ⊥ = cc in l)
settings_within (command ∷ words) c h = known_within words (command_named command) c (λ d e. named_known command d e) h
