-- One option with its value, and how many settings are given then.
use Rattle.std.proofs.Common.{◌≡◌, ◌+◌, ◌-◌, ◌<◌, ◌^◌, ℕ, zero, suc, Bool, true, false, List, [], ◌∷◌, length, drop, get_or, Option, Some, None, Result, Ok, Err, sym, ◌∙◌, ap, subst, refl, arith, slice_get, if◌then◌else◌}
use Rattle.std.specs.Prelude.{String, string_bytes}
use Rattle.std.specs.Option.{option_map_or, is_some}
use Rattle.std.specs.declared.alloc.Global.{Global}
use Rattle.dai_words.specs.declared.settings.Setting.{Setting}
use Rattle.dai_words.specs.declared.settings.Setting.TheVariants.{Variables, Literals, Seed, Runs, Steps, Size, Workers}
use Rattle.dai_words.specs.declared.settings.WordsError.{WordsError}
use Rattle.dai_words.specs.declared.settings.WordsError.TheVariants.{Bad, Spent}
use Rattle.dai_words.specs.Refusals.{Refusal, bad_words, with_value}
use Rattle.dai_words.specs.Numbers.{number_at}
use Rattle.dai_words.specs.Bounds.{bounds_at}
use Rattle.dai_words.specs.Options.{Given, setting_named, is_given, new_setting, gives, options_from, one_if, number_given}
use Rattle.dai_words.specs.Readings.{texts, IsWordsError}

abbrev pub named_at : List (List ℕ) → ℕ → Option Setting
named_at words at = option_map_or setting_named (slice_get words at) None

-- the words from this place on: an option, its value and the rest
pub record IsPair (words : List (String Global)) (at : ℕ) (value : List ℕ) : Type 0 where
  pub option : List ℕ
  pub named : named_at (texts words) at ≡ setting_named option
  pub split : texts (drop at words) ≡ option ∷ value ∷ texts (drop (at + 2) words)

pub pair_at : (words : List (String Global)) (at : ℕ) (v : String Global) → at + 1 < length words → v ≡ get_or words (at + 1) v → IsPair words at (string_bytes v)
pair_at [] at v below is = absurd (omega arith)
pair_at (w ∷ []) at v below is = absurd (omega arith)
pair_at (w ∷ x ∷ ws) zero v below is = record { option = string_bytes w; named = refl; split = ap (λ (u : String Global). string_bytes w ∷ string_bytes u ∷ texts ws) (sym is) }
pair_at (w ∷ x ∷ ws) (suc at) v below is =
    let place : suc at + 1 ≡ suc (at + 1) = omega arith in
    let rest = pair_at (x ∷ ws) at v (omega arith) (is ∙ ap (λ n. get_or (w ∷ x ∷ ws) n v) place) in
    let same : drop (suc at + 2) (w ∷ x ∷ ws) ≡ drop (at + 2) (x ∷ ws) = ap (λ n. drop n (w ∷ x ∷ ws)) (let e : suc at + 2 ≡ suc (at + 2) = omega arith in e) in
    record { option = rest.option; named = rest.named; split = rest.split ∙ ap (λ ys. rest.option ∷ string_bytes v ∷ texts ys) (sym same) }

-- what the words from here on give, once the option is known
pub after_option : (words : List (String Global)) (at : ℕ) (given : Given) (setting : Setting) (value : List ℕ) → IsPair words at value → new_setting (at + 1) given (named_at (texts words) at) ≡ Ok setting
    → options_from (at + 1) given (texts (drop at words)) ≡ with_value (λ now. options_from (at + 1 + 2) now (texts (drop (at + 2) words))) (gives (at + 1 + 1) given setting value)
after_option words at given setting value p new =
    ap (options_from (at + 1) given) p.split
    ∙ ap (with_value (λ s. with_value (λ now. options_from (at + 1 + 2) now (texts (drop (at + 2) words))) (gives (at + 1 + 1) given s value))) (ap (new_setting (at + 1) given) (sym p.named) ∙ new)

pub refused_through : {A B : Type 0} (next : A → Result B Refusal) (defined : Result A Refusal) (whole : Result B Refusal) (e : WordsError) → whole ≡ with_value next defined → IsWordsError defined e → IsWordsError whole e
refused_through next defined whole (Bad number word) is h = (is ∙ ap (with_value next) h.0, h.1)
refused_through next defined whole Spent is h = tt

-- a value that is accepted
accepted : {A B : Type 0} (next : A → B) (value : Result A Refusal) (now : B) → with_value (λ a. Ok (next a)) value ≡ Ok now → (a : A) × (next a ≡ now)
accepted next (Ok a) now h = (a, let e : next a ≡ now = cc in e)
accepted next (Err r) now h = absurd (let e : ⊥ = cc in e)

absent : {A : Type 0} (o : Option A) → is_some o ≡ false → one_if o ≡ 0
absent None h = refl
absent (Some a) h = absurd (let e : ⊥ = cc in e)

-- one setting more is given
pub one_more : (word : ℕ) (given : Given) (setting : Setting) (text : List ℕ) (now : Given) → is_given given setting ≡ false → gives word given setting text ≡ Ok now → number_given now ≡ number_given given + 1
one_more word given Variables text now new h =
    let made = accepted (λ bounds. let g : Given = record given { variables = Some (bounds, word) } in g) (bounds_at word text) now h in
    let none = absent given.variables new in
    ap number_given (sym made.1) ∙ omega arith
one_more word given Literals text now new h =
    let made = accepted (λ n. let g : Given = record given { literals = Some n } in g) (number_at 0 8 word text) now h in
    let none = absent given.literals new in
    ap number_given (sym made.1) ∙ omega arith
one_more word given Seed text now new h =
    let made = accepted (λ n. let g : Given = record given { seed = Some n } in g) (number_at 0 (2 ^ 64 - 1) word text) now h in
    let none = absent given.seed new in
    ap number_given (sym made.1) ∙ omega arith
one_more word given Runs text now new h =
    let made = accepted (λ n. let g : Given = record given { runs = Some n } in g) (number_at 0 1000 word text) now h in
    let none = absent given.runs new in
    ap number_given (sym made.1) ∙ omega arith
one_more word given Steps text now new h =
    let made = accepted (λ n. let g : Given = record given { steps = Some n } in g) (number_at 0 1000 word text) now h in
    let none = absent given.steps new in
    ap number_given (sym made.1) ∙ omega arith
one_more word given Size text now new h =
    let made = accepted (λ n. let g : Given = record given { size = Some n } in g) (number_at 1 6 word text) now h in
    let none = absent given.size new in
    ap number_given (sym made.1) ∙ omega arith
one_more word given Workers text now new h =
    let made = accepted (λ n. let g : Given = record given { workers = Some n } in g) (number_at 1 16 word text) now h in
    let none = absent given.workers new in
    ap number_given (sym made.1) ∙ omega arith

new_by : (word : ℕ) (given : Given) (setting s : Setting) (b : Bool) → is_given given setting ≡ b → (if b then bad_words {A = Setting} word else Ok setting) ≡ Ok s → is_given given s ≡ false
new_by word given setting s true e h = absurd (let f : ⊥ = cc in f)
new_by word given setting s false e h = let same : setting ≡ s = cc in subst (λ t. is_given given t ≡ false) same e

pub not_given : (word : ℕ) (given : Given) (o : Option Setting) (s : Setting) → new_setting word given o ≡ Ok s → is_given given s ≡ false
not_given word given None s h = absurd (let f : ⊥ = cc in f)
not_given word given (Some setting) s h = new_by word given setting s (is_given given setting) refl h

-- the same with the words' numbers as the code has them
pub at_two : (words : List (String Global)) (at : ℕ) (given : Given) (setting : Setting) (value text : List ℕ) → text ≡ value → IsPair words at value → new_setting (at + 1) given (named_at (texts words) at) ≡ Ok setting
    → options_from (at + 1) given (texts (drop at words)) ≡ with_value (λ now. options_from (at + 2 + 1) now (texts (drop (at + 2) words))) (gives (at + 2) given setting text)
at_two words at given setting value text same p new =
    let two : at + 1 + 1 ≡ at + 2 = omega arith in
    let three : at + 1 + 2 ≡ at + 2 + 1 = omega arith in
    after_option words at given setting value p new
    ∙ (λ i. with_value (λ now. options_from (three i) now (texts (drop (at + 2) words))) (gives (two i) given setting (sym same i)))
